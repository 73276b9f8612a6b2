use Rattle.std.proofs.Common.{sym}
use Rattle.hg_image.proofs.Texts.{path_false}
use Rattle.hg_mixed.specs.Held.{table}
use Rattle.hg_ops.proofs.Forgotten.{no_path}
use Rattle.hg_ops.proofs.forgetting.forget.Goals as goal

pub returns-in-Err-clause-stepped : goal.returns-in-Err-clause-stepped
returns-in-Err-clause-stepped c = no_path c.args.word.now (table c.args.mixed.now) (path_false c.args.word.now c.in-Err.field-0 (sym c.in-Err.ensures.refused))
