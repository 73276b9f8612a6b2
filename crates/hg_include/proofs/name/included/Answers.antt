use Rattle.std.proofs.Common.{sym}
use Rattle.hg_include.proofs.Naming.{no_path}
use Rattle.hg_include.proofs.name.included.Goals as goal

pub returns-in-Err : goal.returns-in-Err
returns-in-Err c = rw (no_path c.args.name.now _ (sym c.in-Err.ensures.refused))
