use Rattle.std.proofs.Common.{codes}
use Rattle.hg_front.specs.Shown.{shown_byte}
use Rattle.hg_front.proofs.Fronts.{at_err, front_of, then_front}
use Rattle.std.proofs.lemmas.Result.{on_err_weaker}
use Rattle.hg_front.proofs.flags.put_dashed.Goals as goal

pub returns-in_err-put_pieces-clause-prefix : goal.returns-in_err-put_pieces-clause-prefix
returns-in_err-put_pieces-clause-prefix g c = at_err c.from_residual.result (front_of _ _ (codes "-") (shown_byte c.args.letter) c.in_err-put_pieces.ensures.prefix)

pub returns-clause-prefix : goal.returns-clause-prefix
returns-clause-prefix g c = on_err_weaker c.put_byte.result (then_front _ _ _ (codes "-") (shown_byte c.args.letter) c.in_ok-put_pieces.ensures.all) c.put_byte.ensures.prefix
