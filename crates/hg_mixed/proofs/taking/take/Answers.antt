use Rattle.std.proofs.Common.{sym}
use Rattle.hg_mixed.proofs.Freed.{none_out}
use Rattle.hg_mixed.proofs.taking.take.Goals as goal

pub returns-in-None-clause-out : goal.returns-in-None-clause-out
returns-in-None-clause-out c = none_out c.args.dir.now c.args.left.now (sym c.in-None.ensures.rows) c.requires.free
