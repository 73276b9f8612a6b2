use Rattle.std.proofs.Common.{arith}
use Rattle.hg_glob.proofs.Neighbours.{shares_more}
use Rattle.hg_glob.proofs.ordering.shared_end.Goals as goal

pub loop-k-preserved : goal.loop-k-preserved
loop-k-preserved c = shares_more c.loop-k.k c.args.a.now c.args.b.now _ (omega arith) (omega arith) (c.is_alike.ensures c.if-not-is_alike.false) c.loop-k.invariant
