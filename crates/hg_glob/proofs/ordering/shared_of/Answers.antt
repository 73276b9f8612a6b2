use Rattle.std.proofs.Common.{arith}
use Rattle.hg_glob.proofs.Neighbours.{are_more}
use Rattle.hg_glob.proofs.ordering.shared_of.Goals as goal

pub loop-i-preserved : goal.loop-i-preserved
loop-i-preserved c = are_more c.args.row.now c.loop-i.i c.shared_at.result c.loop-i.shared.items c.push.new.self.items (omega arith) c.in_ok-push.ensures.items c.loop-i.invariant c.shared_at.ensures
