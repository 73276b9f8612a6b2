use Rattle.std.proofs.Common.{rules}
use Rattle.hg_shelf.proofs.Replay.{left_after}
use Rattle.hg_shelf.proofs.log.Log.make.Goals as goal

pub invariant_of-self-2 : goal.invariant_of-self-2
invariant_of-self-2 c = left_after c.self.inside.changes.items c.push.new.self.items c.args.change _ _ (search rules) c.self.invariant c.in_ok-step.ensures.ok
