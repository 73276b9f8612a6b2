use Rattle.std.proofs.Common.{◌-◌, ◌≤◌, length}
use Rattle.hg_vone.proofs.layout.members.Given as goal

abbrev pub invariant-loop-n : goal.invariant-loop-n
invariant-loop-n l = (1 ≤ l.n) × (l.n ≤ length l.items)

abbrev pub decreases-loop-n : goal.decreases-loop-n
decreases-loop-n l = length l.items - l.n
