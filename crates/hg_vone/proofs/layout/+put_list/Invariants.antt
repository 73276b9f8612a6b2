use Rattle.std.proofs.Common.{◌-◌, ◌≤◌, length}
use Rattle.hg_vone.proofs.layout.+put_list.Given as goal

abbrev pub decreases-put_list : goal.decreases-put_list
decreases-put_list l = l.levels

abbrev pub invariant-loop-at : goal.invariant-loop-at
invariant-loop-at l = l.at ≤ length l.items

abbrev pub decreases-loop-at : goal.decreases-loop-at
decreases-loop-at l = length l.items - l.at
