use Rattle.std.proofs.Common.{◌≡◌, ◌++◌, length, map}
use Rattle.hg_race.specs.Edit.{row_of}
use Rattle.hg_race.proofs.Copying.{compact}
use Rattle.hg_race.proofs.copies.compact.Given as goal

abbrev pub invariant-loop-row : goal.invariant-loop-row
invariant-loop-row l = l.made ++ compact (map row_of l.left) ≡ compact l.rows

abbrev pub decreases-loop-row : goal.decreases-loop-row
decreases-loop-row l = length l.left
