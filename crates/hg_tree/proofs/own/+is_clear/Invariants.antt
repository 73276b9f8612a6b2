-- A parent is shorter than the path.
use Rattle.std.proofs.Common.{length}
use Rattle.hg_tree.proofs.own.+is_clear.Given as goal

abbrev pub decreases-is_clear : goal.decreases-is_clear
decreases-is_clear l = length l.path.text.now
