-- A parent is shorter than the path.
use Rattle.std.proofs.Common.{length}
use Rattle.hg_tree.proofs.own.+make.Given as goal

abbrev pub decreases-make : goal.decreases-make
decreases-make l = length l.path.text.now
