-- A parent is shorter than the path.
use Rattle.std.proofs.Common.{length}
use Rattle.hg_tree.proofs.things.+plant.Given as goal

abbrev pub decreases-plant : goal.decreases-plant
decreases-plant l = length l.path.text.now
