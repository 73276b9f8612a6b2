-- A directory is shorter than what stands in it.
use Rattle.std.proofs.Common.{length}
use Rattle.hg_nodes.proofs.planting.+plant.Given as goal

abbrev pub decreases-plant : goal.decreases-plant
decreases-plant l = length l.path.text.now
