-- A directory is shorter than what stands in it.
use Rattle.std.proofs.Common.{length}
use Rattle.hg_nodes.proofs.pruning.+prune.Given as goal

abbrev pub decreases-prune : goal.decreases-prune
decreases-prune l = length l.path.text.now
