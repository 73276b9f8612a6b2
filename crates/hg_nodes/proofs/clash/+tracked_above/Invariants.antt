-- A directory is shorter than what stands in it.
use Rattle.std.proofs.Common.{length}
use Rattle.hg_nodes.proofs.clash.+tracked_above.Given as goal

abbrev pub decreases-tracked_above : goal.decreases-tracked_above
decreases-tracked_above l = length l.path.text.now
