use Rattle.std.proofs.Common.{length}
use Rattle.hg_image.proofs.finding.+node_in.Given as goal

-- a directory is shorter than what stands in it
abbrev pub decreases-node_in : goal.decreases-node_in
decreases-node_in l = length l.path.text.now
