-- A directory is shorter than what stands in it.
use Rattle.std.proofs.Common.{length}
use Rattle.hg_ops.proofs.vacant.+is_clear_above.Given as goal

abbrev pub decreases-is_clear_above : goal.decreases-is_clear_above
decreases-is_clear_above g l = length l.path.text.now
