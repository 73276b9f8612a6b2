use Rattle.std.proofs.Common.{length}
use Rattle.hg_mixed.proofs.lent.Lent.+end_above.Given as goal

-- a directory is shorter than what stands in it
abbrev pub decreases-end_above : goal.decreases-end_above
decreases-end_above l = length l.path.text.now
