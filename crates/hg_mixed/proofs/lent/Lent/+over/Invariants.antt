use Rattle.std.proofs.Common.{length}
use Rattle.hg_mixed.proofs.lent.Lent.+over.Given as goal

-- a directory is shorter than what stands in it
abbrev pub decreases-over : goal.decreases-over
decreases-over l = length l.path.text.now
