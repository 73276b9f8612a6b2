use Rattle.std.proofs.Common.{◌+◌, ◌*◌, length}
use Rattle.hg_mixed.proofs.taking.+taking.Given as goal

-- a directory is shorter than what stands in it
abbrev pub decreases-take_above : goal.decreases-take_above
decreases-take_above l = 2 * length l.path.text.now

abbrev pub decreases-take_for : goal.decreases-take_for
decreases-take_for l = 2 * length l.path.text.now + 1
