use Rattle.std.proofs.Common.{◌≤◌}
use Rattle.hg_glob.proofs.trail.cut.Given as goal

abbrev pub invariant-cut : goal.invariant-cut
invariant-cut l = l.k ≤ l.len

abbrev pub decreases-cut : goal.decreases-cut
decreases-cut l = l.k
