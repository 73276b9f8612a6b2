use Rattle.std.proofs.Common.{◌≤◌, length, drop}
use Rattle.hg_cli.specs.Reads.{AreRead}
use Rattle.hg_cli.proofs.reading.reads.Given as goal

-- the paths of the asks behind this place
abbrev pub invariant-loop-at : goal.invariant-loop-at
invariant-loop-at l = record {
  below : l.at ≤ length l.asked;
  are : AreRead (drop l.at l.asked) l.paths;
}

abbrev pub decreases-loop-at : goal.decreases-loop-at
decreases-loop-at l = l.at
