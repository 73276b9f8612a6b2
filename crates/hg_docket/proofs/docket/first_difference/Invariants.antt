use Rattle.std.proofs.Common.{◌≡◌, ◌+◌, ◌≤◌, length}
use Rattle.hg_docket.specs.Docket.{first_other}
use Rattle.hg_docket.proofs.docket.first_difference.Given as goal

abbrev pub invariant-loop-front : goal.invariant-loop-front
invariant-loop-front l = record {
  same : first_other 0 l.fn.front l.fn.bytes ≡ first_other l.at l.front l.rest;
  few : l.at + length l.front ≤ 12;
}

abbrev pub decreases-loop-front : goal.decreases-loop-front
decreases-loop-front l = length l.front
