use Rattle.std.proofs.Common.{◌≡◌, ◌≤◌, ◌++◌, drop, length}
use Rattle.hg_docket.specs.Number.{hex_text}
use Rattle.hg_docket.proofs.number.hex_text.Given as goal

abbrev pub invariant-loop-at : goal.invariant-loop-at
invariant-loop-at l = record {
  below : l.at ≤ 16;
  len : length l.digits ≡ 16;
  whole : hex_text 16 l.fn.n ≡ hex_text l.at l.rest ++ drop l.at l.digits;
}

abbrev pub decreases-loop-at : goal.decreases-loop-at
decreases-loop-at l = l.at
