use Rattle.std.proofs.Common.{◌≡◌, ◌+◌, ◌-◌, ◌≤◌, length, drop, IsCharBoundary}
use Rattle.std.specs.List.{prefix_len}
use Rattle.hg_syntax.specs.Text.{is_white}
use Rattle.hg_syntax.proofs.text.start_of.Given as goal

abbrev pub invariant-loop-start : goal.invariant-loop-start
invariant-loop-start l = record {
  within : l.start ≤ length l.text;
  rest : prefix_len is_white l.text ≡ l.start + prefix_len is_white (drop l.start l.text);
  cut : IsCharBoundary l.text l.start;
}

abbrev pub decreases-loop-start : goal.decreases-loop-start
decreases-loop-start l = length l.text - l.start
