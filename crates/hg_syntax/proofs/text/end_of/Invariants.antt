use Rattle.std.proofs.Common.{◌≡◌, ◌+◌, ◌-◌, ◌≤◌, length, take, IsCharBoundary}
use Rattle.std.specs.List.{suffix_len}
use Rattle.hg_syntax.specs.Text.{is_white}
use Rattle.hg_syntax.proofs.text.end_of.Given as goal

abbrev pub invariant-loop-end : goal.invariant-loop-end
invariant-loop-end l = record {
  within : l.end ≤ length l.text;
  rest : suffix_len is_white l.text ≡ (length l.text - l.end) + suffix_len is_white (take l.end l.text);
  cut : IsCharBoundary l.text l.end;
}

abbrev pub decreases-loop-end : goal.decreases-loop-end
decreases-loop-end l = l.end
