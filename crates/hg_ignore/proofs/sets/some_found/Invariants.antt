use Rattle.std.proofs.Common.{◌≡◌, false, map, take}
use Rattle.std.specs.List.{list_any}
use Rattle.regex.specs.Strings.{set_matcher_patterns}
use Rattle.hg_ignore.specs.Kept.{some_in}
use Rattle.hg_ignore.proofs.sets.some_found.Given as goal

-- the sets ask the same, and none so far finds the text
abbrev pub invariant-loop-i : goal.invariant-loop-i
invariant-loop-i l = record {
  same : map set_matcher_patterns l.matchers.items ≡ map set_matcher_patterns l.initial.matchers.items;
  none : list_any (λ patterns. some_in patterns l.text) (take l.i (map set_matcher_patterns l.initial.matchers.items)) ≡ false;
}
