use Rattle.std.proofs.Common.{◌≡◌, map, ◌++◌}
use Rattle.regex.specs.Strings.{regex_pattern}
use Rattle.hg_ignore.specs.Kept.{patterns_kept}
use Rattle.hg_ignore.proofs.sets.sets_of.Given as goal

-- the sets and the part have the patterns so far
abbrev pub invariant-loop-regex : goal.invariant-loop-regex
invariant-loop-regex l = patterns_kept l.sets.items ++ map regex_pattern l.part.items ≡ map regex_pattern l.yielded
