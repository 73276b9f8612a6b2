use Rattle.std.proofs.Common.{◌≡◌, ◌++◌, ◌+◌, length}
use Rattle.hg_glob.specs.Part.{ranges_from}
use Rattle.hg_glob.proofs.spell.push_ranges.Given as goal

abbrev pub invariant-loop-low : goal.invariant-loop-low
invariant-loop-low l = record {
  place : l.place + length l.left ≡ l.at + length l.text;
  parts : l.parts.items ++ ranges_from 0 l.place l.left ≡ l.fn.parts.items ++ ranges_from 0 l.at l.text;
}

abbrev pub decreases-loop-low : goal.decreases-loop-low
decreases-loop-low l = length l.left
