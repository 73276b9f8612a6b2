use Rattle.std.proofs.Common.{◌≡◌, ◌≤◌, ◌++◌, ◌+◌, length}
use Rattle.hg_glob.specs.Part.{parts_from}
use Rattle.hg_glob.proofs.spell.spell.Given as goal

abbrev pub invariant-loop-c : goal.invariant-loop-c
invariant-loop-c l = record {
  place : l.at + length l.left ≡ length l.text;
  depth : l.depth ≤ l.at;
  parts : l.parts.items ++ parts_from 0 l.depth l.at l.left ≡ parts_from 0 0 0 l.text;
}

abbrev pub decreases-loop-c : goal.decreases-loop-c
decreases-loop-c l = length l.left
