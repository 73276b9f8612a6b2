use Rattle.std.proofs.Common.{◌≡◌, ◌+◌, ◌≤◌, ◌++◌, length}
use Rattle.std.specs.Str.{IsUtf8}
use Rattle.hg_include.specs.Line.{lines_from, lines_of}
use Rattle.hg_syntax.specs.Text.{pieces}
use Rattle.hg_include.proofs.line.lines_of.Given as goal

-- the lines so far and those of what is left are all
abbrev pub invariant-loop-line : goal.invariant-loop-line
invariant-loop-line l = record {
  text : IsUtf8 l.left;
  all : l.taken.items ++ lines_from l.n (pieces 10 l.left) ≡ lines_of l.text;
  far : l.n + length l.left ≤ length l.text + 1;
}

abbrev pub decreases-loop-line : goal.decreases-loop-line
decreases-loop-line l = length l.left
