use Rattle.std.proofs.Common.{◌≡◌, ◌+◌, ◌≤◌, true, drop}
use Rattle.hg_cli.proofs.Counting.{lines_from}
use Rattle.hg_cli.proofs.lines.lines_with.Given as goal

-- the lines so far, and those of the rest
abbrev pub invariant-loop-b : goal.invariant-loop-b
invariant-loop-b l = record {
  sum : lines_from true l.letter l.text ≡ l.lines + lines_from l.begins l.letter (drop l.b-index l.text);
  few : l.lines ≤ l.b-index;
}
