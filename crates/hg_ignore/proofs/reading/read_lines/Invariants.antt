use Rattle.std.proofs.Common.{◌≡◌, ◌+◌, ◌≤◌, length}
use Rattle.std.specs.Str.{IsUtf8}
use Rattle.hg_ignore.specs.Line.{lines_of}
use Rattle.hg_ignore.specs.Taking.{Reaches}
use Rattle.hg_ignore.proofs.Lines.{left_from}
use Rattle.hg_ignore.proofs.reading.read_lines.Given as goal

abbrev pub invariant-loop-line : goal.invariant-loop-line
invariant-loop-line g l = record {
  text : IsUtf8 l.left;
  reaches : Reaches (lines_of l.text) (left_from l.n l.reading.syntax l.left) l.reading;
  far : l.n + length l.left ≤ length l.text + 1;
  quiet : g.G.Regexps.oversize l.regexps ≡ g.G.Regexps.oversize l.initial.regexps;
}

abbrev pub decreases-loop-line : goal.decreases-loop-line
decreases-loop-line g l = length l.left
