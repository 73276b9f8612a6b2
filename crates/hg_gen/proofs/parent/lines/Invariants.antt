-- The lines so far and those of the entries that are left are the lines of all.
use Rattle.std.proofs.Common.{◌≡◌, ◌++◌}
use Rattle.std.specs.Prelude.{map}
use Rattle.hg_gen.specs.Manifest.{lines_of, pair}
use Rattle.hg_gen.proofs.parent.lines.Given as goal

abbrev pub invariant-loop-path : goal.invariant-loop-path
invariant-loop-path l = l.text.items ++ lines_of (map pair l.path-iterator) ≡ lines_of (map pair l.rows.entries)
