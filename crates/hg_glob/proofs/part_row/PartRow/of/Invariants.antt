use Rattle.std.proofs.Common.{◌≡◌, map, take}
use Rattle.hg_glob.specs.Many.{parts_in}
use Rattle.hg_glob.proofs.part_row.PartRow.of.Given as goal

abbrev pub invariant-loop-line-2 : goal.invariant-loop-line-2
invariant-loop-line-2 l = l.row ≡ map parts_in (take l.line-index l.lines)
