use Rattle.std.proofs.Common.{◌≡◌, ◌++◌, take}
use Rattle.std.specs.List.{flat_map}
use Rattle.hg_report.specs.Debug.{row_line}
use Rattle.hg_report.proofs.debug.put_records.Given as goal

-- the lines of the rows so far stand behind what was there
abbrev pub invariant-loop-row : goal.invariant-loop-row
invariant-loop-row l = l.text.items ≡ l.initial.text.items ++ flat_map row_line (take l.row-index l.rows)
