use Rattle.std.proofs.Common.{◌≡◌, take}
use Rattle.std.specs.List.{flat_map}
use Rattle.hg_report.specs.Status.{row_text}
use Rattle.hg_report.proofs.status.status_text.Given as goal

-- the lines of the rows so far
abbrev pub invariant-loop-i : goal.invariant-loop-i
invariant-loop-i l = l.text.items ≡ flat_map (row_text l.style) (take l.i l.rows)
