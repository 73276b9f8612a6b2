use Rattle.std.proofs.Common.{◌≡◌, take}
use Rattle.std.specs.List.{flat_map}
use Rattle.hg_report.specs.Warnings.{warning_line}
use Rattle.hg_report.proofs.warnings.warnings_text.Given as goal

-- the lines of the warnings so far
abbrev pub invariant-loop-i : goal.invariant-loop-i
invariant-loop-i l = l.text.items ≡ flat_map warning_line (take l.i l.warnings)
