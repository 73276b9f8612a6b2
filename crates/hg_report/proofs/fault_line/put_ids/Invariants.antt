use Rattle.std.proofs.Common.{◌≡◌, ◌++◌, ◌∷◌, take}
use Rattle.std.specs.List.{flat_map}
use Rattle.hg_report.proofs.fault_line.put_ids.Given as goal

-- the identifiers so far stand behind what was there
abbrev pub invariant-loop-i : goal.invariant-loop-i
invariant-loop-i l = l.line.items ≡ l.initial.line.items ++ flat_map (λ id. 32 ∷ id) (take l.i l.ids)
