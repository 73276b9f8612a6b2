-- The calls of a device in memory, which fails where it is told to.
use Rattle.std.specs.Prelude.{ℕ, ◌+◌, ◌-◌, ◌^◌, min, Bool, List, [], ◌∷◌, ◌++◌, ◌==◌}
use Rattle.std.specs.List.{list_any}

-- the numbers of the calls that are to fail, counted from 0; how many were made, and how many failed
pub record Counted : Type 0 where
  pub failing : List ℕ
  pub made : ℕ
  pub faults : ℕ

-- no call was made, and none is to fail
abbrev pub unmade : Counted
unmade = record { failing = []; made = 0; faults = 0 }

-- one call more is to fail
abbrev pub fails_at : ℕ → Counted → Counted
fails_at call calls = record calls { failing = calls.failing ++ call ∷ [] }

-- the next call is to fail
abbrev pub is_due : Counted → Bool
is_due calls = list_any (λ call. call == calls.made) calls.failing

-- after a call that succeeds
abbrev pub answered : Counted → Counted
answered calls = record calls { made = min (calls.made + 1) (2 ^ 64 - 1) }

-- after a call that fails
abbrev pub failed : Counted → Counted
failed calls = record calls { made = min (calls.made + 1) (2 ^ 64 - 1); faults = min (calls.faults + 1) (2 ^ 64 - 1) }
