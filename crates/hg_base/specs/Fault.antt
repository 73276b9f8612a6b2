-- What a count of failures says. Each device has one count, a number below 2 ^ 64 that never falls and stands still at its end.
use Rattle.std.specs.Prelude.{ℕ, ◌≡◌, ◌+◌, ◌≤◌, ◌<◌, ◌-◌, ◌^◌, min, Result, IfErr, OnOk}

-- the count rose between two moments, or stood at its end already
abbrev pub Rose : ℕ → ℕ → Type 0
Rose before now = min (before + 1) (2 ^ 64 - 1) ≤ now

-- the count stands as it stood, and not at its end
abbrev pub IsSteady : ℕ → ℕ → Type 0
IsSteady before now = (now ≡ before) × (before < 2 ^ 64 - 1)

-- what every call of a device says of its count: it never falls, a call in which it rose answers an error, and an error that
-- says that the device failed comes only where it rose
pub record HasCause {T E : Type 0} (before now : ℕ) (result : Result T E) (IsFailed : E → Type 0) : Type 0 where
  pub later : before ≤ now
  pub quiet : OnOk result (now ≡ before)
  pub rose : IfErr result (λ e. IsFailed e → Rose before now)
