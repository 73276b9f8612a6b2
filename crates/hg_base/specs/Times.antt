-- The order of times.
use Rattle.std.specs.Prelude.{◌≡◌, ◌<◌, ◌≤◌, ◌<ℤ◌, ◌⊎◌}
use Rattle.hg_base.specs.declared.time.Time.{Time}

-- a time is earlier than another
abbrev pub IsBefore : Time → Time → Type 0
IsBefore a b = (a.seconds <ℤ b.seconds) ⊎ ((a.seconds ≡ b.seconds) × (a.nanos < b.nanos))

-- a time is earlier than another, or the same
abbrev pub IsAtMost : Time → Time → Type 0
IsAtMost a b = (a.seconds <ℤ b.seconds) ⊎ ((a.seconds ≡ b.seconds) × (a.nanos ≤ b.nanos))
