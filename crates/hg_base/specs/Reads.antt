-- What a read of a part of a file answers.
use Rattle.std.specs.Prelude.{ℕ, ◌≡◌, ◌-◌, ◌≤◌, List, ◌++◌, length, take, drop, min, Option, Some, None}
use Rattle.hg_base.specs.declared.stat.Got.{Got}
use Rattle.hg_base.specs.declared.stat.Got.TheVariants as a_got

-- n bytes stand in the buffer: what lies past a place, as far as there is room; the rest of the buffer is as it was
pub record ReadsPast (bytes : List ℕ) (place : ℕ) (old new : List ℕ) (n : ℕ) : Type 0 where
  pub count : n ≡ min (length old) (length bytes - place)
  pub filled : new ≡ take n (drop place bytes) ++ drop n old

-- a read at a place of a file answers that it is absent exactly where it is, and then leaves the buffer
abbrev pub ReadsBytes : Option (List ℕ) → ℕ → List ℕ → List ℕ → Got → Type 0
ReadsBytes None place old new a_got.Absent = new ≡ old
ReadsBytes (Some bytes) place old new (a_got.Bytes n) = ReadsPast bytes place old new n
ReadsBytes None place old new (a_got.Bytes n) = ⊥
ReadsBytes (Some bytes) place old new a_got.Absent = ⊥

-- no more bytes were read than the buffer has room for
abbrev pub IsWithin : ℕ → Got → Type 0
IsWithin room a_got.Absent = Unit {0}
IsWithin room (a_got.Bytes n) = n ≤ room
