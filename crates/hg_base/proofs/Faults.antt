-- Counts of failures over several calls of one device.
use Rattle.std.proofs.Common.{◌≡◌, ℕ, ◌-◌, ◌<◌, ◌≤◌, ◌^◌, refl, sym, subst, arith, Ok, Err, le_trans}
use Rattle.std.specs.Prelude.{Result}
use Rattle.hg_base.specs.Fault.{Rose, IsSteady, HasCause}

-- a count that rose early stays risen, and one that rises late rose since before
pub rose_later : (a b c : ℕ) → Rose a b → b ≤ c → Rose a c
rose_later a b c rose later = le_trans rose later

pub rose_earlier : (a b c : ℕ) → a ≤ b → Rose b c → Rose a c
rose_earlier a b c earlier rose = omega arith

pub rose_within : (a b c d : ℕ) → a ≤ b → Rose b c → c ≤ d → Rose a d
rose_within a b c d earlier rose later = omega arith

-- a count that is steady from end to end is so in between
pub steady_first : (a b c : ℕ) → a ≤ b → b ≤ c → IsSteady a c → IsSteady a b
steady_first a b c p q steady = (omega (arith, steady.0, p, q), steady.1)

pub steady_second : (a b c : ℕ) → a ≤ b → b ≤ c → IsSteady a c → IsSteady b c
steady_second a b c p q steady = (omega (arith, steady.0, p, q), omega (arith, steady.0, steady.1, p, q))

pub steady_same : (a : ℕ) → a < 2 ^ 64 - 1 → IsSteady a a
steady_same a h = (refl, h)

-- what is steady didn't rise
pub steady_not_rose : (a b : ℕ) → IsSteady a b → Rose a b → ⊥
steady_not_rose a b steady rose = omega (arith, steady.0, steady.1, rose)

module _ {T E : Type 0} (IsFailed : E → Type 0) where
  -- no call at all
  pub cause_ok : (count : ℕ) (value : T) → HasCause count count (Ok value) IsFailed
  cause_ok count value = record { later = omega arith; quiet = refl; rose = tt }

  -- an error that says nothing of this device
  pub cause_other : (before now : ℕ) (error : E) → before ≤ now → (IsFailed error → ⊥) → HasCause {T = T} before now (Err error) IsFailed
  cause_other before now error later other = record { later = later; quiet = tt; rose = λ failed. absurd (other failed) }

  -- calls that answered no error before the one that gives the answer
  pub cause_before : (first before now : ℕ) (result : Result T E) → before ≡ first → HasCause before now result IsFailed → HasCause first now result IsFailed
  cause_before first before now result same cause = subst (λ (n : ℕ). HasCause n now result IsFailed) same cause

  -- and calls without a count behind it
  pub cause_after : (before now last : ℕ) (result : Result T E) → last ≡ now → HasCause before now result IsFailed → HasCause before last result IsFailed
  cause_after before now last result same cause = subst (λ (n : ℕ). HasCause before n result IsFailed) (sym same) cause

  -- an error that a later call answers, where the count only didn't fall before it
  pub cause_trans : (first before now : ℕ) (error : E) → first ≤ before → HasCause {T = T} before now (Err error) IsFailed → HasCause {T = T} first now (Err error) IsFailed
  cause_trans first before now error earlier cause = record {
    later = le_trans earlier cause.later;
    quiet = tt;
    rose = λ failed. rose_earlier first before now earlier (cause.rose failed);
  }

  -- the value of an answer that is no error doesn't matter
  pub cause_value : (before now : ℕ) (old : T) {U : Type 0} (new : U) → HasCause before now (Ok old) IsFailed → HasCause before now (Ok new) IsFailed
  cause_value before now old new cause = record { later = cause.later; quiet = cause.quiet; rose = tt }

  -- the error of one call as the error of another kind, which says that the device failed only where the first did
  pub cause_as : {U F : Type 0} (IsLost : F → Type 0) (before now : ℕ) (error : E) (fault : F) → (IsLost fault → IsFailed error)
      → HasCause {T = T} before now (Err error) IsFailed → HasCause {T = U} before now (Err fault) IsLost
  cause_as IsLost before now error fault gives cause = record { later = cause.later; quiet = tt; rose = λ lost. cause.rose (gives lost) }

-- an error of a call of one device is none of another device's, whose count stands as it stood
pub cause_still : {T E : Type 0} (IsFailed : E → Type 0) (count : ℕ) (error : E) → (IsFailed error → ⊥) → HasCause {T = T} count count (Err error) IsFailed
cause_still IsFailed count error other = record { later = omega arith; quiet = tt; rose = λ failed. absurd (other failed) }
