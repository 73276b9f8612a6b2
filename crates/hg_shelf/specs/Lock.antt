-- What taking the lock and giving it back answer, by whether the caller holds it and how many locks were refused.
use Rattle.std.specs.Prelude.{ℕ, ◌≡◌, ◌⊎◌, Bool, true, false, [], ◌∷◌, ◌++◌, Result, Ok, Err, IsTrue}
use Rattle.hg_base.specs.Fault.{Rose}
use Rattle.hg_shelf.specs.History.{History}
use Rattle.hg_shelf.specs.declared.asked.LockAnswer.{LockAnswer}
use Rattle.hg_shelf.specs.declared.asked.LockAnswer.TheVariants as an_answer

-- the caller holds it from then on; it was refused, and counted; or the call failed. Only a refusal is counted
abbrev pub Locks : {E : Type 0} → Bool → Bool → ℕ → ℕ → Result Bool E → Type 0
Locks was is before now (Ok true) = (is ≡ true) × (now ≡ before)
Locks was is before now (Ok false) = (is ≡ was) × Rose before now
Locks was is before now (Err fault) = (is ≡ was) × (now ≡ before)

-- the caller holds it no more; where the call failed it may have been given back
abbrev pub Unlocks : {T E : Type 0} → Bool → Bool → Result T E → Type 0
Unlocks was is (Ok done) = is ≡ false
Unlocks was is (Err fault) = IsTrue is → IsTrue was

-- a call of the lock is noted behind the earlier ones, with the last moment at its end
abbrev pub IsNoted : LockAnswer → History → History → Type 0
IsNoted answer old new = new.locks ≡ old.locks ++ record { answer = answer; moment = new.last } ∷ []

-- what taking the lock came to is noted; a call that failed may be missing, where there was no memory to note it
abbrev pub NotesLock : {E : Type 0} → History → History → Result Bool E → Type 0
NotesLock old new (Ok true) = IsNoted an_answer.Taken old new
NotesLock old new (Ok false) = IsNoted an_answer.Refused old new
NotesLock old new (Err fault) = IsNoted an_answer.NotTaken old new ⊎ (new.locks ≡ old.locks)

-- and what giving it back came to
abbrev pub NotesUnlock : {T E : Type 0} → History → History → Result T E → Type 0
NotesUnlock old new (Ok done) = IsNoted an_answer.GivenBack old new
NotesUnlock old new (Err fault) = IsNoted an_answer.NotGivenBack old new ⊎ (new.locks ≡ old.locks)
