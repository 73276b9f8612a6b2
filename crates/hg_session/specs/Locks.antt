-- How the calls of the lock went in a call that changes the record, where they are told.
use Rattle.std.specs.Prelude.{ℕ, ◌≡◌, ◌⊎◌, ◌≤◌, List, [], ◌∷◌, ◌++◌}
use Rattle.std.specs.List.{AllByRecursion}
use Rattle.hg_shelf.specs.History.{History}
use Rattle.hg_shelf.specs.declared.asked.LockAnswer.{LockAnswer}
use Rattle.hg_shelf.specs.declared.asked.LockAnswer.TheVariants as an_answer
use Rattle.hg_shelf.specs.declared.asked.LockCall.{LockCall}

-- a call of the lock came to this, at a moment
abbrev pub came_to : LockAnswer → ℕ → LockCall
came_to answer at = record { answer = answer; moment = at }

-- the lock was taken at the first of two moments, and not called for again before the second
pub record TakenAt (old new : History) (from to : ℕ) : Type 0 where
  pub behind : List LockCall
  pub locks : new.locks ≡ old.locks ++ came_to an_answer.Taken from ∷ behind
  pub later : AllByRecursion (λ call. to ≤ call.moment) behind

-- it was refused
pub record Refused (old new : History) : Type 0 where
  pub at : ℕ
  pub locks : new.locks ≡ old.locks ++ came_to an_answer.Refused at ∷ []

-- taking it failed; that isn't noted where there was no memory
pub record NotTaken (old new : History) : Type 0 where
  pub at : ℕ
  pub locks : (new.locks ≡ old.locks ++ came_to an_answer.NotTaken at ∷ []) ⊎ (new.locks ≡ old.locks)

-- it was taken, and given back
pub record Returned (old new : History) : Type 0 where
  pub from : ℕ
  pub back : ℕ
  pub order : from ≤ back
  pub locks : new.locks ≡ old.locks ++ came_to an_answer.Taken from ∷ came_to an_answer.GivenBack back ∷ []

-- it was taken, and giving it back failed; that isn't noted where there was no memory
pub record NotReturned (old new : History) : Type 0 where
  pub from : ℕ
  pub back : ℕ
  pub order : from ≤ back
  pub locks : (new.locks ≡ old.locks ++ came_to an_answer.Taken from ∷ came_to an_answer.NotGivenBack back ∷ []) ⊎ (new.locks ≡ old.locks ++ came_to an_answer.Taken from ∷ [])
