-- What a shelf was asked in a span of its history.
use Rattle.std.specs.Prelude.{ℕ, ◌≡◌, ◌⊎◌, Bool, false, List, ◌++◌, take, Result, Ok, Err}
use Rattle.std.specs.List.{AllByRecursion}
use Rattle.hg_shelf.specs.History.{History}
use Rattle.hg_shelf.specs.declared.asked.Asked.{Asked}

-- no size and no bytes were asked for, and the lock wasn't called for
pub record AsksNothing (old new : History) : Type 0 where
  pub asked : new.asked ≡ old.asked
  pub locks : new.locks ≡ old.locks

-- a call was noted behind the calls so far; one that failed may be missing, where there was no memory to note it
abbrev pub Asks : Bool → List Asked → History → History → Type 0
Asks answered asks old new = (new.asked ≡ old.asked ++ asks) ⊎ ((answered ≡ false) × (new.asked ≡ old.asked))

-- of some asks the first so many were made, in their order, and nothing else was asked
pub record AsksFrontOf (asks : List Asked) (old new : History) : Type 0 where
  pub some : ℕ
  pub made : new.asked ≡ old.asked ++ take some asks

-- whatever was asked is of a kind
pub record AsksOnly (Kind : Asked → Type 0) (old new : History) : Type 0 where
  pub more : List Asked
  pub made : new.asked ≡ old.asked ++ more
  pub each : AllByRecursion Kind more

-- a call that succeeds makes all of some asks, in their order, and one that fails the first so many; neither asks anything else
abbrev pub AsksInOrder : {T E : Type 0} → List Asked → History → History → Result T E → Type 0
AsksInOrder asks old new (Ok answer) = new.asked ≡ old.asked ++ asks
AsksInOrder asks old new (Err fault) = AsksFrontOf asks old new
