-- Whether a plain file stands in the way of a text.
use Rattle.std.specs.Prelude.{ℕ, ◌≡◌, ◌≤◌, Bool, true, false, not, ◌||◌, if◌then◌else◌, List, Option, Some, None, Result, Ok, Err, IsTrue, bytes_eq, replicate}
use Rattle.hg_base.specs.Fault.{Rose}
use Rattle.hg_base.specs.declared.id.Id20.{Id20}
use Rattle.hg_shelf.specs.History.{History, now}
use Rattle.hg_store.specs.declared.fault.StoreFault.{StoreFault}
use Rattle.hg_store.specs.declared.fault.StoreFault.TheVariants as a_fault
use Rattle.hg_store.specs.declared.standing.Standing.{Standing}
use Rattle.hg_store.specs.declared.standing.Standing.TheVariants as a_standing

-- reads show the same files at each moment of a call
pub record IsStill (old new : History) : Type 0 where
  pub told : IsTrue old.told
  pub same : (k : ℕ) → old.last ≤ k → k ≤ new.last → (new.at k).files ≡ (now old).files

-- what stands under the name of a text
abbrev pub standing_of : Option (List ℕ) → List ℕ → Standing
standing_of None text = a_standing.Absent
standing_of (Some bytes) text = if bytes_eq bytes text then a_standing.Same else a_standing.Other

-- a file has other bytes than a text
abbrev pub is_other : Option (List ℕ) → List ℕ → Bool
is_other None text = false
is_other (Some bytes) text = not (bytes_eq bytes text)

-- a text can't be stored: its identifier is the null one, which no plain file has, or a plain file of that identifier has other bytes
abbrev pub clashes : List ℕ → Option (List ℕ) → List ℕ → Bool
clashes id file text = bytes_eq id (replicate 20 0) || is_other file text

-- an answer says whether the text clashed; a shelf that failed says nothing of it
abbrev pub Decides : {A : Type 0} → Bool → Id20 → Result A StoreFault → Type 0
Decides clash id (Ok answer) = clash ≡ false
Decides clash id (Err (a_fault.StoreClash named)) = (named ≡ id) × (clash ≡ true)
Decides clash id (Err a_fault.ShelfFailed) = Unit {0}
Decides clash id (Err a_fault.OutOfMemory) = ⊥
Decides clash id (Err (a_fault.Gone path)) = ⊥
Decides clash id (Err (a_fault.ManifestTooLarge size)) = ⊥
Decides clash id (Err a_fault.TreeFailed) = ⊥

-- a clash of this identifier, or a failure of the shelf
abbrev pub IsSettleFault : Id20 → StoreFault → Type 0
IsSettleFault id (a_fault.StoreClash named) = named ≡ id
IsSettleFault id a_fault.ShelfFailed = Unit {0}
IsSettleFault id a_fault.OutOfMemory = ⊥
IsSettleFault id (a_fault.Gone path) = ⊥
IsSettleFault id (a_fault.ManifestTooLarge size) = ⊥
IsSettleFault id a_fault.TreeFailed = ⊥

-- a fact, where a text clashed
abbrev pub OnClash : {A : Type 0} → Type 0 → Result A StoreFault → Type 0
OnClash P (Ok answer) = Unit {0}
OnClash P (Err (a_fault.StoreClash named)) = P
OnClash P (Err a_fault.ShelfFailed) = Unit {0}
OnClash P (Err a_fault.OutOfMemory) = Unit {0}
OnClash P (Err (a_fault.Gone path)) = Unit {0}
OnClash P (Err (a_fault.ManifestTooLarge size)) = Unit {0}
OnClash P (Err a_fault.TreeFailed) = Unit {0}

-- the count of the shelf's failures rose where it is named as what failed, and stands as it stood with every other answer
abbrev pub CountsShelf : {A : Type 0} → ℕ → ℕ → Result A StoreFault → Type 0
CountsShelf before now (Ok answer) = now ≡ before
CountsShelf before now (Err a_fault.ShelfFailed) = Rose before now
CountsShelf before now (Err (a_fault.StoreClash named)) = now ≡ before
CountsShelf before now (Err a_fault.OutOfMemory) = now ≡ before
CountsShelf before now (Err (a_fault.Gone path)) = now ≡ before
CountsShelf before now (Err (a_fault.ManifestTooLarge size)) = now ≡ before
CountsShelf before now (Err a_fault.TreeFailed) = now ≡ before
