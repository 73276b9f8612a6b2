-- The way from the root of a working copy down to a folder, as a stack of steps.
use Rattle.std.specs.Prelude.{◌≡◌, ◌++◌, ◌↔◌, ◌⊎◌, ℕ, false, List, [], ◌∷◌, length}
use Rattle.hg_disk.specs.declared.spot.Spot.{Spot}
use Rattle.hg_disk.specs.declared.spot.Step.{Step}
use Rattle.hg_disk.specs.declared.way.Way.{Way}

-- the path of a name in a folder, where the empty path is the root
abbrev pub below : List ℕ → List ℕ → List ℕ
below [] name = name
below (b ∷ dir) name = (b ∷ dir) ++ 47 ∷ name

-- what is left of a folder's path behind another's: nothing where they are one, else the way down
abbrev pub IsLeft : List ℕ → List ℕ → List ℕ → Type 0
IsLeft text dir rest = ((rest ≡ []) × (dir ≡ text)) ⊎ (dir ≡ below text rest)

-- the folder of the last step, or of the root
abbrev pub last_spot : Spot → List Step → Spot
last_spot root [] = root
last_spot root (step ∷ steps) = last_spot step.spot steps

abbrev pub spot_of : Way → Spot
spot_of way = last_spot way.root way.steps.items

-- one step down by a name, at which this folder was seen
pub record IsBelow (old : Way) (name : List ℕ) (spot : Spot) (new : Way) : Type 0 where
  pub text : new.text.items ≡ below old.text.items name
  pub steps : new.steps.items ≡ old.steps.items ++ record { before = length old.text.items; spot = spot } ∷ []

-- one step up: wherever the way was gone down by one name, it is where it was before
abbrev pub GoesBack : Way → Way → Type 0
GoesBack old new = (before : Way) (name : List ℕ) (spot : Spot) → IsBelow before name spot old
    → (new.text.items ≡ before.text.items) × (new.steps.items ≡ before.steps.items)

-- the same way, whether it is lost aside
pub record Kept (old new : Way) : Type 0 where
  pub text : new.text.items ≡ old.text.items
  pub steps : new.steps.items ≡ old.steps.items
  pub root : new.root ≡ old.root

-- a way is known exactly where the folder that one stands in is the one that it ends in
abbrev pub IsSeen : Way → Spot → Way → Type 0
IsSeen old here new = (new.lost ≡ false) ↔ (here ≡ spot_of old)
