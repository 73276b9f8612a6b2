-- Which paths of a working copy the caller's own steps change.
use Rattle.std.specs.Prelude.{ℕ, ◌≡◌, ◌≤◌, ◌<◌, Bool, true, false, List, [], ◌∷◌, suc}
use Rattle.std.specs.List.{list_any}
use Rattle.hg_base.specs.PathText.{is_below}
use Rattle.hg_base.specs.declared.stat.Kind.{Kind}
use Rattle.hg_tree.specs.History.{History, AreFormed, Extends, us}
use Rattle.hg_tree.specs.Moment.{Things, is_among}
use Rattle.hg_tree.specs.Own.{MayPut, MayUnlink, Puts, StaysDir, Unlinks}

-- a step changes what stands at these paths alone, and directories above them, which are directories afterwards
pub record TouchesOnly (paths : List (List ℕ)) (before after : Things) : Type 0 where
  pub above : (at : List ℕ) → is_among at paths ≡ false → list_any (is_below at) paths ≡ true → StaysDir (before at) (after at)
  pub apart : (at : List ℕ) → is_among at paths ≡ false → list_any (is_below at) paths ≡ false → after at ≡ before at

-- the caller's own steps from one state to another change these paths alone, and directories above them
abbrev pub ChangesOnly : List (List ℕ) → History → History → Type 0
ChangesOnly paths old new =
    (k : ℕ) → old.last ≤ k → k < new.last → new.who k ≡ us → TouchesOnly paths (new.at k).things (new.at (suc k)).things

-- a call changes the path that it names alone, and directories above it, also one that fails
abbrev pub UnlinksOnly : Type 0
UnlinksOnly = (path : List ℕ) (old new : History) → AreFormed new → (done : Bool) → Unlinks path done old new → ChangesOnly (path ∷ []) old new

abbrev pub MayUnlinkOnly : Type 0
MayUnlinkOnly = (path : List ℕ) (old new : History) → AreFormed new → MayUnlink path old new → ChangesOnly (path ∷ []) old new

abbrev pub PutsOnly : Type 0
PutsOnly =
    (path : List ℕ) (old new : History) → AreFormed new → (kind : Kind) (exec : Bool) (place : ℕ) (bytes : List ℕ) (done : Bool)
    → Puts kind exec place bytes path done old new → ChangesOnly (path ∷ []) old new

abbrev pub MayPutOnly : Type 0
MayPutOnly =
    (path : List ℕ) (old new : History) → AreFormed new → (kind : Kind) (exec : Bool) (place : ℕ) (bytes : List ℕ)
    → MayPut kind exec place bytes path old new → ChangesOnly (path ∷ []) old new

-- what two spans change is what both together change
abbrev pub ChangesTogether : Type 0
ChangesTogether =
    (paths : List (List ℕ)) (a b c : History) → Extends b c → ChangesOnly paths a b → ChangesOnly paths b c → ChangesOnly paths a c
