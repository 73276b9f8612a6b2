-- What storing leaves of the files below `.hg`: what reads show at each moment, and what a crash may leave then.
use Rattle.std.specs.Prelude.{ℕ, ◌≡◌, ◌≤◌, ◌⊎◌, true, List, codes, Option, Some, None}
use Rattle.hg_shelf.specs.History.{Files}
use Rattle.hg_shelf.specs.Images.{Course, Goes, Scene, last_scene, scene}
use Rattle.hg_shelf.specs.Polite.{Undisturbed}
use Rattle.hg_shelf.specs.Rules.{content}

-- the file that a text is written to before its identifier is known
abbrev pub new_name : List ℕ
new_name = codes "plain/new"

-- the caller holds the lock all through a call, and others only read
pub record IsAlone (old new : Course) : Type 0 where
  pub ours : old.history.ours ≡ true
  pub calm : Undisturbed old new

-- a call adds moments to those so far, and leaves the lock as it is
pub record Proceeds (old new : Course) : Type 0 where
  pub goes : Goes old new
  pub ours : new.history.ours ≡ old.history.ours
  pub locks : new.history.locks ≡ old.history.locks

-- what reads show at each moment since, what a crash may leave then, and what of it has all names done at the end, comes by a change from what was
-- there at the start
pub record Leads (change : Files → Files → Type 0) (old new : Course) : Type 0 where
  pub shown : (k : ℕ) → old.history.last ≤ k → k ≤ new.history.last → change (last_scene old).files (scene new k).files
  pub left : (k : ℕ) (f : Files) → old.history.last ≤ k → k ≤ new.history.last → (scene new k).leaves f → (d : Files) × (last_scene old).leaves d × change d f
  pub done : (f : Files) → (last_scene new).named f → (d : Files) × (last_scene old).named d × change d f

-- no file but the new one is changed
pub record ButNew (old new : Files) : Type 0 where
  pub others : (at : List ℕ) → (at ≡ new_name → ⊥) → new at ≡ old at

-- no file but the new one and the plain file of a text is changed, and that one has what it had, or exactly the text where reads showed none before
pub record Keeps (before : Option (List ℕ)) (name text : List ℕ) (old new : Files) : Type 0 where
  pub others : (at : List ℕ) → (at ≡ new_name → ⊥) → (at ≡ name → ⊥) → new at ≡ old at
  pub own : (new name ≡ old name) ⊎ ((before ≡ None) × (new name ≡ Some text))

-- the new file has so much of a text by now; before its first byte it may be absent
abbrev pub IsLaid : List ℕ → Course → Type 0
IsLaid text c = content ((last_scene c).files new_name) ≡ text

-- a file is shown with these bytes, and a crash leaves it so
pub record IsSure (name bytes : List ℕ) (c : Course) : Type 0 where
  pub shown : (last_scene c).files name ≡ Some bytes
  pub left : (f : Files) → (last_scene c).leaves f → f name ≡ Some bytes

-- the new file is gone, and a crash leaves it so once all names are done
pub record IsCleared (c : Course) : Type 0 where
  pub shown : (last_scene c).files new_name ≡ None
  pub done : (f : Files) → (last_scene c).named f → f new_name ≡ None

-- where reads show a file, a crash that leaves all names done leaves it as they show it
abbrev pub IsWhole : List ℕ → Scene → Type 0
IsWhole name s = (bytes : List ℕ) (f : Files) → s.files name ≡ Some bytes → s.named f → f name ≡ Some bytes

-- a text is stored: reads show it under its name, and so does whatever a crash may leave, where a file that stood there before was whole; and the new
-- file is gone in both
pub record IsStored (name text : List ℕ) (old new : Course) : Type 0 where
  pub shown : (last_scene new).files name ≡ Some text
  pub left : IsWhole name (last_scene old) → (f : Files) → (last_scene new).leaves f → f name ≡ Some text
  pub cleared : (last_scene new).files new_name ≡ None
  pub cleared_left : (f : Files) → (last_scene new).leaves f → f new_name ≡ None
