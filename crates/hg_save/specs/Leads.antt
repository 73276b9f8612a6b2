-- What a part of a publication changes: of what reads show, and of what a crash may leave.
use Rattle.std.specs.Prelude.{ℕ, ◌≡◌, ◌≤◌, ◌<◌, ◌+◌, ◌⊎◌, List, [], Some}
use Rattle.hg_shelf.specs.History.{Files, History, readers, us}
use Rattle.hg_shelf.specs.Images.{Course, Remains, Scene, last_scene, scene}
use Rattle.hg_shelf.specs.Rules.{Perhaps, Surely, without}
use Rattle.hg_save.specs.Record.{data_name}

-- the data file with an identifier goes, where it is one, and another one than the new one
pub record IsGone (id next : List ℕ) (old new : Files) : Type 0 where
  pub some : id ≡ [] → ⊥
  pub other : id ≡ next → ⊥
  pub gone : Surely (without (data_name id)) old new

-- it goes, or nothing changes
abbrev pub Clears : List ℕ → List ℕ → Files → Files → Type 0
Clears id next old new = ((at : List ℕ) → new at ≡ old at) ⊎ IsGone id next old new

-- what reads show at each moment since, and what a crash leaves, comes by a change from what was there at the start
pub record Leads (change : Files → Files → Type 0) (old new : Course) : Type 0 where
  pub shown : (k : ℕ) → old.history.last ≤ k → k ≤ new.history.last → change (last_scene old).files (scene new k).files
  pub left : (k : ℕ) (c : Files) → old.history.last ≤ k → k ≤ new.history.last → (scene new k).leaves c → (d : Files) × (last_scene old).leaves d × change d c

-- a file is shown with these bytes, and a crash leaves it so
pub record IsSure (name bytes : List ℕ) (c : Course) : Type 0 where
  pub shown : (last_scene c).files name ≡ Some bytes
  pub left : (f : Files) → (last_scene c).leaves f → f name ≡ Some bytes

-- a change is shown, and a crash leaves it done
pub record IsDone (change : Files → Files) (old new : Course) : Type 0 where
  pub shown : Surely change (last_scene old).files (last_scene new).files
  pub left : (c : Files) → (last_scene new).leaves c → (d : Files) × (last_scene old).leaves d × Surely change d c

-- nothing new is shown, and nothing new is left by a crash
pub record IsStill (old new : Course) : Type 0 where
  pub shown : (last_scene new).files ≡ (last_scene old).files
  pub left : (c : Files) → (last_scene new).leaves c → (last_scene old).leaves c

-- a change is shown, or it isn't left by a crash either
abbrev pub IsWhole : (Files → Files) → Course → Course → Type 0
IsWhole change old new = Surely change (last_scene old).files (last_scene new).files ⊎ IsStill old new

-- at each moment of a call reads show what they showed at its start, or what they show at its end
pub record ShowsEither (old new : Course) : Type 0 where
  pub each : (k : ℕ) → old.history.last ≤ k → k ≤ new.history.last → ((scene new k).files ≡ (last_scene old).files) ⊎ ((scene new k).files ≡ (last_scene new).files)

-- ---- single steps

-- the lock is held all along: each step is the caller's own, or of one who may only read
pub record IsHeld (old new : History) : Type 0 where
  pub each : (k : ℕ) → old.last ≤ k → k < new.last → (new.who k ≡ us) ⊎ (new.who k ≡ readers)

-- each step of the caller's own is by a rule
pub record OwnSteps (rule : Scene → Scene → Type 0) (old new : Course) : Type 0 where
  pub each : (k : ℕ) → old.history.last ≤ k → k < new.history.last → new.history.who k ≡ us → rule (scene new k) (scene new (k + 1))

-- a step makes a change of what reads show, and whatever a crash leaves behind it comes by one from what it might have left before
pub record StepBy (change : Files → Files → Type 0) (before behind : Scene) : Type 0 where
  pub shown : change before.files behind.files
  pub left : (c : Files) → behind.leaves c → (d : Files) × before.leaves d × change d c

-- the first step since a scene makes a change of what reads show, which a crash leaves done or not
pub record FirstBy (start : Scene) (change : Files → Files) (before behind : Scene) : Type 0 where
  pub since : Remains start before
  pub shown : Surely change before.files behind.files
  pub left : (c : Files) → behind.leaves c → (d : Files) × before.leaves d × Perhaps change d c

-- a step shows and leaves nothing new, or it is the first since a scene, by a change
abbrev pub OnceBy : Scene → (Files → Files) → Scene → Scene → Type 0
OnceBy start change before behind = Remains before behind ⊎ FirstBy start change before behind
