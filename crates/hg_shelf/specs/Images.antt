-- What a crash may leave of the files of a shelf: its images at each moment.
use Rattle.std.specs.Prelude.{ℕ, ◌≡◌, ◌≤◌, ◌<◌, ◌+◌}
use Rattle.hg_shelf.specs.History.{Files, History, Extends, By, label, us}

-- what a crash may leave, and what of it has each rename and each removal so far done
pub record Images : Type 1 where
  pub leaves : Files → Type 0
  pub named : Files → Type 0

-- a history, and the images of each moment
pub record Course : Type 1 where
  pub history : History
  pub images : ℕ → Images

abbrev pub course : History → (ℕ → Images) → Course
course history images = record { history = history; images = images }

-- a moment with its images
pub record Scene : Type 1 where
  pub files : Files
  pub leaves : Files → Type 0
  pub named : Files → Type 0

abbrev pub scene : Course → ℕ → Scene
scene c k = record { files = (c.history.at k).files; leaves = (c.images k).leaves; named = (c.images k).named }

-- the scene of the last moment
abbrev pub last_scene : Course → Scene
last_scene c = scene c c.history.last

-- the images of a shelf that tells nothing
abbrev pub unknown : ℕ → Images
unknown k = record { leaves = λ c. Unit {0}; named = λ c. Unit {0} }

-- reads show the same, and a crash leaves nothing new
pub record Remains (old new : Scene) : Type 0 where
  pub shown : new.files ≡ old.files
  pub left : (c : Files) → new.leaves c → old.leaves c
  pub done : (c : Files) → new.named c → old.named c

-- the moments so far stay, with their images
pub record Goes (old new : Course) : Type 0 where
  pub past : Extends old.history new.history
  pub kept : (k : ℕ) → k ≤ old.history.last → Remains (scene old k) (scene new k)
  pub back : (k : ℕ) → k ≤ old.history.last → Remains (scene new k) (scene old k)

-- one step of the caller's, by a rule, and steps of others before and behind it
pub record Acts (rule : Scene → Scene → Type 0) (old new : Course) : Type 0 where
  pub place : ℕ
  pub from : old.history.last ≤ place
  pub to : place < new.history.last
  pub before : By (label old.history.ours) new.history old.history.last place
  pub own : new.history.who place ≡ us
  pub step : rule (scene new place) (scene new (place + 1))
  pub behind : By (label old.history.ours) new.history (place + 1) new.history.last
