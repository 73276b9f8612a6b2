-- What looks at a working copy show, each at a moment.
use Rattle.std.specs.Prelude.{ℕ, ◌≡◌, ◌≤◌, ◌⊎◌, true, IsTrue, List, Some, None, is_some}
use Rattle.hg_base.specs.PathText.{is_below}
use Rattle.hg_base.specs.declared.stat.Stat.{Stat}
use Rattle.hg_tree.specs.History.{History}
use Rattle.hg_tree.specs.Moment.{Moment, is_dir, stat_at}
use Rattle.hg_tree.specs.Own.{IsBarred}

-- how something that is so at a moment is known: at one moment, or at some moment of a call
abbrev pub Known : Type 1
Known = (Moment → Type 0) → Type 0

abbrev pub At : Moment → Known
At moment so = so moment

-- at a moment of a call it was so
pub record Was (old new : History) (so : Moment → Type 0) : Type 0 where
  pub moment : ℕ
  pub later : old.last ≤ moment
  pub upto : moment ≤ new.last
  pub is : so (new.at moment)

-- the same of a tree that tells its moments
abbrev pub During : History → History → Known
During old new so = IsTrue old.told → Was old new so

-- a moment of a call showed this at a path
abbrev pub WasStat : List ℕ → Stat → History → History → Type 0
WasStat path stat old new = Was old new (λ moment. stat_at moment path ≡ Some stat)

-- something stands at a path, or above it something that isn't a directory
abbrev pub IsTaken : List ℕ → Moment → Type 0
IsTaken path moment = (is_some (moment.things path) ≡ true) ⊎ IsBarred path moment.things

-- what is there of the directories above a path is a directory
abbrev pub IsDirOrNone : List ℕ → Moment → Type 0
IsDirOrNone dir moment = is_some (moment.things dir) ≡ true → is_dir (moment.things dir) ≡ true

-- nothing stands at a path, and nothing but directories above it
pub record IsVacant (path : List ℕ) (Knows : Known) : Type 0 where
  pub here : Knows (λ moment. moment.things path ≡ None)
  pub above : (dir : List ℕ) → is_below dir path ≡ true → Knows (IsDirOrNone dir)
