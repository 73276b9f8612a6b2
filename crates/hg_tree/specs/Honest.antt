-- Honest times: a time that is shown again, and was in the past when it was shown first, is of the same thing.
use Rattle.std.specs.Prelude.{ℕ, ◌≡◌, ◌≢◌, ◌+◌, ◌<◌, ◌≤◌, ◌⊎◌, Bool, ◌&&◌, List, [], Option, Some, None, is_some}
use Rattle.hg_base.specs.PathText.{is_component, joined}
use Rattle.hg_base.specs.declared.time.Time.{Time}
use Rattle.hg_base.specs.Times.{IsAtMost, IsBefore}
use Rattle.hg_base.specs.declared.stat.Kind.{Kind}
use Rattle.hg_base.specs.declared.stat.Kind.TheVariants as a_kind
use Rattle.hg_tree.specs.declared.thing.Thing.{Thing}
use Rattle.hg_tree.specs.declared.thing.Thing.TheVariants as a_thing
use Rattle.hg_tree.specs.declared.thing.Placed.{Placed}
use Rattle.hg_tree.specs.Moment.{Moment, is_dir}
use Rattle.hg_tree.specs.History.{History, Extends}

-- what a path shows but for the executable bit, which every stat shows anyway: the kind of what stands there, the bytes of a file or
-- of a link's target, the time, and of a directory the names in it
pub record Face : Type 0 where
  pub kind : Option Kind
  pub bytes : List ℕ
  pub time : Option Time
  pub names : List ℕ → Bool

-- the face of a thing. What is neither a file, a link nor a directory has no time
abbrev pub face_of : Thing → Time → (List ℕ → Bool) → Face
face_of (a_thing.File exec bytes) mtime names = record { kind = Some a_kind.File; bytes = bytes; time = Some mtime; names = names }
face_of (a_thing.Link target) mtime names = record { kind = Some a_kind.Link; bytes = target; time = Some mtime; names = names }
face_of a_thing.Dir mtime names = record { kind = Some a_kind.Dir; bytes = []; time = Some mtime; names = names }
face_of a_thing.Other mtime names = record { kind = Some a_kind.Other; bytes = []; time = None; names = names }

abbrev pub face_with : (List ℕ → Bool) → Option Placed → Face
face_with names None = record { kind = None; bytes = []; time = None; names = names }
face_with names (Some placed) = face_of placed.thing placed.mtime names

-- something with that name stands in the directory at the path; what is no directory has no names
abbrev pub has_name : Moment → List ℕ → List ℕ → Bool
has_name moment path name = is_dir (moment.things path) && is_component name && is_some (moment.things (joined (Some path) name))

abbrev pub face : Moment → List ℕ → Face
face moment path = face_with (has_name moment path) (moment.things path)

-- the path has the time at that moment
abbrev pub Shows : Moment → List ℕ → Time → Type 0
Shows moment path time = (face moment path).time ≡ Some time

-- the clock never falls, and where a path's face differs from one moment to the next, the time that it then has is at least the
-- clock of the moment before, or the path had it at no moment up to then
pub record IsHonest (h : History) : Type 0 where
  pub clocks : (k : ℕ) → k < h.last → IsAtMost (h.at k).clock (h.at (k + 1)).clock
  pub faces : (k : ℕ) (path : List ℕ) (time : Time) → k < h.last → face (h.at k) path ≢ face (h.at (k + 1)) path → Shows (h.at (k + 1)) path time
      → IsAtMost (h.at k).clock time ⊎ ((i : ℕ) → i ≤ k → ¬ (Shows (h.at i) path time))

-- a time below the clock stays below it
abbrev pub StaysPast : Type 0
StaysPast = (h : History) → IsHonest h → (time : Time) (j k : ℕ) → j ≤ k → k ≤ h.last → IsBefore time (h.at j).clock → IsBefore time (h.at k).clock

-- where a path showed a time below the clock, and shows it at a later moment, it has one face at all moments from the one to the other
abbrev pub LawOfFaces : Type 0
LawOfFaces =
    (h : History) → IsHonest h → (path : List ℕ) (time : Time) (j k : ℕ) → j ≤ k → k ≤ h.last → Shows (h.at j) path time → IsBefore time (h.at j).clock
    → Shows (h.at k) path time → (i : ℕ) → j ≤ i → i ≤ k → face (h.at i) path ≡ face (h.at k) path

-- what was honest over a longer history was so before
abbrev pub HonestPast : Type 0
HonestPast = (old new : History) → Extends old new → IsHonest new → IsHonest old
