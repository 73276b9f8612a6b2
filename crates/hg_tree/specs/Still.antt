-- What stays as it was from a moment on, whatever else changes.
use Rattle.std.specs.Prelude.{ℕ, ◌≡◌, ◌≤◌, Bool, false, List, Option, Some, None, option_map, IsTrue, codes}
use Rattle.std.specs.List.{Contains}
use Rattle.hg_base.specs.PathText.{is_below, joined}
use Rattle.hg_base.specs.declared.stat.Kind.{Kind}
use Rattle.hg_tree.specs.declared.thing.Thing.{Thing}
use Rattle.hg_tree.specs.declared.thing.Thing.TheVariants as a_thing
use Rattle.hg_tree.specs.declared.thing.Placed.{Placed}
use Rattle.hg_tree.specs.Moment.{Moment, kind_of}
use Rattle.hg_tree.specs.History.{History}
use Rattle.hg_tree.specs.Honest.{face}

-- the kind of what stands at a path, where anything does
abbrev pub kind_at : Moment → List ℕ → Option Kind
kind_at moment path = option_map (λ placed. kind_of placed.thing) (moment.things path)

abbrev pub is_exec_thing : Thing → Bool
is_exec_thing (a_thing.File exec bytes) = exec
is_exec_thing (a_thing.Link target) = false
is_exec_thing a_thing.Dir = false
is_exec_thing a_thing.Other = false

-- the executable bit of a file; nothing else has one
abbrev pub is_exec : Option Placed → Bool
is_exec None = false
is_exec (Some placed) = is_exec_thing placed.thing

-- what is shown of each moment from one on is the same
abbrev pub Keeps : {A : Type 0} → (Moment → A) → History → ℕ → Type 0
Keeps shown h from = (k : ℕ) → from ≤ k → k ≤ h.last → shown (h.at k) ≡ shown (h.at from)

-- a path keeps its whole face: what the law of faces speaks of, and the executable bit
pub record KeepsFace (h : History) (from : ℕ) (path : List ℕ) : Type 0 where
  pub seen : Keeps (λ moment. face moment path) h from
  pub exec : Keeps (λ moment. is_exec (moment.things path)) h from

-- where `.hg` stands in a directory
abbrev pub hg_in : List ℕ → List ℕ
hg_in dir = joined (Some dir) (codes ".hg")

-- nobody touches the path from a moment on: it keeps its whole face, each directory above it stays one, and what stands at `.hg` in
-- such a directory keeps its kind. What else is in these directories may change
pub record Untouched (h : History) (from : ℕ) (path : List ℕ) : Type 0 where
  pub told : IsTrue h.told
  pub own : KeepsFace h from path
  pub above : (dir : List ℕ) → IsTrue (is_below dir path) → Keeps (λ moment. kind_at moment dir) h from
  pub hg : (dir : List ℕ) → IsTrue (is_below dir path) → Keeps (λ moment. kind_at moment (hg_in dir)) h from

-- the same, and each directory above the path keeps its whole face, names and time too, and so does each of some further paths
pub record Still (h : History) (from : ℕ) (besides : List (List ℕ)) (path : List ℕ) : Type 0 where
  pub told : IsTrue h.told
  pub own : KeepsFace h from path
  pub above : (dir : List ℕ) → IsTrue (is_below dir path) → KeepsFace h from dir
  pub hg : (dir : List ℕ) → IsTrue (is_below dir path) → Keeps (λ moment. kind_at moment (hg_in dir)) h from
  pub others : (other : List ℕ) → Contains besides other → KeepsFace h from other

-- the path is alike at two moments: its whole face, the kinds of what stands above it, and at `.hg` there
pub record AreAlike (m n : Moment) (path : List ℕ) : Type 0 where
  pub seen : face m path ≡ face n path
  pub exec : is_exec (m.things path) ≡ is_exec (n.things path)
  pub above : (dir : List ℕ) → IsTrue (is_below dir path) → kind_at m dir ≡ kind_at n dir
  pub hg : (dir : List ℕ) → IsTrue (is_below dir path) → kind_at m (hg_in dir) ≡ kind_at n (hg_in dir)
