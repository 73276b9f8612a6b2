-- What a walk over all nodes gathers: of each what is held of its path.
use Rattle.std.specs.Prelude.{ℕ, ◌≡◌, Bool, true, not, ◌&&◌, List, ◌++◌, map, Option}
use Rattle.std.specs.Option.{option_map}
use Rattle.std.specs.List.{AllByRecursion, IsDistinct, list_any}
use Rattle.std.specs.List.Sorted.{IsStrictlySortedBy}
use Rattle.std.specs.Ordering.{nat_cmp}
use Rattle.std.specs.Cmp.Lexicographic.{slice_cmp}
use Rattle.std.specs.Str.{bytes_eq}
use Rattle.hg_base.specs.Within.{is_above, is_within}
use Rattle.hg_entry.specs.Entry.{cache_view, view}
use Rattle.hg_mixed.specs.Children.{IsChild}
use Rattle.hg_nodes.specs.Children.{ChildData}
use Rattle.hg_mixed.specs.Held.{Held, table}
use Rattle.hg_mixed.specs.declared.child.Child.{Child}
use Rattle.hg_mixed.specs.declared.line.Line.{Line}

-- a child as a line
abbrev pub line_of : Child → Line
line_of child = record { path = child.path; entry = child.entry; source = child.source; cache = child.cache }

abbrev pub path_of : Line → List ℕ
path_of line = line.path.text.now

abbrev pub paths_of : List Line → List (List ℕ)
paths_of rows = map path_of rows

-- it says what is held of its path
pub record Shows (held : Held) (line : Line) : Type 0 where
  pub entry : option_map view line.entry ≡ (table held).entries (path_of line)
  pub source : option_map (λ s. s.text.now) line.source ≡ (table held).sources (path_of line)
  pub cache : option_map cache_view line.cache ≡ (table held).caches (path_of line)

-- one row for each node whose path passes a test
pub record AreGathered (held : Held) (test : List ℕ → Bool) (rows : List Line) : Type 0 where
  pub own : IsDistinct bytes_eq (paths_of rows)
  pub each : AllByRecursion (λ row. (test (path_of row) ≡ true) × ((table held).nodes (path_of row) ≡ true) × Shows held row) rows
  pub all : (path : List ℕ) → test path ≡ true → (table held).nodes path ≡ true → list_any (bytes_eq path) (paths_of rows) ≡ true

-- such rows were put behind others
abbrev pub Gathers : Held → (List ℕ → Bool) → List Line → List Line → Type 0
Gathers held test old new = (rows : List Line) × (new ≡ old ++ rows) × AreGathered held test rows

-- a path stands at one of some children or below it
abbrev pub is_left : List ChildData → List ℕ → Bool
is_left left path = list_any (λ child. is_within child.path path) left

-- what stands below a directory, but for what is at the children that are left and below them
abbrev pub is_done : Option (List ℕ) → List ChildData → List ℕ → Bool
is_done dir left path = is_above dir path && not (is_left left path)

-- some children of a directory are left, and of the rest the rows were gathered
pub record AreLeft (held : Held) (dir : Option (List ℕ)) (left : List ChildData) (old new : List Line) : Type 0 where
  pub sorted : IsStrictlySortedBy (slice_cmp nat_cmp) (map (λ child. child.path) left)
  pub each : AllByRecursion (IsChild held dir) left
  pub gathered : Gathers held (is_done dir left) old new
