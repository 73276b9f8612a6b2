-- What a walk keeps of the nodes that it looked at, for the listing behind.
use Rattle.std.specs.Prelude.{ℕ, ◌≡◌, ◌<◌, Bool, true, false, ◌&&◌, ◌||◌, List, [], ◌∷◌, is_some, length}
use Rattle.std.specs.List.{HoldsAt}
use Rattle.std.specs.List.Sorted.{IsStrictlySortedBy}
use Rattle.std.specs.Ordering.{nat_cmp}
use Rattle.std.specs.Cmp.Lexicographic.{slice_cmp}
use Rattle.std.specs.Str.{bytes_eq}
use Rattle.hg_base.specs.PathText.{is_below}
use Rattle.hg_flat.specs.Kept.{row_at}
use Rattle.hg_flat.specs.Passed.{Known}
use Rattle.hg_mixed.specs.Gathered.{path_of, paths_of}
use Rattle.hg_mixed.specs.declared.line.Line.{Line}
use Rattle.hg_walk.specs.Marks.{is_no_dir, stands}
use Rattle.hg_walk.specs.Telling.{tracked_rows}
use Rattle.hg_walk.specs.declared.mark.Mark.{Mark}

-- children ascend by the bytes of their paths
abbrev pub AreInOrder : List Line → Type 0
AreInOrder children = IsStrictlySortedBy (slice_cmp nat_cmp) (paths_of children)

-- a path has an entry among some children
abbrev pub has_entry : List Line → List ℕ → Bool
has_entry children path = is_some (row_at (tracked_rows children) path)

-- a child and its mark meet a test, where each child has a mark
abbrev pub any_marked : (Line → Mark → Bool) → List Line → List Mark → Bool
any_marked test [] marks = false
any_marked test (child ∷ children) [] = false
any_marked test (child ∷ children) (mark ∷ marks) = test child mark || any_marked test children marks

-- a look at a path showed no directory
abbrev pub was_passed : List Line → List Mark → List ℕ → Bool
was_passed children marks path = any_marked (λ child mark. bytes_eq (path_of child) path && is_no_dir mark) children marks

-- a look at a path below showed that something stands there
abbrev pub was_entered : List Line → List Mark → List ℕ → Bool
was_entered children marks dir = any_marked (λ child mark. is_below dir (path_of child) && stands mark) children marks

-- what the listing may know by the looks; no nodes serve as names
abbrev pub known_of : List Line → List Mark → Known
known_of children marks = record { none = was_passed children marks; dir = was_entered children marks; served = λ path. false; nodes = paths_of children }

-- a child of a path stands at a place
pub record IsPlaceOf (children : List Line) (path : List ℕ) (at : ℕ) : Type 0 where
  pub within : at < length children
  pub is : HoldsAt (λ child. path_of child ≡ path) children at

-- a child below a directory stands at a place
pub record IsPlaceBelow (children : List Line) (dir : List ℕ) (at : ℕ) : Type 0 where
  pub within : at < length children
  pub is : HoldsAt (λ child. is_below dir (path_of child) ≡ true) children at
