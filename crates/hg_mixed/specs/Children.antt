-- The children of a directory, one after the other.
use Rattle.std.specs.Prelude.{ℕ, ◌≡◌, true, false, List, map, Option, Some, MatchBool}
use Rattle.std.specs.List.{AllByRecursion, list_any}
use Rattle.std.specs.List.Sorted.{IsStrictlySortedBy}
use Rattle.std.specs.Ordering.{nat_cmp}
use Rattle.std.specs.Cmp.Lexicographic.{slice_cmp}
use Rattle.std.specs.Str.{bytes_eq}
use Rattle.hg_base.specs.PathText.{parent_of}
use Rattle.hg_mixed.specs.Held.{Held, source_at, table, text_at}
use Rattle.hg_nodes.specs.Children.{ChildData}

-- a node right in a directory, none for the root, with what is held of it
pub record IsChild (held : Held) (dir : Option (List ℕ)) (child : ChildData) : Type 0 where
  pub parent : parent_of child.path ≡ dir
  pub node : (table held).nodes child.path ≡ true
  pub entry : child.entry ≡ (table held).entries child.path
  pub source : child.source ≡ (table held).sources child.path
  pub cache : child.cache ≡ (table held).caches child.path
  pub kids :
      MatchBool child.has_kids ((kid : List ℕ) × ((table held).nodes kid ≡ true) × (parent_of kid ≡ Some child.path))
      ((kid : List ℕ) → parent_of kid ≡ Some child.path → (table held).nodes kid ≡ false)
  pub text : child.text_at ≡ text_at held child.path
  pub source_text : child.source_at ≡ source_at held child.path

-- all nodes right in a directory, ascending by the bytes of their names; in one directory paths ascend as their names do
pub record AreChildren (held : Held) (dir : Option (List ℕ)) (children : List ChildData) : Type 0 where
  pub ascending : IsStrictlySortedBy (slice_cmp nat_cmp) (map (λ child. child.path) children)
  pub each : AllByRecursion (IsChild held dir) children
  pub all : (path : List ℕ) → (table held).nodes path ≡ true → parent_of path ≡ dir → list_any (λ child. bytes_eq path child.path) children ≡ true
