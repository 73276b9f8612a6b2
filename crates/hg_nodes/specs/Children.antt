-- The nodes right in a directory, one after the other.
use Rattle.std.specs.Prelude.{ℕ, ◌≡◌, Bool, true, false, List, map, Option, Some, MatchBool}
use Rattle.std.specs.List.{AllByRecursion, list_any}
use Rattle.std.specs.List.Sorted.{IsStrictlySortedBy}
use Rattle.std.specs.Ordering.{nat_cmp}
use Rattle.std.specs.Cmp.Lexicographic.{slice_cmp}
use Rattle.std.specs.Str.{bytes_eq}
use Rattle.hg_base.specs.PathText.{parent_of}
use Rattle.hg_entry.specs.Entry.{CacheData, EntryData}
use Rattle.hg_entry.specs.Table.{Table}
use Rattle.hg_nodes.specs.Node.{NodeData, node_at, source_text_in, text_in}

-- what a child shows: its full path, its entry and copy source, the time of its cache, whether it has children, and where the texts
-- of its path and its source lie in the image, if they are lent
pub record ChildData : Type 0 where
  pub path : List ℕ
  pub entry : Option EntryData
  pub source : Option (List ℕ)
  pub cache : Option CacheData
  pub has_kids : Bool
  pub text_at : Option ℕ
  pub source_at : Option ℕ

-- a node right in a directory, none for the root, with what a table says of it, and with the places that its node keeps
pub record IsNodeIn (t : Table) (rows : List (List ℕ × NodeData)) (dir : Option (List ℕ)) (child : ChildData) : Type 0 where
  pub parent : parent_of child.path ≡ dir
  pub node : t.nodes child.path ≡ true
  pub entry : child.entry ≡ t.entries child.path
  pub source : child.source ≡ t.sources child.path
  pub cache : child.cache ≡ t.caches child.path
  pub kids :
      MatchBool child.has_kids ((kid : List ℕ) × (t.nodes kid ≡ true) × (parent_of kid ≡ Some child.path))
      ((kid : List ℕ) → parent_of kid ≡ Some child.path → t.nodes kid ≡ false)
  pub text : child.text_at ≡ text_in (node_at rows child.path)
  pub source_text : child.source_at ≡ source_text_in (node_at rows child.path)

-- all nodes right in a directory, ascending
pub record AreNodesIn (t : Table) (rows : List (List ℕ × NodeData)) (dir : Option (List ℕ)) (children : List ChildData) : Type 0 where
  pub ascending : IsStrictlySortedBy (slice_cmp nat_cmp) (map (λ child. child.path) children)
  pub each : AllByRecursion (IsNodeIn t rows dir) children
  pub all : (path : List ℕ) → t.nodes path ≡ true → parent_of path ≡ dir → list_any (λ child. bytes_eq path child.path) children ≡ true
