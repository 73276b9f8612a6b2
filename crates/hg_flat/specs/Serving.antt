-- The nodes of a record that serve as the names of a directory: a range of them, and what stands at them or below.
use Rattle.std.specs.Prelude.{ℕ, ◌≡◌, ◌<◌, ◌⊎◌, Bool, false, ◌&&◌, List, take, get_or, length, Option, Some, is_some, IsTrue}
use Rattle.std.specs.List.{IsDistinct}
use Rattle.std.specs.Str.{bytes_eq}
use Rattle.hg_base.specs.PathText.{child_of, is_path}
use Rattle.hg_tree.specs.History.{History}
use Rattle.hg_tree.specs.Moment.{Moment, is_among}
use Rattle.hg_flat.specs.Asked.{IsDirBelow, IsDirFrom}
use Rattle.hg_flat.specs.Kept.{Kept}
use Rattle.hg_flat.specs.Listing.{IsUnknownFrom}
use Rattle.hg_flat.specs.Passed.{Known}
use Rattle.hg_flat.specs.declared.span.Span.{Span}

-- a node stands right in a directory
abbrev pub is_node_in : List ℕ → List (List ℕ) → List ℕ → Bool
is_node_in dir nodes at = is_among at nodes && is_some (child_of (Some dir) at)

-- in a range of some nodes, each a path and no two the same, are all that stand right in a directory
pub record IsSpanOf (nodes : List (List ℕ)) (dir : List ℕ) (span : Span) : Type 0 where
  pub paths : (at : List ℕ) → IsTrue (is_among at nodes) → IsTrue (is_path at)
  pub own : IsDistinct bytes_eq nodes
  pub before : (at : List ℕ) → is_node_in dir (take span.from nodes) at ≡ false
  pub all : (at : List ℕ) → IsTrue (is_node_in dir nodes at) → IsTrue (is_node_in dir (take span.upto nodes) at)

-- the node at a place among some
pub record IsNodeAt (nodes : List (List ℕ)) (at : ℕ) (path : List ℕ) : Type 0 where
  pub within : at < length nodes
  pub is : get_or nodes at path ≡ path

-- a file or link without an entry at one of some nodes that stand right in a directory, or below it, with no repository between
abbrev pub IsUnknownAt : Kept → Moment → List ℕ → List (List ℕ) → List ℕ → Type 0
IsUnknownAt kept moment dir nodes path = (at : List ℕ) × IsTrue (is_node_in dir nodes at) × IsUnknownFrom kept moment at path

-- a directory that was asked at one of them or below it
abbrev pub IsDirAt : (List ℕ → Type 0) → History → History → List ℕ → List (List ℕ) → Option (List ℕ) → Type 0
IsDirAt E since new dir nodes asked = (at : List ℕ) × IsTrue (is_node_in dir nodes at) × IsDirFrom E since new at asked

-- a directory itself, whose nodes don't serve as its names, or one in it
abbrev pub IsDirWithin : Known → (List ℕ → Type 0) → History → History → List ℕ → Option (List ℕ) → Type 0
IsDirWithin known E since new dir asked = ((asked ≡ Some dir) × (known.served dir ≡ false)) ⊎ IsDirBelow E since new (Some dir) asked
