-- What a data file without fault holds: a row for each node, in the order of the walk.
use Rattle.std.specs.Prelude.{◌≡◌, ℕ, zero, suc, ◌+◌, List, [], ◌∷◌, ◌++◌, take, map, Option, true, false}
use Rattle.std.specs.List.{AllByRecursion, IsDistinct}
use Rattle.std.specs.Str.{bytes_eq}
use Rattle.hg_base.specs.PathText.{is_below}
use Rattle.hg_docket.specs.Docket.{Contents}
use Rattle.hg_node.specs.declared.record.Rec.{Rec}
use Rattle.hg_image.specs.Node.{record_at, path_of, source_of}
use Rattle.hg_image.specs.Walk.{levels}

-- a node: its full path, its copy source, and its numbers with the place where it stands
pub record Row : Type 0 where
  pub path : List ℕ
  pub source : Option (List ℕ)
  pub rec : Rec

abbrev pub row_of : List ℕ → Rec → Row
row_of bytes rec = record { path = path_of bytes rec; source = source_of bytes rec; rec = rec }

-- the rows of so many nodes, one after the other: each node, then those below it
unfoldable pub nodes_rows : (ℕ → ℕ → List Row) → List ℕ → ℕ → ℕ → List Row
nodes_rows below bytes at zero = []
nodes_rows below bytes at (suc count) =
    let rec = record_at bytes at in row_of bytes rec ∷ (below rec.kids_start rec.kids_count ++ nodes_rows below bytes (at + 44) count)

-- the rows of a list from which so many levels are left
unfoldable pub list_rows : ℕ → List ℕ → ℕ → ℕ → List Row
list_rows zero bytes start count = []
list_rows (suc depth) bytes start count = nodes_rows (list_rows depth bytes) bytes start count

-- the rows of a data file
abbrev pub rows_of : Contents → List ℕ → List Row
rows_of docket bytes = list_rows levels (take docket.used bytes) docket.root_start docket.root_count

-- no two rows are of one path
abbrev pub AreDistinct : List Row → Type 0
AreDistinct rows = IsDistinct bytes_eq (map (λ row. row.path) rows)

-- of two paths, neither stands below the other
abbrev pub AreApart : List ℕ → List ℕ → Type 0
AreApart a b = (is_below a b ≡ false) × (is_below b a ≡ false)

-- some rows stand below a path; others stand apart from it, and from all that is below it
pub record AreParted (path : List ℕ) (under others : List Row) : Type 0 where
  pub below : AllByRecursion (λ row. is_below path row.path ≡ true) under
  pub apart : AllByRecursion (λ other. AreApart path other.path) others
  pub crossed : AllByRecursion (λ row. AllByRecursion (λ other. AreApart row.path other.path) others) under
