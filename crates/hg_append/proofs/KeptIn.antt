-- A list that lies in a file already: what a reading of the file finds there.
use Rattle.std.proofs.Common.{◌≡◌, ℕ, ◌+◌, ◌≤◌, ◌<◌, ◌^◌, true, Option, None, Some, List, length}
use Rattle.std.specs.Prelude.{count_by, is_some}
use Rattle.std.specs.List.{AllByRecursion}
use Rattle.hg_base.specs.PathText.{components, is_below, is_path}
use Rattle.hg_entry.specs.Entry.{cache_of, entry_of}
use Rattle.hg_entry.specs.Table.{Table}
use Rattle.hg_image.specs.Node.{fields_of}
use Rattle.hg_image.specs.Counts.{are_counted, is_entry, is_tracked}
use Rattle.hg_image.specs.Reading.{row_at}
use Rattle.hg_image.specs.Rows.{Row, list_rows}
use Rattle.hg_image.specs.Walk.{list_fault}
use Rattle.hg_mixed.specs.Children.{IsChild}
use Rattle.hg_nodes.specs.Children.{ChildData}
use Rattle.hg_mixed.specs.Held.{Held, table}
use Rattle.hg_append.specs.declared.kept.Kept.{Kept}
use Rattle.hg_append.specs.Keeps.{Keeps}
use Rattle.hg_append.specs.Layout.{source_text}
use Rattle.hg_append.proofs.Has.{Has}

-- a row says what the table does of its path
pub record IsRight (t : Table) (row : Row) : Type 0 where
  pub node : t.nodes row.path ≡ true
  pub entry : entry_of (fields_of row.rec) ≡ t.entries row.path
  pub source : row.source ≡ t.sources row.path
  pub cache : cache_of (fields_of row.rec) ≡ t.caches row.path

-- the list of a directory has no fault where it lies, its rows are these, and they say what the table does
pub record IsKeptIn (held : Held) (file : List ℕ) (path : List ℕ) (list : Kept) (rows : List Row) : Type 0 where
  pub sound : (fuel : ℕ) → 2049 ≤ fuel + length (components path) → list_fault fuel file (Some path) list.start list.count ≡ None
  pub rows_are : (fuel : ℕ) → 2049 ≤ fuel + length (components path) → list_rows fuel file list.start list.count ≡ rows
  pub start : list.start < 2 ^ 32
  pub count : list.count < 2 ^ 32
  pub counted : are_counted rows ≡ true
  pub entries : count_by is_entry rows ≡ list.entries
  pub tracked : count_by is_tracked rows ≡ list.tracked
  pub right : AllByRecursion (IsRight (table held)) rows
  pub below : AllByRecursion (λ row. is_below path row.path ≡ true) rows
  pub all : (p : List ℕ) → is_below path p ≡ true → (table held).nodes p ≡ true → is_some (row_at rows p) ≡ true

-- each list that is kept lies in the file, and so does each text that is used again
pub record AreKeptIn (held : Held) (keeps : Keeps) (file : List ℕ) (rows : List ℕ → List Row) : Type 0 where
  pub lists : (path : List ℕ) (list : Kept) → is_path path ≡ true → keeps.list path ≡ Some list → IsKeptIn held file path list (rows path)
  pub texts : (dir : Option (List ℕ)) (child : ChildData) (place : ℕ) → IsChild held dir child → keeps.text child.text_at ≡ Some place → Has file place child.path
  pub sources : (dir : Option (List ℕ)) (child : ChildData) (place : ℕ) → IsChild held dir child → keeps.text child.source_at ≡ Some place → Has file place (source_text child.source)
