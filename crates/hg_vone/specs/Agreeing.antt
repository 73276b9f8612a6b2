-- When the nodes of an image agree with the entries that they were laid out from.
use Rattle.std.specs.Prelude.{ℕ, ◌≡◌, ◌+◌, Bool, true, not, ◌&&◌, if◌then◌else◌, List, Some, ◌==◌}
use Rattle.std.specs.List.{AllByRecursion, list_all}
use Rattle.hg_docket.specs.Docket.{Contents, empty_hash}
use Rattle.hg_entry.specs.Entry.{has_entry}
use Rattle.hg_entry.specs.Flags.{flag}
use Rattle.hg_entry.specs.Table.{Marks}
use Rattle.hg_image.specs.Counts.{is_counted, is_entry}
use Rattle.hg_image.specs.Reading.{row_at, table_of}
use Rattle.hg_image.specs.Rows.{Row}
use Rattle.hg_vone.specs.Items.{Item, Reading, has_path}
use Rattle.hg_vone.specs.Table.{IsSame, table}

-- the flags of an entry: bits 0 to 2
abbrev pub flags_of : Marks → ℕ
flags_of m = flag m.w 0 + flag m.p1 1 + flag m.p2 2

-- a node with an entry is at a path that passes; one without has no flags, and entries below it
abbrev pub is_right : (List ℕ → Bool) → Row → Bool
is_right has row = if is_entry row then has row.path else row.rec.flags == 0 && not (row.rec.entries_below == 0)

-- an entry has a node that says it
pub record HasNode (rows : List Row) (item : Item) : Type 0 where
  pub row : Row
  pub at : row_at rows item.path ≡ Some row
  pub entry : has_entry row.rec.flags ≡ true
  pub flags : row.rec.flags ≡ flags_of item.marks
  pub source : row.source ≡ item.source

-- the rows are those of the items, and their counts are those from scratch
pub record Agrees (docket : Contents) (rows : List Row) (items : List Item) : Type 0 where
  pub right : list_all (is_right (has_path items)) rows ≡ true
  pub nodes : AllByRecursion (HasNode rows) items
  pub counted : is_counted docket rows ≡ true

-- a test passes the paths of the items alone
abbrev pub AreThePaths : (List ℕ → Bool) → List Item → Type 0
AreThePaths has items = (q : List ℕ) → has q ≡ has_path items q

-- all counts are those from scratch, and the table is that of the items, where the parents and the hash are
pub record Tells (docket : Contents) (rows : List Row) (items : List Item) : Type 0 where
  pub counted : is_counted docket rows ≡ true
  pub same : (said : Reading) → said.items ≡ items → docket.p1 ≡ said.p1 → docket.p2 ≡ said.p2 → docket.hash ≡ empty_hash → IsSame (table_of docket rows) (table said)
