-- The rows that a dirstate keeps, and the maps that they stand for.
use Rattle.std.specs.Prelude.{ℕ, ◌≡◌, Bool, List, map, replicate, Option, Some, None, option_map}
use Rattle.std.specs.List.{IsDistinct, find}
use Rattle.std.specs.List.Sorted.{IsSortedBy}
use Rattle.std.specs.Ordering.{is_lt, nat_cmp}
use Rattle.std.specs.Cmp.Lexicographic.{slice_cmp}
use Rattle.std.specs.Str.{bytes_eq}
use Rattle.hg_entry.specs.Entry.{EntryData, view}
use Rattle.hg_entry.specs.Table.{marks_of}
use Rattle.hg_entry.specs.Table as plain
use Rattle.hg_entry.specs.declared.entry.Item.{Item}
use Rattle.hg_flat.specs.declared.kept.FlatRow.{FlatRow}

-- the parent of a working copy that has no commit
abbrev pub null_parent : List ℕ
null_parent = replicate 20 0

-- which paths have an entry
abbrev pub Kept : Type 0
Kept = List ℕ → Bool

-- the row of each path with an entry
abbrev pub KeptRows : Type 0
KeptRows = List ℕ → Option FlatRow

-- the row of a path among some rows
abbrev pub row_at : List FlatRow → KeptRows
row_at rows path = find (λ row. bytes_eq row.path path) rows

-- rows ascend by the bytes of their paths
abbrev pub AreAscending : List FlatRow → Type 0
AreAscending rows = IsSortedBy (λ a b. is_lt (slice_cmp nat_cmp a.path b.path)) rows

-- no two rows are of one path
abbrev pub HaveOwnPaths : List FlatRow → Type 0
HaveOwnPaths rows = IsDistinct bytes_eq (map (λ row. row.path) rows)

-- the copy source of a row, none where there is no row
abbrev pub source_of : Option FlatRow → Option (List ℕ)
source_of None = None
source_of (Some row) = row.source

-- the flat map that rows stand for, under these parents
abbrev pub flat_from : List ℕ → List ℕ → KeptRows → plain.Flat
flat_from p1 p2 rows =
    record { p1 = p1; p2 = p2; marks = λ path. option_map (λ row. marks_of (view row.entry)) (rows path); sources = λ path. source_of (rows path) }

-- each row stands at its own path
abbrev pub AreNamed : KeptRows → Type 0
AreNamed rows = (path : List ℕ) → option_map (λ row. row.path) (rows path) ≡ option_map (λ row. path) (rows path)

-- an item shows an entry and its source
abbrev pub shown_item : Item → EntryData × Option (List ℕ)
shown_item item = (view item.entry, option_map (λ source. source.text.now) item.source)

abbrev pub shown_row : FlatRow → EntryData × Option (List ℕ)
shown_row row = (view row.entry, row.source)
