-- What a record says of each path with an entry: by its table, and by the rows of a walk.
use Rattle.std.specs.Prelude.{ℕ, ◌≡◌, List, [], ◌∷◌, ◌++◌, map, Option, Some, None, option_map}
use Rattle.hg_entry.specs.Entry.{EntryData, entry_of}
use Rattle.hg_entry.specs.Table.{Table}
use Rattle.hg_image.specs.Node.{fields_of}
use Rattle.hg_image.specs.Rows as node
use Rattle.hg_flat.specs.Kept.{KeptRows, shown_row}
use Rattle.hg_flat.specs.declared.kept.FlatRow.{FlatRow}

-- an entry and its copy source, where it has one
abbrev pub Recorded : Type 0
Recorded = EntryData × Option (List ℕ)

-- what a table says of a path, where it has an entry
abbrev pub recorded_at : Table → List ℕ → Option Recorded
recorded_at table path = option_map (λ entry. (entry, table.sources path)) (table.entries path)

-- the row of each path is what the table says of it
abbrev pub Records : Table → KeptRows → Type 0
Records table rows = (path : List ℕ) → option_map shown_row (rows path) ≡ recorded_at table path

-- what a row records, where its node has an entry
abbrev pub recorded_in : node.Row → Option Recorded
recorded_in row = option_map (λ entry. (entry, row.source)) (entry_of (fields_of row.rec))

-- a path with what is recorded of it, where anything is
abbrev pub recording : List ℕ → Option Recorded → List (List ℕ × Recorded)
recording path None = []
recording path (Some recorded) = (path, recorded) ∷ []

-- what rows record, each at its path, in their order
abbrev pub recordings : List node.Row → List (List ℕ × Recorded)
recordings [] = []
recordings (row ∷ rows) = recording row.path (recorded_in row) ++ recordings rows

-- what these rows record was put behind the rows so far
abbrev pub Adds : List node.Row → List FlatRow → List FlatRow → Type 0
Adds rows old new = map (λ row. (row.path, shown_row row)) new ≡ map (λ row. (row.path, shown_row row)) old ++ recordings rows
