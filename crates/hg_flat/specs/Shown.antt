-- What the rows of a dirstate show.
use Rattle.std.specs.Prelude.{is_some}
use Rattle.hg_entry.specs.Table as plain
use Rattle.hg_flat.specs.Kept.{Kept, KeptRows, flat_from, row_at}
use Rattle.hg_flat.specs.declared.flat.Flat.{Flat}

-- the row of each path with an entry
abbrev pub rows_of : Flat → KeptRows
rows_of flat = row_at flat.rows.items

-- which paths have an entry
abbrev pub kept_of : Flat → Kept
kept_of flat path = is_some (rows_of flat path)

-- the flat map: the parents, and by path the marks and the copy sources
abbrev pub flat_in : Flat → plain.Flat
flat_in flat = flat_from flat.p1.0 flat.p2.0 (rows_of flat)
