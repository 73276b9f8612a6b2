-- An edit as a row.
use Rattle.std.specs.Option.{option_map}
use Rattle.hg_entry.specs.Entry.{view}
use Rattle.hg_race.specs.Rows.{Row}
use Rattle.hg_race.specs.declared.edits.Edit.{Edit}

-- the path of an edit, and what is recorded of it from then on
abbrev pub row_of : Edit → Row
row_of edit = record { path = edit.path; entry = option_map view edit.entry }
