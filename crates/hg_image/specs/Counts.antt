-- The counts that a docket and its nodes record (Mercurial help, internals.dirstate-v2), as they are from scratch.
use Rattle.std.specs.Prelude.{ℕ, ◌*◌, Bool, ◌&&◌, List, length, is_some, count_by, ◌==◌, nat_le}
use Rattle.std.specs.List.{list_all}
use Rattle.hg_base.specs.PathText.{is_below}
use Rattle.hg_docket.specs.Docket.{Contents}
use Rattle.hg_entry.specs.Entry.{has_entry}
use Rattle.hg_entry.specs.Flags.{has, wdir_tracked}
use Rattle.hg_image.specs.Rows.{Row}

-- the node has an entry, is tracked, has a copy source
abbrev pub is_entry : Row → Bool
is_entry row = has_entry row.rec.flags

abbrev pub is_tracked : Row → Bool
is_tracked row = has row.rec.flags wdir_tracked

abbrev pub is_copy : Row → Bool
is_copy row = is_some row.source

-- how many of some rows that stand below a path pass a test
abbrev pub count_below : (Row → Bool) → List ℕ → List Row → ℕ
count_below test path rows = count_by (λ row. is_below path row.path && test row) rows

-- a node records how many entries and how many tracked ones stand below it
abbrev pub is_row_counted : List Row → Row → Bool
is_row_counted rows row =
    row.rec.entries_below == count_below is_entry row.path rows && row.rec.tracked_below == count_below is_tracked row.path rows

-- each node does
abbrev pub are_counted : List Row → Bool
are_counted rows = list_all (is_row_counted rows) rows

-- so does the docket with all entries and all copy sources, and there is room for all nodes in the used bytes
abbrev pub is_counted : Contents → List Row → Bool
is_counted docket rows =
    docket.entries == count_by is_entry rows
    && docket.copies == count_by is_copy rows
    && are_counted rows
    && nat_le (44 * length rows) docket.used
