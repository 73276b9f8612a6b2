-- What of a data file nothing needs.
use Rattle.std.specs.Prelude.{ℕ, ◌+◌, ◌-◌, Bool, false, ◌&&◌, if◌then◌else◌, List, Option, Some, None, ◌==◌}
use Rattle.std.specs.List.{sum_by}
use Rattle.hg_base.specs.PathText.{parent_of}
use Rattle.hg_docket.specs.Docket.{Contents}
use Rattle.hg_entry.specs.Entry.{has_entry}
use Rattle.hg_image.specs.Rows.{Row, rows_of}
use Rattle.hg_mixed.specs.Held.{Held, is_lent, source_at, text_at}

-- the length of the copy source that a row names; a start of 0 names none
abbrev pub named_length : Row → ℕ
named_length row = if row.rec.copy_start == 0 then 0 else row.rec.copy_len

-- how many bytes a row reaches: its record and the texts that it names
abbrev pub reached : Row → ℕ
reached row = 44 + row.rec.path_len + named_length row

-- how many used bytes of a data file nothing reaches; not below 0, since texts may share bytes
abbrev pub waste : Contents → List Row → ℕ
waste docket rows = docket.used - sum_by reached rows

-- a text is lent still from its place
abbrev pub is_at : Option ℕ → ℕ → Bool
is_at None place = false
is_at (Some at) place = at == place

-- how many bytes a row of the image loses: none where its list is lent still; else its record, and those of its texts that the table doesn't
-- name by their old place. A copy source of a node without an entry is named no more
abbrev pub lost_of : Held → Row → ℕ
lost_of held row =
    if is_lent held (parent_of row.path)
    then 0
    else
    44
    + (if is_at (text_at held row.path) row.rec.path_start then 0 else row.rec.path_len)
    + (if has_entry row.rec.flags && is_at (source_at held row.path) row.rec.copy_start then 0 else named_length row)

-- how many bytes of the data file an append would leave that nothing leads to
abbrev pub lost : Held → ℕ
lost held = held.docket.unreachable + sum_by (lost_of held) (rows_of held.docket held.bytes)
