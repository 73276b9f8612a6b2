-- What an append leaves behind, as it is counted: by the lists of the image, one after the other.
use Rattle.std.specs.Prelude.{ℕ, ◌≡◌, ◌+◌, ◌*◌, Bool, true, not, ◌&&◌, if◌then◌else◌, count_by, nat_lt, List, Option, is_some}
use Rattle.std.specs.List.{AllByRecursion, sum_by}
use Rattle.hg_base.specs.PathText.{is_path, parent_of}
use Rattle.hg_base.specs.Within.{is_above}
use Rattle.hg_docket.specs.Written.{is_writable}
use Rattle.hg_image.specs.Counts.{is_copy, is_counted}
use Rattle.hg_image.specs.Reading.{row_at}
use Rattle.hg_image.specs.Rows.{Row, rows_of}
use Rattle.hg_image.specs.View.{dir_of, rows_in}
use Rattle.hg_image.specs.declared.opened.List.{List as NodeList}
use Rattle.hg_mixed.specs.Held.{Held, is_lent}
use Rattle.hg_append.specs.Lost.{lost, lost_of}
use Rattle.hg_append.specs.Put.{kept}
use Rattle.hg_append.specs.declared.way.Way.{Way}
use Rattle.hg_append.specs.declared.way.Way.TheVariants as a_way
use Rattle.hg_append.specs.declared.loss.Loss.{Loss}

-- a node with a copy source, in a list that isn't lent any more
abbrev pub is_lost_copy : Held → Row → Bool
is_lost_copy held row = not (is_lent held (parent_of row.path)) && is_copy row

-- the loss of some rows: their bytes, and how many have a copy source
abbrev pub loss_of : Held → List Row → Loss
loss_of held rows = record { bytes = kept (sum_by (lost_of held) rows); copies = kept (count_by (is_lost_copy held) rows) }

-- two losses together
abbrev pub plus : Loss → Loss → Loss
plus a b = record { bytes = kept (a.bytes + b.bytes); copies = kept (a.copies + b.copies) }

-- a row of the image below a directory
pub record IsImageRow (held : Held) (dir : Option (List ℕ)) (row : Row) : Type 0 where
  pub above : is_above dir row.path ≡ true
  pub path : is_path row.path ≡ true
  pub there : is_some (row_at (rows_of held.docket held.bytes) row.path) ≡ true

-- a list has rows of the image alone, all below its directory
abbrev pub IsOfImage : Held → NodeList → Type 0
IsOfImage held list = AllByRecursion (IsImageRow held (dir_of list)) (rows_in list)

-- how a table is best written: behind its data file, where the file's counts are right and less than half of it would be left behind; else anew. (Each
-- docket that was read can be written)
abbrev pub plan_of : Held → Way
plan_of held =
    if is_writable held.docket && is_counted held.docket (rows_of held.docket held.bytes) && nat_lt (2 * lost held) held.docket.used
    then a_way.Append
    else a_way.Rewrite
