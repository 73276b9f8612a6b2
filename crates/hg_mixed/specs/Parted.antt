-- How a table is parted between an image and memory.
use Rattle.std.specs.Prelude.{ℕ, ◌≡◌, true, false, List, [], Option, Some, None, is_some}
use Rattle.std.specs.Option.{option_map}
use Rattle.hg_base.specs.PathText.{is_path, parent_of}
use Rattle.hg_base.specs.Within.{is_above}
use Rattle.hg_docket.specs.Docket.{Contents}
use Rattle.hg_docket.specs.Docket as docket
use Rattle.hg_entry.specs.Table.{Table}
use Rattle.hg_image.specs.Reading.{row_at}
use Rattle.hg_image.specs.Reading as reading
use Rattle.hg_image.specs.Rows.{Row, rows_of}
use Rattle.hg_image.specs.View.{dir_of, rows_in}
use Rattle.hg_image.specs.declared.opened.Image.{Image}
use Rattle.hg_image.specs.declared.opened.List.{List as NodeList}
use Rattle.hg_nodes.specs.Edits.{IsFormed, IsSame}
use Rattle.hg_mixed.specs.Held.{Held, has_list, is_lent_in, merged, node_here}
use Rattle.hg_mixed.specs.Lent.{as_dir, covers, lent_at}
use Rattle.hg_mixed.specs.Own.{InMemory, memory_table}
use Rattle.hg_nodes.specs.Node.{NodeData, source_in, source_text_in, text_in}
use Rattle.hg_mixed.specs.Opened.{node_of}

-- the rows of an image, as a reading of its bytes has them
abbrev pub image_rows : Image → List Row
image_rows image = rows_of (docket.view image.docket) image.bytes.now

-- the table of an image, by its rows, with those paths that memory has
abbrev pub whole : Contents → List Row → List (List ℕ × List Row) → Table → Table
whole docket rows left own = merged (covers left) (reading.table_of docket rows) own

-- each list that is left has what the image has below its directory; a node in memory stands in a directory that isn't the image's, and where
-- it is the image's itself, the image has a node there; the rows of the image are at paths; the table as a whole is formed
pub record IsParted (docket : Contents) (rows : List Row) (left : List (List ℕ × List Row)) (own : Table) : Type 0 where
  pub lists : (dir : List ℕ) (lent : List Row) → lent_at left dir ≡ Some lent → (at : List ℕ) → is_above (as_dir dir) at ≡ true → row_at lent at ≡ row_at rows at
  pub placed : (at dir : List ℕ) → own.nodes at ≡ true → parent_of at ≡ Some dir → covers left dir ≡ false
  pub known : (at : List ℕ) → own.nodes at ≡ true → covers left at ≡ true → is_some (row_at rows at) ≡ true
  pub paths : (at : List ℕ) → is_some (row_at rows at) ≡ true → is_path at ≡ true
  pub formed : IsFormed (whole docket rows left own)

-- the texts of a node that are lent lie where the image has those of its own node, and a copy source whose text is lent is the image's
pub record IsPlaced (image now : Option NodeData) : Type 0 where
  pub text : is_some (text_in now) ≡ true → text_in now ≡ text_in image
  pub source : is_some (source_text_in now) ≡ true → (source_text_in now ≡ source_text_in image) × (source_in now ≡ source_in image)

abbrev pub ArePlaced : List Row → List (List ℕ × List Row) → List (List ℕ × NodeData) → Type 0
ArePlaced rows left own = (at : List ℕ) → IsPlaced (option_map node_of (row_at rows at)) (node_here rows left own at)

-- what stands where has changed, and the table hasn't
pub record IsMoved (docket : Contents) (rows : List Row) (left : List (List ℕ × List Row)) (own : InMemory) (left_now : List (List ℕ × List Row)) (own_now : InMemory) : Type 0 where
  pub parted : IsParted docket rows left_now (memory_table own_now)
  pub same : IsSame (whole docket rows left_now (memory_table own_now)) (whole docket rows left (memory_table own))
  pub nodes : (at : List ℕ) → node_here rows left_now own_now.rows at ≡ node_here rows left own.rows at
  pub lent : (dir : Option (List ℕ)) → is_lent_in rows left_now own_now.kept dir ≡ is_lent_in rows left own.kept dir
  pub changed : own_now.changed ≡ own.changed

-- all that stands below a directory is as the image has it, and each list there is lent
pub record IsWhole (docket : Contents) (rows : List Row) (left : List (List ℕ × List Row)) (own : InMemory) (dir : Option (List ℕ)) : Type 0 where
  pub nodes : (at : List ℕ) → is_above dir at ≡ true → node_here rows left own.rows at ≡ option_map node_of (row_at rows at)
  pub caches : (at : List ℕ) → is_above dir at ≡ true → (whole docket rows left (memory_table own)).caches at ≡ (reading.table_of docket rows).caches at
  pub lists : (sub : List ℕ) → is_above dir sub ≡ true → has_list rows (Some sub) ≡ true → is_lent_in rows left own.kept (Some sub) ≡ true

-- so it is below each directory whose list is lent
abbrev pub AreWhole : Contents → List Row → List (List ℕ × List Row) → InMemory → Type 0
AreWhole docket rows left own = (dir : Option (List ℕ)) → is_lent_in rows left own.kept dir ≡ true → IsWhole docket rows left own dir

-- no list of a directory above a path is the image's any more, nor that of the path itself
pub record IsFree (left : List (List ℕ × List Row)) (path : List ℕ) : Type 0 where
  pub above : covers left path ≡ false
  pub own : lent_at left path ≡ None

-- the list of a directory is in memory, where no directory is the root
abbrev pub IsOwn : List (List ℕ × List Row) → Option (List ℕ) → Type 0
IsOwn left None = lent_at left [] ≡ None
IsOwn left (Some dir) = (covers left dir ≡ false) × (lent_at left dir ≡ None)

-- the rows of the image that a table was opened over
abbrev pub image_of : Held → List Row
image_of held = rows_of held.docket held.bytes

-- the list of a directory is the image's, none where the image has no node at the directory
abbrev pub IsLentIn : List (List ℕ × List Row) → List Row → Option (List ℕ) → Option NodeList → Type 0
IsLentIn left rows dir None = ((at : List ℕ) → is_above dir at ≡ true → covers left at ≡ true) × ((at : List ℕ) → parent_of at ≡ dir → row_at rows at ≡ None)
IsLentIn left rows dir (Some list) =
    (dir_of list ≡ dir) × ((at : List ℕ) → is_above dir at ≡ true → covers left at ≡ true) × ((at : List ℕ) → is_above dir at ≡ true → row_at (rows_in list) at ≡ row_at rows at)
