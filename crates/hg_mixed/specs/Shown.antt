-- What a table in memory answers.
use Rattle.std.specs.Prelude.{ℕ, ◌≡◌, ◌<◌, true, false, List, Option, Some, None, is_some, option_map}
use Rattle.std.specs.Option.{option_and_then}
use Rattle.hg_docket.specs.Docket.{Contents}
use Rattle.hg_base.specs.PathText.{parent_of}
use Rattle.hg_base.specs.Within.{is_above}
use Rattle.hg_image.specs.Reading.{row_at}
use Rattle.hg_image.specs.Rows.{Row, rows_of}
use Rattle.hg_image.specs.View.{dir_of, rows_in}
use Rattle.hg_image.specs.declared.opened.List.{List as NodeList}
use Rattle.hg_mixed.specs.Held.{Held, has_list, image_table, is_lent, source_at, table, text_at}
use Rattle.hg_nodes.specs.Node.{node_at}
use Rattle.hg_mixed.specs.Opened.{source_place}

-- where an image has the list of a directory: the byte place of its first node, and how many nodes there are
abbrev pub list_place : Contents → List Row → Option (List ℕ) → Option (ℕ × ℕ)
list_place docket rows None = Some (docket.root_start, docket.root_count)
list_place docket rows (Some dir) = option_map (λ row. (row.rec.kids_start, row.rec.kids_count)) (row_at rows dir)

-- a list lies where the image has that of a directory, and has for all that stands below the directory the image's rows
pub record IsListAt (docket : Contents) (file : List ℕ) (all : List Row) (dir : Option (List ℕ)) (list : NodeList) : Type 0 where
  pub in_dir : dir_of list ≡ dir
  pub bytes : list.bytes.now ≡ file
  pub place : list_place docket all dir ≡ Some (list.start, list.count)
  pub rows : (path : List ℕ) → is_above dir path ≡ true → row_at (rows_in list) path ≡ row_at all path

-- such a list, or none where nothing stands right in the directory
abbrev pub FindsList : Contents → List ℕ → List Row → Option (List ℕ) → Option NodeList → Type 0
FindsList docket file all dir None = (at : List ℕ) → parent_of at ≡ dir → row_at all at ≡ None
FindsList docket file all dir (Some list) = IsListAt docket file all dir list

-- the image's list of a directory, where it has one: a list has nodes
abbrev pub AnswersList : Contents → List ℕ → List Row → Option (List ℕ) → Option NodeList → Type 0
AnswersList docket file all dir None = has_list all dir ≡ false
AnswersList docket file all dir (Some list) = (has_list all dir ≡ true) × (0 < list.count) × IsListAt docket file all dir list

-- a list is the list of a directory's children in the image that a table was opened over, and it has nodes
pub record IsListOfImage (held : Held) (dir : Option (List ℕ)) (list : NodeList) : Type 0 where
  pub in_dir : dir_of list ≡ dir
  pub bytes : list.bytes.now ≡ held.bytes
  pub place : list_place held.docket (rows_of held.docket held.bytes) dir ≡ Some (list.start, list.count)
  pub some : 0 < list.count
  pub rows : (path : List ℕ) → is_above dir path ≡ true → row_at (rows_in list) path ≡ row_at (rows_of held.docket held.bytes) path

-- the list that is lent, where one is
abbrev pub AnswersLent : Held → Option (List ℕ) → Option NodeList → Type 0
AnswersLent held dir None = is_lent held dir ≡ false
AnswersLent held dir (Some list) = (is_lent held dir ≡ true) × IsListOfImage held dir list

-- a table says of a path what the image says, and all its texts are lent
pub record IsAsImage (held : Held) (at : List ℕ) : Type 0 where
  pub entry : (table held).entries at ≡ (image_table held).entries at
  pub source : (table held).sources at ≡ (image_table held).sources at
  pub node : (table held).nodes at ≡ (image_table held).nodes at
  pub cache : (table held).caches at ≡ (image_table held).caches at
  pub text : text_at held at ≡ option_map (λ row. row.rec.path_start) (row_at (rows_of held.docket held.bytes) at)
  pub source_text : source_at held at ≡ option_and_then source_place (row_at (rows_of held.docket held.bytes) at)

-- below a directory whose list is lent all is as the image has it, and each list is lent
pub record IsLentWhole (held : Held) (dir : Option (List ℕ)) : Type 0 where
  pub each : (at : List ℕ) → is_above dir at ≡ true → IsAsImage held at
  pub lists : (sub : List ℕ) → is_above dir sub ≡ true → has_list (rows_of held.docket held.bytes) (Some sub) ≡ true → is_lent held (Some sub) ≡ true

abbrev pub AreLentWhole : Held → Type 0
AreLentWhole held = (dir : Option (List ℕ)) → is_lent held dir ≡ true → IsLentWhole held dir

-- each list of the image is lent, and nothing is in memory
pub record AreAllLent (rows : List Row) (held : Held) : Type 0 where
  pub lists : (dir : Option (List ℕ)) → is_lent held dir ≡ has_list rows dir
  pub bare : (at : List ℕ) → node_at held.rows at ≡ None

-- each text is lent, of a path and of a copy source, and lies where the row of its path has it
pub record ArePlacesOf (rows : List Row) (held : Held) : Type 0 where
  pub texts : (at : List ℕ) → text_at held at ≡ option_map (λ row. row.rec.path_start) (row_at rows at)
  pub sources : (at : List ℕ) → source_at held at ≡ option_and_then source_place (row_at rows at)

-- each text that is lent lies where the image has that of the path's own row, and a copy source whose text is lent is the image's
pub record ArePlacesOfImage (held : Held) : Type 0 where
  pub texts : (at : List ℕ) → is_some (text_at held at) ≡ true → text_at held at ≡ option_map (λ row. row.rec.path_start) (row_at (rows_of held.docket held.bytes) at)
  pub sources : (at : List ℕ) → is_some (source_at held at) ≡ true
      → (source_at held at ≡ option_and_then source_place (row_at (rows_of held.docket held.bytes) at))
      × ((table held).sources at ≡ option_and_then (λ row. row.source) (row_at (rows_of held.docket held.bytes) at))
