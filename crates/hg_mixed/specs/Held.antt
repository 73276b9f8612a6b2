-- What a table in memory holds, as contracts see it.
use Rattle.std.specs.Prelude.{ℕ, Bool, ◌&&◌, ◌||◌, if◌then◌else◌, List, Option, is_some}
use Rattle.std.specs.Option.{option_map}
use Rattle.std.specs.List.{list_any}
use Rattle.hg_base.specs.PathText.{is_same_dir, parent_of}
use Rattle.hg_docket.specs.Docket.{Contents}
use Rattle.hg_entry.specs.Entry.{CacheData}
use Rattle.hg_entry.specs.Table.{Table}
use Rattle.hg_image.specs.Reading as reading
use Rattle.hg_image.specs.Reading.{row_at}
use Rattle.hg_image.specs.Rows.{Row, rows_of}
use Rattle.hg_mixed.specs.Lent.{covers, lent_at}
use Rattle.hg_nodes.specs.Lists.{or_root}
use Rattle.hg_nodes.specs.Memory.{table_of}
use Rattle.hg_nodes.specs.Node.{NodeData, node_at, source_text_in, text_in}
use Rattle.hg_mixed.specs.Opened.{node_of}

-- the docket and the used bytes of the image that was opened; the parents and the hash; whether an edit has changed anything; the nodes
-- and the times of cached directories that are in memory, by path; the lists of the image that aren't in memory, each by its directory (empty for the
-- root) with all that stands below it; in the same way the lists of the image that are in memory, and unchanged there
pub record Held : Type 0 where
  pub docket : Contents
  pub bytes : List ℕ
  pub p1 : List ℕ
  pub p2 : List ℕ
  pub hash : List ℕ
  pub changed : Bool
  pub rows : List (List ℕ × NodeData)
  pub times : List (List ℕ × CacheData)
  pub left : List (List ℕ × List Row)
  pub kept : List (List ℕ × List Row)

-- at some paths what an image says, and at all others what is in memory
abbrev pub merged : (List ℕ → Bool) → Table → Table → Table
merged left image own =
    record own {
      entries = λ at. if left at then image.entries at else own.entries at;
      sources = λ at. if left at then image.sources at else own.sources at;
      nodes = λ at. if left at then image.nodes at else own.nodes at;
      caches = λ at. if left at then image.caches at else own.caches at;
    }

-- the table of the image
abbrev pub image_table : Held → Table
image_table held = reading.table_of held.docket (rows_of held.docket held.bytes)

-- all that is recorded
abbrev pub table : Held → Table
table held = merged (covers held.left) (image_table held) (table_of held.p1 held.p2 held.hash held.rows held.times)

-- an image has a list of a directory's children: a node stands right in the directory
abbrev pub has_list : List Row → Option (List ℕ) → Bool
has_list rows dir = list_any (λ row. is_same_dir dir (parent_of row.path)) rows

-- the list of a directory, of which the text is empty for the root, isn't in memory: it is left in the image by itself, or with one of a directory above
abbrev pub is_left_in : List (List ℕ × List Row) → List ℕ → Bool
is_left_in left dir = is_some (lent_at left dir) || covers left dir

-- an image has a list of a directory's children, which is left there, or is in memory and unchanged
abbrev pub is_lent_in : List Row → List (List ℕ × List Row) → List (List ℕ × List Row) → Option (List ℕ) → Bool
is_lent_in rows left kept dir = has_list rows dir && (is_left_in left (or_root dir) || is_some (lent_at kept (or_root dir)))

-- the list of a directory's children is lent
abbrev pub is_lent : Held → Option (List ℕ) → Bool
is_lent held dir = is_lent_in (rows_of held.docket held.bytes) held.left held.kept dir

-- the node at a path, with the places of its texts: that of the image's row, or that in memory
abbrev pub node_here : List Row → List (List ℕ × List Row) → List (List ℕ × NodeData) → List ℕ → Option NodeData
node_here rows left own path = if covers left path then option_map node_of (row_at rows path) else node_at own path

abbrev pub node_in : Held → List ℕ → Option NodeData
node_in held path = node_here (rows_of held.docket held.bytes) held.left held.rows path

-- the place of a path's text in the image, where it is lent
abbrev pub text_at : Held → List ℕ → Option ℕ
text_at held path = text_in (node_in held path)

-- the place of the text of its copy source
abbrev pub source_at : Held → List ℕ → Option ℕ
source_at held path = source_text_in (node_in held path)
