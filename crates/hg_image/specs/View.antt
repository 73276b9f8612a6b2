-- What the parts of an opened data file hold.
use Rattle.std.specs.Prelude.{ℕ, ◌≡◌, ◌+◌, ◌-◌, ◌*◌, ◌<◌, List, Option, Some, None}
use Rattle.std.specs.Option.{option_map}
use Rattle.hg_image.specs.Node.{record_at, name_of}
use Rattle.hg_image.specs.Walk.{levels}
use Rattle.hg_image.specs.Rows.{Row, row_of, nodes_rows, list_rows}
use Rattle.hg_image.specs.declared.opened.Image.{Image}
use Rattle.hg_image.specs.declared.opened.List.{List as NodeList}
use Rattle.hg_image.specs.declared.opened.NodeRef.{NodeRef}

-- the rows of an image
abbrev pub rows : Image → List Row
rows image = list_rows levels image.bytes.now image.docket.root_start image.docket.root_count

-- the rows of a list, and those from one of its nodes on
abbrev pub rows_in : NodeList → List Row
rows_in list = list_rows list.depth list.bytes.now list.start list.count

abbrev pub rows_from : NodeList → ℕ → List Row
rows_from list i = nodes_rows (list_rows (list.depth - 1) list.bytes.now) list.bytes.now (list.start + 44 * i) (list.count - i)

-- the row of a node, and those below it
abbrev pub row : NodeRef → Row
row node = row_of node.bytes.now node.rec

abbrev pub rows_below : NodeRef → List Row
rows_below node = list_rows node.depth node.bytes.now node.rec.kids_start node.rec.kids_count

-- the name of a list's node
abbrev pub name_at : NodeList → ℕ → List ℕ
name_at list i = name_of list.bytes.now (record_at list.bytes.now (list.start + 44 * i))

-- the directory of a list, none for the root
abbrev pub dir_of : NodeList → Option (List ℕ)
dir_of list = option_map (λ d. d.text.now) list.dir

-- the node is one of the list's
pub record IsMember (list : NodeList) (node : NodeRef) : Type 0 where
  pub place : ℕ
  pub inside : place < list.count
  pub rec : node.rec ≡ record_at list.bytes.now (list.start + 44 * place)
  pub bytes : node.bytes.now ≡ list.bytes.now
  pub levels : node.depth + 1 ≡ list.depth

-- what a look-up by name answers: the list's node of this name, or none where no node has it
abbrev pub Finds : NodeList → List ℕ → Option NodeRef → Type 0
Finds list name None = (i : ℕ) → i < list.count → name_at list i ≡ name → ⊥
Finds list name (Some node) = (name_of node.bytes.now node.rec ≡ name) × IsMember list node
