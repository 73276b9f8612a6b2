-- What is found in a list by path.
use Rattle.std.specs.Prelude.{ℕ, zero, suc, ◌≡◌, ◌+◌, ◌-◌, ◌*◌, true, List, [], ◌∷◌}
use Rattle.hg_base.specs.PathText.{is_below}
use Rattle.hg_image.specs.Node.{record_at}
use Rattle.hg_image.specs.Reading.{row_at}
use Rattle.hg_image.specs.Rows.{Row, row_of}
use Rattle.hg_image.specs.View.{row, rows_below, rows_in}
use Rattle.hg_image.specs.declared.opened.List.{List as NodeList}
use Rattle.hg_image.specs.declared.opened.NodeRef.{NodeRef}

-- what stands below a node is in some rows, those of a list, what it is below the node
abbrev pub HasBelowIn : List Row → NodeRef → Type 0
HasBelowIn rows node = (at : List ℕ) → is_below (row node).path at ≡ true → row_at (rows_below node) at ≡ row_at rows at

abbrev pub HasBelow : NodeList → NodeRef → Type 0
HasBelow list node = HasBelowIn (rows_in list) node

-- the rows of so many nodes, one after the other, without those below them
unfoldable pub own_rows : List ℕ → ℕ → ℕ → List Row
own_rows bytes at zero = []
own_rows bytes at (suc count) = row_of bytes (record_at bytes at) ∷ own_rows bytes (at + 44) count

-- those of a list from one of its nodes on
abbrev pub level : NodeList → ℕ → List Row
level list i = own_rows list.bytes.now (list.start + 44 * i) (list.count - i)
