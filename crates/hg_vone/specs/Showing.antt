-- The steps in which a reading is shown.
use Rattle.std.specs.Prelude.{ℕ, ◌≡◌, ◌+◌, List, take, drop, None}
use Rattle.hg_docket.specs.Docket.{Contents}
use Rattle.hg_image.specs.Rows.{rows_of}
use Rattle.hg_image.specs.Walk.{image_fault}
use Rattle.hg_vone.specs.Agreeing.{Tells}
use Rattle.hg_vone.specs.Items.{Item, Reading}

-- what some bytes say, of which these are the entries
abbrev pub reading_with : List ℕ → List Item → Reading
reading_with bytes items = record { p1 = take 20 bytes; p2 = take 20 (drop 20 bytes); items = items }

-- nodes have no fault, and tell the items
pub record IsSound (docket : Contents) (nodes : List ℕ) (items : List Item) : Type 0 where
  pub none : image_fault docket nodes ≡ None
  pub tells : Tells docket (rows_of docket nodes) items

-- a docket with so many entries more
abbrev pub with_more : Contents → ℕ → Contents
with_more docket more = record docket { entries = docket.entries + more }
