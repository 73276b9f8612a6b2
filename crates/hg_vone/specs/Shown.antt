-- What a dirstate of the first version is shown as: a docket and a data file of the second version.
use Rattle.std.specs.Prelude.{ℕ, ◌≡◌, ◌+◌, ◌<◌, ◌≤◌, ◌^◌, false, true, List, [], ◌∷◌, length, replicate, codes, count_by, Some, None, Result, Ok, Err}
use Rattle.hg_docket.specs.Docket.{Contents, docket_of, docket_refusal}
use Rattle.hg_docket.specs.Number.{next_name}
use Rattle.hg_image.specs.Counts.{are_counted, is_copy, is_counted, is_entry}
use Rattle.hg_image.specs.Reading.{reading_of}
use Rattle.hg_image.specs.Rows.{Row, rows_of}
use Rattle.hg_vone.specs.Items.{Item, Reading}
use Rattle.hg_vone.specs.Table.{ReadsAs, table}
use Rattle.hg_vone.specs.declared.fault.VoneFault.{VoneFault}

-- the identifier: `v1`, and none where there are no entries
abbrev pub id_of : List Item → List ℕ
id_of [] = []
id_of (item ∷ items) = codes "v1"

-- how many entries more than there are the docket tells, so that nobody takes its counts for right: one, where there are any
abbrev pub more_entries : List Item → ℕ
more_entries [] = 0
more_entries (item ∷ items) = 1

-- a docket tells the counts of rows, but for the entries, and no bytes to which nothing leads
pub record IsToldOf (items : List Item) (docket : Contents) (rows : List Row) : Type 0 where
  pub entries : docket.entries ≡ count_by is_entry rows + more_entries items
  pub copies : docket.copies ≡ count_by is_copy rows
  pub unreachable : docket.unreachable ≡ 0
  pub nodes : are_counted rows ≡ true
  pub uncounted : more_entries items ≡ 1 → is_counted docket rows ≡ false

-- a docket and a data file show a reading
pub record IsShown (r : Reading) (docket nodes : List ℕ) : Type 0 where
  pub whole : docket_refusal docket ≡ None
  pub few : length docket ≤ 512
  pub reads : ReadsAs (table r) (reading_of docket nodes)
  pub told : IsToldOf r.items (docket_of docket) (rows_of (docket_of docket) nodes)
  pub id : (docket_of docket).id ≡ id_of r.items
  pub next : next_name (docket_of docket).id ≡ Some (replicate 16 48)
  pub used : (docket_of docket).used ≡ length nodes
  pub empty : r.items ≡ [] → nodes ≡ []
  pub small : length nodes < 2 ^ 32

-- where there is a reading, it is shown
abbrev pub Shows : Result Reading VoneFault → List ℕ → List ℕ → Type 0
Shows (Err fault) docket nodes = ⊥
Shows (Ok r) docket nodes = IsShown r docket nodes
