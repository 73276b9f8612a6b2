-- What the private calls say that read the record.
use Rattle.std.specs.Prelude.{ℕ, ◌≡◌, List, map, Option, Some, Result, Ok, Err, Vec, false}
use Rattle.std.specs.declared.alloc.Global.{Global}
use Rattle.hg_docket.specs.Docket.{docket_of}
use Rattle.hg_entry.specs.Table.{Table}
use Rattle.hg_image.specs.Reading.{RecordFault}
use Rattle.hg_image.specs.Rows.{rows_of}
use Rattle.hg_image.specs.declared.fault.NodeFault.{NodeFault}
use Rattle.hg_mixed.specs.Held.{Held, has_list, image_table, is_lent, table}
use Rattle.hg_mixed.specs.Shown.{ArePlacesOf}
use Rattle.hg_nodes.specs.Edits.{IsSame}
use Rattle.hg_report.specs.Debug.{IsDebugText}
use Rattle.hg_save.specs.Loads.{Tries, Try, found_by, id_by, Loads}
use Rattle.hg_save.specs.declared.load_fault.LoadFault.TheVariants as a_load
use Rattle.hg_save.specs.declared.load_fault.LoadFault.{LoadFault}
use Rattle.hg_save.specs.declared.loaded.Loaded.{Loaded}
use Rattle.hg_session.specs.Loaded.{Refuses, IsRefused}
use Rattle.hg_session.specs.declared.read_fault.ReadFault.TheVariants as a_read
use Rattle.hg_session.specs.declared.read_fault.ReadFault.{ReadFault}
use Rattle.hg_shelf.specs.History.{History}

-- a fault of a load, as one of reading
abbrev pub by_load : LoadFault → ReadFault
by_load a_load.OutOfMemory = a_read.OutOfMemory
by_load (a_load.Docket fault) = a_read.Docket fault
by_load (a_load.DataGone ids) = a_read.DataGone ids
by_load a_load.Failed = a_read.Failed

-- bytes are the text of a table
abbrev pub IsBytesOf : Table → Vec ℕ Global → Type 0
IsBytesOf table bytes = IsDebugText table bytes.items

-- something that is so made of the table that was found, or a fault
abbrev pub Answers : {X : Type 0} → (Table → X → Type 0) → Result X ReadFault → List (List ℕ) → Option (Result Table RecordFault) → Type 0
Answers IsOf (Ok made) ids found = (table : Table) × (found ≡ Some (Ok table)) × IsOf table made
Answers IsOf (Err fault) ids found = IsRefused fault ids found

-- the record was read by these tries, and the answer is what the last one found
pub record Reads {X : Type 0} (IsOf : Table → X → Type 0) (old new : History) (tries : List Try) (result : Result X ReadFault) : Type 0 where
  pub tried : Tries old new tries
  pub answer : Answers IsOf result (map (id_by new) tries) (found_by new tried.last)

-- what the nodes of a data file lead to
abbrev pub NodesFind : {X : Type 0} → (Table → X → Type 0) → Result X ReadFault → Result Table NodeFault → Type 0
NodesFind IsOf (Ok made) found = (table : Table) × (found ≡ Ok table) × IsOf table made
NodesFind IsOf (Err (a_read.Node fault)) found = found ≡ Err fault
NodesFind IsOf (Err a_read.OutOfMemory) found = Unit {0}
NodesFind IsOf (Err fault) found = ⊥

-- the record was loaded by these tries, or refused for what the last one found
abbrev pub LoadsOrRefuses : History → History → List Try → Result Loaded ReadFault → Type 0
LoadsOrRefuses old new tries (Ok loaded) = Loads old new tries (Ok loaded)
LoadsOrRefuses old new tries (Err fault) = Refuses old new tries fault

-- a table was opened over what was loaded, nothing is changed in it, and all its lists are lent
pub record IsOpened (loaded : Loaded) (recorded : Table) (opened : Held) : Type 0 where
  pub same : IsSame (table opened) recorded
  pub unchanged : opened.changed ≡ false
  pub contents : opened.docket ≡ docket_of loaded.shown.items
  pub nodes : opened.bytes ≡ loaded.nodes.items
  pub image : IsSame (table opened) (image_table opened)
  pub lent : (dir : Option (List ℕ)) → is_lent opened dir ≡ has_list (rows_of opened.docket opened.bytes) dir
  pub placed : ArePlacesOf (rows_of opened.docket opened.bytes) opened
