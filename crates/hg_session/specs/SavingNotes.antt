-- What the private calls say that save what a status noted.
use Rattle.std.specs.Prelude.{ℕ, ◌≡◌, ◌⊎◌, List, [], ◌∷◌, Option, Some, None, Result, Ok, Err, IsTrue}
use Rattle.hg_append.specs.declared.fault.EncodeFault.TheVariants as an_encode
use Rattle.hg_base.specs.Fault.{Rose}
use Rattle.hg_docket.specs.Docket.{docket_of}
use Rattle.hg_entry.specs.Table.{Table}
use Rattle.hg_image.specs.Reading.{data_reading}
use Rattle.hg_image.specs.Rows.{rows_of}
use Rattle.hg_mixed.specs.Held.{Held, has_list, image_table, is_lent, table}
use Rattle.hg_mixed.specs.Shown.{ArePlacesOf}
use Rattle.hg_nodes.specs.Edits.{IsSame}
use Rattle.hg_report.specs.declared.fault.Fault.TheVariants as a_fault
use Rattle.hg_report.specs.declared.fault.Fault.{Fault}
use Rattle.hg_save.specs.Loads.{Loads, Try}
use Rattle.hg_save.specs.declared.loaded.Loaded.{Loaded}
use Rattle.hg_session.specs.Call.{Count, Saved, Watched}
use Rattle.hg_session.specs.Change.{IsSafe}
use Rattle.hg_session.specs.Changing.{IsSafeHeld}
use Rattle.hg_session.specs.Look.{OnlyReads}
use Rattle.hg_session.specs.Saving.{noted_makes, IsNoted, IsNotedHeld, IsLockedToSave}
use Rattle.hg_session.specs.declared.change_fault.ChangeFault.TheVariants as a_change
use Rattle.hg_session.specs.declared.change_fault.ChangeFault.{ChangeFault}
use Rattle.hg_session.specs.declared.save_fault.SaveFault.TheVariants as a_save
use Rattle.hg_session.specs.declared.save_fault.SaveFault.{SaveFault}
use Rattle.hg_shelf.specs.History.{Extends, History}
use Rattle.hg_shelf.specs.Polite.{Undisturbed}
use Rattle.hg_walk.specs.Applying.{IsBlank}
use Rattle.hg_walk.specs.Notes.{NotesData}

-- a fault of saving, as a command tells it
abbrev pub of_save : SaveFault → Fault
of_save a_save.OutOfMemory = a_fault.OutOfMemory
of_save a_save.ShelfFailed = a_fault.ShelfFailed

-- the one that saving answers, if it does
abbrev pub save_fault : Result Unit SaveFault → Option Fault
save_fault (Ok done) = None
save_fault (Err fault) = Some (of_save fault)

-- a record that can't be written isn't saved, which is no fault
abbrev pub unless_full : Result Unit ChangeFault → Result Unit SaveFault
unless_full (Ok done) = Ok done
unless_full (Err (a_change.Encode an_encode.OutOfMemory)) = Err a_save.OutOfMemory
unless_full (Err (a_change.Encode fault)) = Ok tt
unless_full (Err fault) = Err a_save.ShelfFailed

-- the first fault of saving and of giving the lock back
abbrev pub once_saved : {U E : Type 0} → Result Unit SaveFault → Result U E → Result Unit SaveFault
once_saved (Err fault) freed = Err fault
once_saved (Ok done) (Err failed) = Err a_save.ShelfFailed
once_saved (Ok done) (Ok unit) = Ok done

-- a table in memory was opened from a record of this table that was loaded since a start, and all its lists are lent
pub record IsOpenedSince (start now : History) (loaded : Loaded) (recorded : Table) (opened : Held) : Type 0 where
  pub mid : History
  pub front : Extends start mid
  pub past : Extends mid now
  pub loads : IsTrue start.told → (tried : Try) × Loads start mid (tried ∷ []) (Ok loaded)
  pub nodes : data_reading (docket_of loaded.shown.items) loaded.nodes.items ≡ Ok recorded
  pub same : IsSame (table opened) recorded
  pub image : IsSame (table opened) (image_table opened)
  pub lent : (dir : Option (List ℕ)) → is_lent opened dir ≡ has_list (rows_of opened.docket opened.bytes) dir
  pub placed : ArePlacesOf (rows_of opened.docket opened.bytes) opened

-- the try that read the record from which a table in memory was opened
abbrev pub IsTryOf : (start now : History) (loaded : Loaded) (recorded : Table) (opened : Held) → IsOpenedSince start now loaded recorded opened → Try → Type 0
IsTryOf start now loaded recorded opened since tried = (told : IsTrue start.told) × (tried ≡ (since.loads told).1.tried.last)

-- what became of notes where the lock is held all along, and where others only read meanwhile
pub record SavesHeld (Own : Try → Type 0) (start : History) (files : Watched History) (saved : Saved) (recorded : Table) (notes : NotesData) (fault : Option Fault) : Type 0 where
  pub safe : Undisturbed saved.old saved.new → IsSafeHeld (noted_makes (record files { old = start }) recorded notes) saved fault
  pub ends : fault ≡ None → Undisturbed saved.old saved.new → IsNoted Own start recorded notes saved saved.old.history.last saved.new.history.last

-- what became of notes over a record of this table, which was read since a start
pub record SavesNotes (Own : Try → Type 0) (start : History) (files : Watched History) (saved : Saved) (locks : Count) (recorded : Table) (notes : NotesData) (fault : Option Fault) : Type 0 where
  -- where nothing was noted nothing below `.hg` is touched
  pub idle : IsBlank notes → OnlyReads saved locks × (fault ≡ None)
  pub safe : Undisturbed saved.old saved.new → IsSafe (noted_makes (record files { old = start }) recorded notes) saved fault
  pub locked : IsLockedToSave Own start files saved locks recorded notes fault
  -- without a fault: nothing was noted, or the lock was refused, and else this came of it
  pub saves : fault ≡ None → IsBlank notes ⊎ (Rose locks.before locks.after ⊎ IsNotedHeld Own start recorded notes saved)
