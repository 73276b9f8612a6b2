-- What was read of the record, and what reading it answers, by what a load found.
use Rattle.std.specs.Prelude.{ℕ, ◌≤◌, ◌≡◌, List, ◌∷◌, map, Option, Some, None, Result, Ok, Err, IsTrue}
use Rattle.std.specs.List.{AllByRecursion}
use Rattle.hg_entry.specs.Table.{Table}
use Rattle.hg_image.specs.Reading.{RecordFault}
use Rattle.hg_image.specs.Reading as a_record_fault
use Rattle.hg_report.specs.declared.fault.Fault.{Fault}
use Rattle.hg_report.specs.declared.fault.Fault.TheVariants as a_session_fault
use Rattle.hg_save.specs.Asked.{docket_ask, named_asks}
use Rattle.hg_save.specs.Loads.{During, Tries, Try, files_at, found_by, id_by}
use Rattle.hg_save.specs.Record.{shown_in, id_in, record_in}
use Rattle.hg_session.specs.Call.{Fails, Watched}
use Rattle.hg_session.specs.declared.read_fault.ReadFault.{ReadFault}
use Rattle.hg_session.specs.declared.read_fault.ReadFault.TheVariants as a_fault
use Rattle.hg_shelf.specs.Asks.{AsksFrontOf}
use Rattle.hg_shelf.specs.History.{Files, History}

-- ---- what was read

-- the files below `.hg`, at moments of the call, record this table
pub record IsRead (old new : History) (table : Table) : Type 0 where
  pub tries : List Try
  pub tried : Tries old new tries
  pub found : found_by new tried.last ≡ Some (Ok table)

-- the table was read in the call, where the files are told
abbrev pub IsLoaded : Watched History → Table → Type 0
IsLoaded files table = IsTrue files.old.told → IsRead files.old files.new table

-- some table was
abbrev pub WasLoaded : Watched History → Type 0
WasLoaded files = IsTrue files.old.told → (table : Table) × IsRead files.old files.new table

-- the files below `.hg` were asked for no more than a load asks for: the docket as it stood at a moment of the call, and the data file that it names, each
-- once, and of this one for no more bytes than are used, nor than it had at that moment or a later one
pub record AsksRecord (old new : History) : Type 0 where
  pub at : ℕ
  pub during : During old new at
  pub seen : ℕ
  pub later : at ≤ seen
  pub upto : seen ≤ new.last
  pub asks : AsksFrontOf (docket_ask ∷ named_asks (shown_in (files_at new at)) (files_at new seen)) old new

-- ---- what reading it answers

-- why the record isn't read where the last try of a load found this, and the dockets of its tries name these identifiers; want of memory
-- and a failing shelf say nothing of the files
abbrev pub IsRefused : ReadFault → List (List ℕ) → Option (Result Table RecordFault) → Type 0
IsRefused (a_fault.Docket fault) ids found = found ≡ Some (Err (a_record_fault.Docket fault))
IsRefused (a_fault.Node fault) ids found = found ≡ Some (Err (a_record_fault.Node fault))
IsRefused (a_fault.DataGone gone) ids found = (found ≡ None) × (gone ≡ ids)
IsRefused a_fault.OutOfMemory ids found = Unit {0}
IsRefused a_fault.Failed ids found = Unit {0}

-- the record wasn't read by these tries, for what the last one found
pub record Refuses (old new : History) (tries : List Try) (fault : ReadFault) : Type 0 where
  pub tried : Tries old new tries
  pub answer : IsRefused fault (map (id_by new) tries) (found_by new tried.last)

-- the record at moments of the call was refused so, where the files are told
abbrev pub LoadMet : ReadFault → Watched History → Type 0
LoadMet fault files = IsTrue files.old.told → ((tries : List Try) × Refuses files.old files.new tries fault)

-- why the record wasn't read: a shelf that failed, or what stood in the files. Want of memory needs no reason
abbrev pub MetReading : Watched History → ReadFault → Type 0
MetReading files a_fault.OutOfMemory = Unit {0}
MetReading files a_fault.Failed = Fails files
MetReading files fault = LoadMet fault files

-- what these files record can't be read, for this fault, where nobody else steps and no device fails; want of memory needs no reason
abbrev pub IsUnreadable : Files → Fault → Type 0
IsUnreadable files a_session_fault.OutOfMemory = Unit {0}
IsUnreadable files (a_session_fault.Docket fault) = record_in files files ≡ Some (Err (a_record_fault.Docket fault))
IsUnreadable files (a_session_fault.Node fault) = record_in files files ≡ Some (Err (a_record_fault.Node fault))
IsUnreadable files (a_session_fault.DataGone ids) = (record_in files files ≡ None) × AllByRecursion (λ id. id ≡ id_in files) ids
IsUnreadable files fault = ⊥
