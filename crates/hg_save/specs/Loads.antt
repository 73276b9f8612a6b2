-- What a load answers, by the moments of the shelf during the call.
use Rattle.std.specs.Prelude.{ℕ, ◌≡◌, ◌⊎◌, ◌<◌, ◌≤◌, List, [], ◌∷◌, ◌++◌, map, take, length, min, Option, Some, None, Result, Ok, Err, IfOk, Vec}
use Rattle.std.specs.List.{AllByRecursion}
use Rattle.std.specs.declared.alloc.Global.{Global}
use Rattle.hg_docket.specs.Docket.{Contents, docket_of}
use Rattle.hg_entry.specs.Table.{Table}
use Rattle.hg_image.specs.Reading.{RecordFault, data_reading, reading_of}
use Rattle.hg_image.specs.Reading as a_record_fault
use Rattle.hg_shelf.specs.History.{Files, History}
use Rattle.hg_save.specs.Record.{data_in, docket_in, data_name, shown_in, id_in, named_reading, record_in}
use Rattle.hg_save.specs.declared.load_fault.LoadFault.{LoadFault}
use Rattle.hg_save.specs.declared.load_fault.LoadFault.TheVariants as a_fault
use Rattle.hg_save.specs.declared.loaded.Loaded.{Loaded}

-- a moment of a call
pub record During (old new : History) (k : ℕ) : Type 0 where
  pub from : old.last ≤ k
  pub to : k ≤ new.last

-- the files at a moment
abbrev pub files_at : History → ℕ → Files
files_at h k = (h.at k).files

-- one try of a load: the moments as of which it read the docket and the data file
pub record Try : Type 0 where
  pub docket : ℕ
  pub file : ℕ

-- both are moments of the call, the docket's at or before the data file's
pub record IsTry (old new : History) (tried : Try) : Type 0 where
  pub docket : During old new tried.docket
  pub file : During old new tried.file
  pub order : tried.docket ≤ tried.file

-- each try comes after the one before it
abbrev pub AreInOrder : List Try → Type 0
AreInOrder [] = Unit {0}
AreInOrder (one ∷ []) = Unit {0}
AreInOrder (one ∷ next ∷ more) = (one.file ≤ next.docket) × AreInOrder (next ∷ more)

-- what a try found: the reading of the record, or none where the data file was gone
abbrev pub found_by : History → Try → Option (Result Table RecordFault)
found_by h tried = record_in (files_at h tried.docket) (files_at h tried.file)

-- the identifier that the docket of a try names
abbrev pub id_by : History → Try → List ℕ
id_by h tried = id_in (files_at h tried.docket)

-- what was read: the bytes of the docket, which it shows, and of the data file as many as lead to what the whole file does
pub record IsLoad (bytes : List ℕ) (found : Option (Result Table RecordFault)) (loaded : Loaded) : Type 0 where
  pub docket : loaded.docket.items ≡ bytes
  pub shown : loaded.shown.items ≡ bytes
  pub reading : found ≡ Some (reading_of loaded.shown.items loaded.nodes.items)

-- what a load answers where its last try read this docket and found this, and the dockets of its tries name these identifiers; want of
-- memory and a failing shelf say nothing of the files
abbrev pub Answers : Result Loaded LoadFault → List ℕ → List (List ℕ) → Option (Result Table RecordFault) → Type 0
Answers (Ok loaded) docket ids found = IsLoad docket found loaded
Answers (Err (a_fault.Docket fault)) docket ids found = found ≡ Some (Err (a_record_fault.Docket fault))
Answers (Err (a_fault.DataGone gone)) docket ids found = (found ≡ None) × (gone ≡ ids)
Answers (Err a_fault.OutOfMemory) docket ids found = Unit {0}
Answers (Err a_fault.Failed) docket ids found = Unit {0}

-- a data file had fewer bytes than are used: as many as it had were read, as they stood at its front then or later
pub record IsShort (h : History) (from : ℕ) (id : List ℕ) (used : ℕ) (nodes bytes : List ℕ) : Type 0 where
  pub short : length bytes < used
  pub many : length nodes ≡ length bytes
  pub at : ℕ
  pub since : from ≤ at
  pub upto : at ≤ h.last
  pub later : List ℕ
  pub there : files_at h at (data_name id) ≡ Some later
  pub front : nodes ≡ take (length bytes) later

-- so many bytes of a data file were read as are used, or it had fewer
abbrev pub Covers : History → ℕ → List ℕ → ℕ → List ℕ → List ℕ → Type 0
Covers h at id used nodes bytes = (nodes ≡ take used bytes) ⊎ IsShort h at id used nodes bytes

-- which bytes of a data file were read that a docket names
abbrev pub ReadsUsed : History → ℕ → Contents → List ℕ → Option (List ℕ) → Type 0
ReadsUsed h at docket nodes None = ⊥
ReadsUsed h at docket nodes (Some bytes) = Covers h at docket.id docket.used nodes bytes

-- which bytes of the data file a try read
abbrev pub ReadsAsOf : History → ℕ → Contents → List ℕ → Type 0
ReadsAsOf h at docket nodes = ReadsUsed h at docket nodes (data_in docket (files_at h at))

-- the tries of a load, at most five: each but the last found the data file gone
pub record Tries (old new : History) (tries : List Try) : Type 0 where
  pub earlier : List Try
  pub last : Try
  pub whole : tries ≡ earlier ++ last ∷ []
  pub few : length tries ≤ 5
  pub within : AllByRecursion (IsTry old new) tries
  pub order : AreInOrder tries
  pub gone : AllByRecursion (λ tried. found_by new tried ≡ None) earlier

-- a load by these tries, whose answer is what the last one found, with the bytes that it read
pub record Loads (old new : History) (tries : List Try) (result : Result Loaded LoadFault) : Type 0 where
  pub tried : Tries old new tries
  pub answer : Answers result (docket_in (files_at new tried.last.docket)) (map (id_by new) tries) (found_by new tried.last)
  pub nodes : IfOk result (λ loaded. ReadsAsOf new tried.last.file (docket_of (shown_in (files_at new tried.last.docket))) loaded.nodes.items)

-- ---- the steps of one try

-- where the docket's bytes are known
pub record NamedFinds (old new : History) (bytes : List ℕ) (result : Result Loaded LoadFault) : Type 0 where
  pub at : ℕ
  pub file : During old new at
  pub answer : Answers result bytes ((docket_of bytes).id ∷ []) (named_reading bytes (files_at new at))
  pub nodes : IfOk result (λ loaded. ReadsAsOf new at (docket_of bytes) loaded.nodes.items)

-- the bytes of an answer
abbrev pub bytes_of : Result (Vec ℕ Global) LoadFault → Result (List ℕ) LoadFault
bytes_of (Ok vec) = Ok vec.items
bytes_of (Err fault) = Err fault

-- a fault by which no bytes of a data file were read: want of memory and a failing shelf say nothing, and a file that is gone was absent
abbrev pub IsUnread : List ℕ → LoadFault → Option (List ℕ) → Type 0
IsUnread id a_fault.OutOfMemory file = Unit {0}
IsUnread id a_fault.Failed file = Unit {0}
IsUnread id (a_fault.DataGone ids) file = (ids ≡ id ∷ []) × (file ≡ None)
IsUnread id (a_fault.Docket fault) file = ⊥

-- the bytes of a data file that were read lead to what the whole file does
abbrev pub DataFinds : Contents → Result (List ℕ) LoadFault → Option (List ℕ) → Type 0
DataFinds docket (Ok nodes) None = ⊥
DataFinds docket (Ok nodes) (Some bytes) = data_reading docket nodes ≡ data_reading docket bytes
DataFinds docket (Err fault) file = IsUnread docket.id fault file

pub record DataFindsDuring (old new : History) (docket : Contents) (result : Result (List ℕ) LoadFault) : Type 0 where
  pub at : ℕ
  pub file : During old new at
  pub finds : DataFinds docket result (data_in docket (files_at new at))
  pub nodes : IfOk result (λ nodes. ReadsAsOf new at docket nodes)

-- so many bytes were read from the front of a data file, or it was absent
abbrev pub FrontFinds : List ℕ → ℕ → Result (List ℕ) LoadFault → Option (List ℕ) → Type 0
FrontFinds id want (Ok nodes) None = ⊥
FrontFinds id want (Ok nodes) (Some bytes) = nodes ≡ take (min want (length bytes)) bytes
FrontFinds id want (Err fault) file = IsUnread id fault file

-- a data file was read, or was absent
abbrev pub FileFinds : History → ℕ → List ℕ → ℕ → Result (List ℕ) LoadFault → Option (List ℕ) → Type 0
FileFinds h at id used (Ok nodes) None = ⊥
FileFinds h at id used (Ok nodes) (Some bytes) = Covers h at id used nodes bytes
FileFinds h at id used (Err fault) file = IsUnread id fault file

pub record FileFindsDuring (old new : History) (id : List ℕ) (used : ℕ) (result : Result (List ℕ) LoadFault) : Type 0 where
  pub at : ℕ
  pub file : During old new at
  pub finds : FileFinds new at id used result (files_at new at (data_name id))
