-- What the files below `.hg` record: the docket as it stands at one moment, the data file as it stands at that or a later one.
use Rattle.std.specs.Prelude.{ℕ, if◌then◌else◌, List, [], ◌++◌, take, Option, Some, None, Result, Ok, ◌≡◌, codes, ◌==◌}
use Rattle.std.specs.Option.{option_map}
use Rattle.hg_docket.specs.Docket.{Contents, docket_of, docket_refusal}
use Rattle.hg_docket.specs.declared.fault.DocketFault.{DocketFault}
use Rattle.hg_entry.specs.Table.{Table}
use Rattle.hg_image.specs.Reading.{RecordFault, reading_of}
use Rattle.hg_shelf.specs.History.{Files}
use Rattle.hg_shelf.specs.Rules.{content}

-- what stands as the dirstate: its first 512 bytes, which one read takes
abbrev pub docket_in : Files → List ℕ
docket_in files = take 512 (content (files (codes "dirstate")))

-- the docket that the files show: what stands there
abbrev pub shown_in : Files → List ℕ
shown_in files = docket_in files

-- the name of the data file with this identifier
abbrev pub data_name : List ℕ → List ℕ
data_name id = codes "dirstate." ++ id

-- the data file that a docket names; where it uses no bytes no file is read
abbrev pub data_in : Contents → Files → Option (List ℕ)
data_in docket files = if docket.used == 0 then Some [] else files (data_name docket.id)

-- where the docket has a fault of its own, no file is read
abbrev pub needed_in : Option DocketFault → Contents → Files → Option (List ℕ)
needed_in (Some fault) docket files = Some []
needed_in None docket files = data_in docket files

-- the reading of a docket's bytes and of the data file that they name; none where that file is gone
abbrev pub named_reading : List ℕ → Files → Option (Result Table RecordFault)
named_reading bytes files = option_map (reading_of bytes) (needed_in (docket_refusal bytes) (docket_of bytes) files)

-- the reading of the docket in the files at one moment, and of its data file in those at a later one
abbrev pub record_in : Files → Files → Option (Result Table RecordFault)
record_in first second = named_reading (shown_in first) second

-- what the files of one moment record
abbrev pub reading : Files → Option (Result Table RecordFault)
reading files = record_in files files

-- a record is sound: it is there, and no fault
abbrev pub IsReadable : Option (Result Table RecordFault) → Type 0
IsReadable recorded = (t : Table) × (recorded ≡ Some (Ok t))

-- the identifier that the docket names
abbrev pub id_in : Files → List ℕ
id_in files = (docket_of (shown_in files)).id
