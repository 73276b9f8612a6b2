-- Which records may be trusted: each recorded time that could be taken for a look was seen with what it stands for.
use Rattle.std.specs.Prelude.{ℕ, ◌≡◌, Bool, true, false, ◌&&◌, ◌||◌, IsTrue, List, Option, Some, None, Result, Ok, is_some}
use Rattle.std.specs.Map.{lookup}
use Rattle.std.specs.Str.{bytes_eq}
use Rattle.hg_compare.specs.Tracked.{ParentRow, equal_bools}
use Rattle.hg_entry.specs.Entry.{CacheData, EntryData, StampData}
use Rattle.hg_entry.specs.Table.{Table}
use Rattle.hg_manifest.specs.Plain.{is_null}
use Rattle.hg_manifest.specs.Rows.{Rows}
use Rattle.hg_manifest.specs.declared.fault.ManifestFault.{ManifestFault}
use Rattle.hg_mtime.specs.Vouching.{may_vouch}
use Rattle.hg_tree.specs.History.{History}
use Rattle.hg_walk.specs.Seeing.{SeenDir, SeenFile}

-- the recorded mode is the row's flag; of a link the executable bit says nothing
abbrev pub has_flag : ParentRow → EntryData → Bool
has_flag row entry = equal_bools row.link entry.link && (entry.link || equal_bools row.exec entry.exec)

-- an entry could vouch for a file with this time: its marks let it, and it has a size and that time. Size and mode alone decide nothing
pub record CouldVouch (entry : EntryData) (copied : Bool) (stamp : StampData) : Type 0 where
  pub marks : IsTrue (may_vouch entry copied)
  pub size : IsTrue (is_some entry.size)
  pub stamp_is : entry.stamp ≡ Some stamp

-- the time of an entry is earned: the first parent has a row of the path with the recorded mode, and with that time the path was seen to be its file
pub record IsEarned (rows : List ℕ → Option ParentRow) (h : History) (path : List ℕ) (entry : EntryData) (stamp : StampData) : Type 0 where
  pub row : ParentRow
  pub is : rows path ≡ Some row
  pub flag : IsTrue (has_flag row entry)
  pub seen : SeenFile h path stamp row

-- a record may be trusted over a history: the time of each entry that could vouch is earned, and each cached directory was seen with its time,
-- under the recorded hash. `rows` is what the first parent has of each path
pub record IsTrusted (rows : List ℕ → Option ParentRow) (table : Table) (h : History) : Type 0 where
  pub entries : (path : List ℕ) (entry : EntryData) (stamp : StampData)
      → table.entries path ≡ Some entry → CouldVouch entry (is_some (table.sources path)) stamp → IsEarned rows h path entry stamp
  pub caches : (dir : List ℕ) (cache : CacheData) → table.caches dir ≡ Some cache → SeenDir h dir cache table.hash table.nodes

abbrev pub is_first : Option EntryData → Bool
is_first None = false
is_first (Some entry) = entry.p1

abbrev pub is_second : Option EntryData → Bool
is_second None = false
is_second (Some entry) = entry.p2

-- a record agrees with its parents: the first one's manifest is there without fault, the paths marked for it are those of the manifest, and where
-- there is no second parent no path is marked for it
pub record IsConsistent (manifest : Result Rows ManifestFault) (table : Table) : Type 0 where
  pub files : Rows
  pub read : manifest ≡ Ok files
  pub first : (path : List ℕ) → is_first (table.entries path) ≡ is_some (lookup (bytes_eq path) files)
  pub second : is_null table.p2 ≡ true → (path : List ℕ) → is_second (table.entries path) ≡ false

-- a record is good: it agrees with its parents, and may be trusted. That its bytes are well formed is that they read as a table
pub record IsGood (manifest : Result Rows ManifestFault) (rows : List ℕ → Option ParentRow) (table : Table) (h : History) : Type 0 where
  pub consistent : IsConsistent manifest table
  pub trusted : IsTrusted rows table h
