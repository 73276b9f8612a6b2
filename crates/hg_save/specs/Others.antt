-- What others keep to as they publish.
use Rattle.std.specs.Prelude.{ℕ, ◌≡◌, ◌≤◌, ◌<◌, ◌+◌, ◌⊎◌, List, length, take, Option, Some, None, Result, IsTrue}
use Rattle.hg_docket.specs.Docket.{docket_of, docket_refusal}
use Rattle.hg_entry.specs.Table.{Table}
use Rattle.hg_image.specs.Reading.{RecordFault}
use Rattle.hg_shelf.specs.History.{Files, History, Who, others}
use Rattle.hg_shelf.specs.Images.{Course, Scene, scene}
use Rattle.hg_save.specs.Loads.{During, files_at}
use Rattle.hg_save.specs.Record.{IsReadable, data_in, data_name, shown_in, reading}
use Rattle.hg_save.specs.Saved.{IsLatest, name_after}
use Rattle.hg_save.specs.declared.loaded.Loaded.{Loaded}

-- a docket is sound, and uses bytes of its data file
pub record UsesData (docket : List ℕ) : Type 0 where
  pub sound : docket_refusal docket ≡ None
  pub uses : 0 < (docket_of docket).used

-- the file that a docket names as its data file
abbrev pub named_file : List ℕ → Files → Option (List ℕ)
named_file docket files = files (data_name (docket_of docket).id)

-- the file with the nodes that the files show
abbrev pub nodes_in : Files → Option (List ℕ)
nodes_in files = named_file (shown_in files) files

-- a file is there, with at least so many bytes
abbrev pub HasFront : ℕ → Option (List ℕ) → Type 0
HasFront used None = ⊥
HasFront used (Some bytes) = used ≤ length bytes

-- a file is absent by now, or it has so many bytes as it had, and these are the same
abbrev pub KeepsFront : ℕ → Option (List ℕ) → Option (List ℕ) → Type 0
KeepsFront used old None = Unit {0}
KeepsFront used None (Some now) = ⊥
KeepsFront used (Some old) (Some now) = (used ≤ length old) × (used ≤ length now) × (take used now ≡ take used old)

-- from a moment on: the data file that the standing docket names is there, and one that a docket has named is at every later moment absent
-- or keeps the bytes that the docket uses
pub record KeepData (h : History) (from : ℕ) : Type 0 where
  pub told : IsTrue h.told
  pub there : (k : ℕ) → from ≤ k → k ≤ h.last → UsesData (shown_in (files_at h k))
      → HasFront (docket_of (shown_in (files_at h k))).used (nodes_in (files_at h k))
  pub kept : (k m : ℕ) → from ≤ k → k ≤ m → m ≤ h.last → UsesData (shown_in (files_at h k))
      → KeepsFront (docket_of (shown_in (files_at h k))).used (nodes_in (files_at h k)) (named_file (shown_in (files_at h k)) (files_at h m))

-- ---- the same, said of single steps

-- the data file that the standing docket names is there
abbrev pub HasData : Files → Type 0
HasData files = UsesData (shown_in files) → HasFront (docket_of (shown_in files)).used (nodes_in files)

-- so many bytes at the front of a file stay as long as it is there, where it has so many; an absent one stays away
abbrev pub StaysFront : ℕ → Option (List ℕ) → Option (List ℕ) → Type 0
StaysFront used old None = Unit {0}
StaysFront used None (Some now) = ⊥
StaysFront used (Some old) (Some now) = used ≤ length old → (used ≤ length now) × (take used now ≡ take used old)

-- an identifier doesn't come after another
abbrev pub IsNotAhead : List ℕ → List ℕ → Type 0
IsNotAhead of id = (n : ℕ) → name_after n of ≡ Some id → ⊥

-- a step keeps the data of the dockets that have stood since a moment
pub record KeepsStood (h : History) (from k : ℕ) : Type 0 where
  pub kept : (j : ℕ) → from ≤ j → j ≤ k → UsesData (shown_in (files_at h j))
      → StaysFront (docket_of (shown_in (files_at h j))).used (named_file (shown_in (files_at h j)) (files_at h k)) (named_file (shown_in (files_at h j)) (files_at h (k + 1)))
  pub there : HasData (files_at h k) → HasData (files_at h (k + 1))

-- ---- what was recorded

-- the files of one moment of a call record this
pub record WasRecorded (old new : History) (recorded : Result Table RecordFault) : Type 0 where
  pub at : ℕ
  pub during : During old new at
  pub reading : reading (files_at new at) ≡ Some recorded

-- bytes are the first of a file, or all where it has fewer
abbrev pub IsFrontOf : Option (List ℕ) → ℕ → List ℕ → Type 0
IsFrontOf None used nodes = ⊥
IsFrontOf (Some bytes) used nodes = nodes ≡ take used bytes

-- what was loaded stood so at one moment of a call: the docket, and the used bytes of the data file that it names
pub record WasLoaded (old new : History) (loaded : Loaded) : Type 0 where
  pub at : ℕ
  pub during : During old new at
  pub docket : shown_in (files_at new at) ≡ loaded.shown.items
  pub nodes : IsFrontOf (data_in (docket_of loaded.shown.items) (files_at new at)) (docket_of loaded.shown.items).used loaded.nodes.items

-- ---- what others publish

-- files have the docket that others have, and record what these do
pub record RecordsAs (old new : Files) : Type 0 where
  pub docket : shown_in new ≡ shown_in old
  pub read : reading new ≡ reading old

-- another docket came to stand
abbrev pub IsPublication : Scene → Scene → Type 0
IsPublication before behind = shown_in behind.files ≡ shown_in before.files → ⊥

-- a step keeps to how a record is published: whatever a crash leaves behind it has the docket and the record that it might have left before or,
-- where another docket came to stand, those that reads show then; these are sound, and no docket that a crash might leave is ahead of that one
pub record IsOrderly (before behind : Scene) : Type 0 where
  pub left : (c : Files) → behind.leaves c → ((d : Files) × before.leaves d × RecordsAs d c) ⊎ (IsPublication before behind × RecordsAs behind.files c)
  pub sound : IsPublication before behind → IsReadable (reading behind.files)
  pub latest : IsPublication before behind → IsLatest behind

-- from a moment on each step of one keeps to how a record is published
pub record KeepsRecords (by : Who) (c : Course) (from : ℕ) : Type 0 where
  pub each : (k : ℕ) → from ≤ k → k < c.history.last → c.history.who k ≡ by → IsOrderly (scene c k) (scene c (k + 1))

-- others published this, by a step from one moment on and before another
pub record WasPublished (c : Course) (start end : ℕ) (recorded : Option (Result Table RecordFault)) : Type 0 where
  pub at : ℕ
  pub from : start ≤ at
  pub to : at < end
  pub by : c.history.who at ≡ others
  pub fresh : IsPublication (scene c at) (scene c (at + 1))
  pub shown : reading (scene c (at + 1)).files ≡ recorded
