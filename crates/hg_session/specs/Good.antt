-- Good records: when whatever a crash leaves of the record is good, and what a call needs of others for it to stay so.
use Rattle.std.specs.Prelude.{ℕ, ◌≡◌, ◌≤◌, ◌<◌, ◌+◌, ◌⊎◌, List, Option, Some, Result, Ok, IsTrue}
use Rattle.hg_base.specs.declared.id.Id20.{Id20}
use Rattle.hg_compare.specs.Alike.{contents_name}
use Rattle.hg_entry.specs.Table.{Table}
use Rattle.hg_flat.specs.Parent.{manifest_at, row_among}
use Rattle.hg_ignore.specs.Patterns.{Apart}
use Rattle.hg_image.specs.Reading.{RecordFault}
use Rattle.hg_manifest.specs.Plain.{plain_name}
use Rattle.hg_manifest.specs.declared.row.FileRow.{FileRow}
use Rattle.hg_save.specs.Others.{HasData, KeepsRecords, KeepsStood, WasPublished}
use Rattle.hg_save.specs.Record.{reading}
use Rattle.hg_save.specs.Saved.{IsLatest}
use Rattle.hg_session.specs.Call.{Looked, Saved}
use Rattle.hg_session.specs.Change.{IsReadFirst}
use Rattle.hg_session.specs.Listed.{IsRightFor}
use Rattle.hg_shelf.specs.History.{Files, History, now, others}
use Rattle.hg_shelf.specs.Images.{Scene, last_scene, scene}
use Rattle.hg_shelf.specs.Polite.{KeepsPlain, KeepsThere, Undisturbed}
use Rattle.hg_tree.specs.History as tree
use Rattle.hg_tree.specs.Honest.{IsHonest}
use Rattle.hg_walk.specs.Right.{AreRight}
use Rattle.hg_walk.specs.Trust.{IsGood}
use Rattle.hg_walk.specs.Walking.{first_id, rows_in}

-- a table is good by the plain store in these files, over a history of the working copy
abbrev pub IsGoodIn : Files → Table → tree.History → Type 0
IsGoodIn files t h = IsGood (manifest_at files (first_id t)) (rows_in t files) t h

-- what is recorded is a good table
abbrev pub IsGoodRecord : Files → tree.History → Option (Result Table RecordFault) → Type 0
IsGoodRecord files h recorded = (t : Table) × (recorded ≡ Some (Ok t)) × IsGoodIn files t h

-- whatever a crash leaves at a moment is a good record, by the plain store that the crash leaves
abbrev pub LeavesGood : tree.History → Scene → Type 0
LeavesGood h s = (c : Files) → s.leaves c → IsGoodRecord c h (reading c)

-- a plain file that decides what a parent has of each path: its manifest, or contents that a row of the manifest names
abbrev pub IsOfParent : Files → Id20 → List ℕ → Type 0
IsOfParent files id name =
    (name ≡ plain_name id.0) ⊎ ((path : List ℕ) × (row : FileRow) × (row_among (manifest_at files id) path ≡ Some row) × (name ≡ contents_name row.id.0))

-- the plain files of a parent that are there are so in other files, too
abbrev pub HoldsParent : Id20 → Files → Files → Type 0
HoldsParent id there files = (name bytes : List ℕ) → IsOfParent there id name → there name ≡ Some bytes → files name ≡ Some bytes

-- of the plain store a crash leaves what a store has of the first parent of the record that it leaves, and no more of it than reads show
pub record LeavesParent (store : Files) (s : Scene) : Type 0 where
  pub shown : (c : Files) (t : Table) → s.leaves c → reading c ≡ Some (Ok t) → HoldsParent (first_id t) store c
  pub left : (c : Files) (t : Table) → s.leaves c → reading c ≡ Some (Ok t) → HoldsParent (first_id t) c s.files

-- from a moment on each step of others keeps the data of the dockets that have stood since
pub record OthersKeepStood (h : History) (from : ℕ) : Type 0 where
  pub each : (k : ℕ) → from ≤ k → k < h.last → h.who k ≡ others → KeepsStood h from k

-- what a call needs of times, of the plain store and of others for good records to stay good by a history that goes on from that of the working copy
pub record IsFair (by : tree.History) (looked : Looked) (saved : Saved) : Type 0 where
  -- times are honest
  pub told : IsTrue looked.tree.old.told
  pub honest : IsHonest looked.tree.new
  -- what is there of the plain store stays, though absent files may come, and a crash leaves what the call's end has of the first parent of its record
  pub plain : KeepsThere saved.new.history saved.old.history.last
  pub parent : (k : ℕ) → saved.old.history.last ≤ k → k ≤ saved.new.history.last → LeavesParent (last_scene saved.new).files (scene saved.new k)
  -- others only read while the lock is held, publish as a record is published, and keep the data that dockets name
  pub calm : Undisturbed saved.old saved.new
  pub keep : KeepsRecords others saved.new saved.old.history.last
  pub kept : OthersKeepStood saved.new.history saved.old.history.last
  -- what others publish is good by the plain store behind that
  pub published : (t : Table) (was : WasPublished saved.new saved.old.history.last saved.new.history.last (Some (Ok t))) → IsGoodIn (scene saved.new (was.at + 1)).files t by

-- a shelf may be begun upon: no docket that a crash might leave is ahead of the one that stands, the data file that this one names is there, and
-- whatever a crash leaves is good
pub record IsGoodGround (by : tree.History) (s : Scene) : Type 0 where
  pub latest : IsLatest s
  pub there : HasData s.files
  pub good : LeavesGood by s

-- from such a shelf a call leads to such a one, and at each of its moments whatever a crash leaves is good
abbrev pub StaysGood : Looked → Saved → Type 0
StaysGood looked saved =
    (by : tree.History) → tree.Extends looked.tree.new by → IsFair by looked saved → IsGoodGround by (last_scene saved.old)
    → (k : ℕ) → saved.old.history.last ≤ k → k ≤ saved.new.history.last → LeavesGood by (scene saved.new k)

-- recorded times are right in a call by what the first parent has of each path at its end; and where the plain store doesn't change, at each moment of it
pub record AreRightBy (looked : Looked) (table : Table) : Type 0 where
  pub end : AreRight (rows_in table (now looked.shelf.new).files) table looked.tree.old looked.tree.new
  pub each : KeepsPlain looked.shelf.new looked.shelf.old.last → IsRightFor looked table

-- the times of a record that was read before the caller's first step are right in the call, where no two states of ignore patterns share a hash. The two
-- devices' histories have no common order: what was read has to be good by what the working copy was at the call's start, also where others published it
abbrev pub ReadsRight : Looked → Saved → Type 0
ReadsRight looked saved =
    IsFair looked.tree.old looked saved → Apart looked.tree.new → IsGoodGround looked.tree.old (last_scene saved.old)
    → (t : Table) → IsReadFirst looked.shelf.old looked.shelf.new t → AreRightBy looked t

-- what a call keeps of good records
pub record KeepsGood (looked : Looked) (saved : Saved) : Type 0 where
  -- the moments of the working copy so far stay
  pub past : tree.Extends looked.tree.old looked.tree.new
  pub stays : StaysGood looked saved
  pub right : ReadsRight looked saved
