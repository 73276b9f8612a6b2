-- What publishing a changed table by the better way leaves of the dirstate, at each moment and after a crash.
use Rattle.std.specs.Prelude.{ℕ, ◌≡◌, ◌<◌, ◌≤◌, true, List, [], Option, Some, None, Result, Ok, Err}
use Rattle.hg_append.specs.Encoded.{IsWritten}
use Rattle.hg_append.specs.declared.encoding.Encoded.{Encoded}
use Rattle.hg_append.specs.declared.way.Way.{Way}
use Rattle.hg_append.specs.declared.way.Way.TheVariants as a_way
use Rattle.hg_append.specs.Appended.{IsAppended}
use Rattle.hg_append.specs.Either.{HasCauseBy, file_of}
use Rattle.hg_append.specs.Loss.{plan_of}
use Rattle.hg_base.specs.Fault.{Rose}
use Rattle.hg_docket.specs.Docket.{docket_of}
use Rattle.hg_docket.specs.Number.{next_name}
use Rattle.hg_entry.specs.Table.{Table}
use Rattle.hg_image.specs.Reading.{reading_of}
use Rattle.hg_image.specs.Rows.{rows_of}
use Rattle.hg_nodes.specs.Edits.{IsSame}
use Rattle.hg_mixed.specs.Held.{Held, is_lent, table}
use Rattle.hg_mixed.specs.Shown.{AreLentWhole, ArePlacesOfImage, list_place}
use Rattle.hg_save.specs.declared.publish_fault.PublishFault.{PublishFault}
use Rattle.hg_save.specs.declared.publish_fault.PublishFault.TheVariants as a_fault
use Rattle.hg_save.specs.Leads.{Leads}
use Rattle.hg_save.specs.Others.{HasData, KeepsRecords, nodes_in}
use Rattle.hg_save.specs.Record.{IsReadable, data_name, shown_in, id_in}
use Rattle.hg_save.specs.Saved.{HoldsExactly, IsLatest, IsUnnamed, KeepsOthers, LeavesOnly, NamesExactly, Records, ShowsOnly, Stands, TurnsOnce, WritesOnly, published}
use Rattle.hg_save.specs.declared.loaded.Loaded.{Loaded}
use Rattle.hg_save.specs.Behind.{HasNodes, IsBase, IsFree, IsFreeIn, IsSolid, KeepsUsed, KeepsUsedBytes, LeavesData}
use Rattle.hg_shelf.specs.History.{Files, us}
use Rattle.hg_shelf.specs.Images.{Course, Scene, last_scene, scene}
use Rattle.hg_shelf.specs.Rules.{content}

-- ---- what a table is published upon

-- where the loaded docket uses bytes, the data file that reads show begins with the loaded nodes
abbrev pub HasUsed : Loaded → Scene → Type 0
HasUsed loaded s = 0 < (docket_of loaded.shown.items).used → HasNodes loaded s

-- the moment over which a table is published by a way: the loaded docket stands, and what a crash may leave names no later identifier; and where it goes behind
-- the data file, that begins with the nodes that the docket uses, and what a crash may leave is solid
pub record IsGround (way : Way) (loaded : Loaded) (s : Scene) : Type 0 where
  pub stands : Stands loaded.shown.items s
  pub latest : IsLatest s
  pub nodes : way ≡ a_way.Append → HasUsed loaded s
  pub solid : way ≡ a_way.Append → IsSolid s

-- what of a table is lent lies in the image as the image has it: a list with all below it, and the text of a path or of a copy source
pub record IsLentRight (held : Held) : Type 0 where
  pub lists : AreLentWhole held
  pub places : ArePlacesOfImage held

-- ---- what is published

-- a table was encoded by a way: anew, or behind its data file
abbrev pub IsEncodedBy : Way → Held → Encoded → Type 0
IsEncodedBy a_way.Rewrite held new = IsWritten held new
IsEncodedBy a_way.Append held new = IsAppended held new

-- and by the better one, as which it reads back as a table that says the same
pub record IsEncoded (held : Held) (new : Encoded) (found : Table) : Type 0 where
  pub by : IsEncodedBy (plan_of held) held new
  pub reads : reading_of new.docket.items (file_of held new) ≡ Ok found
  pub same : IsSame found (table held)

-- which files a way leaves as they are. Anew: all but the docket, the one that is written first, the data file with the next identifier, and the one
-- that the docket named, which may go. Behind: all but those two dockets and the data file, of which the used bytes stay
abbrev pub KeepsOthersBy : Way → Held → Course → Course → Type 0
KeepsOthersBy a_way.Rewrite held old new = (id : List ℕ) × (next_name held.docket.id ≡ Some id) × Leads (KeepsOthers held.docket.id id) old new
KeepsOthersBy a_way.Append held old new = Leads (KeepsUsedBytes held.docket.id held.docket.used) old new

-- what was encoded was published over the record that was loaded, wholly or in part. At each moment reads show that record or the new one, and a crash leaves
-- what it might have left or the new one; what is written is written at its place and past the old end, and no file shows other bytes on its way than those
-- of the start and of the end; where the docket names a new identifier all is exact; no other file is changed; no docket that a crash may leave is ahead of the one that stands, if none was; whatever a crash may leave that names an
-- identifier has the data, if what it might have left at the start has, and it is solid, if it was; and each step keeps to what is asked of others
pub record IsPut (loaded : Loaded) (new : Encoded) (old now : Course) : Type 0 where
  pub crash : IsFree new (last_scene old) → (0 < new.place → HasNodes loaded (last_scene old)) → LeavesOnly old now (published loaded.nodes.items new)
  pub shown : IsFreeIn new (last_scene old).files → (0 < new.place → HasNodes loaded (last_scene old)) → ShowsOnly old now (published loaded.nodes.items new)
  pub torn : Leads (WritesOnly new (last_scene old).files) old now
  pub once : (k : ℕ) → old.history.last ≤ k → k ≤ now.history.last → TurnsOnce new (last_scene old).files (scene now k).files (last_scene now).files
  pub named : IsUnnamed new.id (last_scene old) → NamesExactly new old now
  pub anew : new.place ≡ 0 → Leads (KeepsOthers (docket_of loaded.shown.items).id new.id) old now
  pub behind : 0 < new.place → Leads (KeepsUsedBytes new.id new.place) old now
  pub latest : Stands loaded.shown.items (last_scene old) → IsLatest (last_scene old) → IsLatest (last_scene now)
  pub intact : (id : List ℕ) → ((c : Files) → (last_scene old).leaves c → id_in c ≡ id → HasData c) → LeavesData id old now
  pub solid : IsFree new (last_scene old) → IsSolid (last_scene old) → IsSolid (last_scene now)
  pub orderly : IsBase loaded new (last_scene old) → IsReadable (published loaded.nodes.items new) → KeepsRecords us now old.history.last
  pub keeping : Stands loaded.shown.items (last_scene old) → (0 < new.place → HasNodes loaded (last_scene old)) → KeepsUsed us now.history old.history.last

-- a table was put over the record that was loaded, wholly or in part: at each moment reads show that record or the table, and a crash leaves what it might
-- have left or the table; what is written is written at its place and past the old end, and no file shows other bytes on its way; what a crash may leave of the docket that stood or of the new one has
-- the data file that it names, and in the end it is solid and names no later identifier, so that the next table may be published by either way; and each step
-- keeps to what is asked of others
pub record IsPutOver (held : Held) (loaded : Loaded) (old new : Course) : Type 0 where
  pub encoded : Encoded
  pub found : Table
  pub is : IsEncoded held encoded found
  pub crash : IsGround (plan_of held) loaded (last_scene old) → LeavesOnly old new (Some (Ok found))
  pub shown : Stands loaded.shown.items (last_scene old) → (plan_of held ≡ a_way.Rewrite → IsLatest (last_scene old)) → (plan_of held ≡ a_way.Append → HasUsed loaded (last_scene old))
      → ShowsOnly old new (Some (Ok found))
  pub torn : Leads (WritesOnly encoded (last_scene old).files) old new
  pub once : (k : ℕ) → old.history.last ≤ k → k ≤ new.history.last → TurnsOnce encoded (last_scene old).files (scene new k).files (last_scene new).files
  pub latest : Stands loaded.shown.items (last_scene old) → IsLatest (last_scene old) → IsLatest (last_scene new)
  pub intact : Stands loaded.shown.items (last_scene old) → IsLatest (last_scene old) → IsSolid (last_scene old) → LeavesData held.docket.id old new
  pub intact_new : Stands loaded.shown.items (last_scene old) → IsLatest (last_scene old) → IsSolid (last_scene old) → LeavesData encoded.id old new
  pub solid : Stands loaded.shown.items (last_scene old) → IsLatest (last_scene old) → IsSolid (last_scene old) → IsSolid (last_scene new)
  pub orderly : IsGround (plan_of held) loaded (last_scene old) → KeepsRecords us new old.history.last
  pub keeping : Stands loaded.shown.items (last_scene old) → (plan_of held ≡ a_way.Append → HasUsed loaded (last_scene old)) → KeepsUsed us new.history old.history.last
  pub others : KeepsOthersBy (plan_of held) held old new

-- this is so, unless the table couldn't be encoded
abbrev pub UnlessEncode : {T : Type 0} → Result T PublishFault → Type 0 → Type 0
UnlessEncode (Err (a_fault.Encode e)) P = Unit {0}
UnlessEncode (Err a_fault.Failed) P = P
UnlessEncode (Ok x) P = P

-- a table is recorded, and whatever a crash leaves records it: by exactly its bytes; and where it was written anew, the data file that the docket named is
-- gone
pub record IsRecorded (held : Held) (old new : Course) : Type 0 where
  pub encoded : Encoded
  pub found : Table
  pub is : IsEncoded held encoded found
  pub records : Records new (Some (Ok found))
  pub exact : HoldsExactly encoded old new
  pub gone : plan_of held ≡ a_way.Rewrite → (held.docket.id ≡ [] → ⊥) → (last_scene new).files (data_name held.docket.id) ≡ None

-- files have the docket of an append: it names the data file of before, and each list that is lent lies there where it lay
pub record KeepsLists (held : Held) (files : Files) : Type 0 where
  pub same : id_in files ≡ held.docket.id
  pub lists : (dir : Option (List ℕ)) → is_lent held dir ≡ true
      → list_place (docket_of (shown_in files)) (rows_of (docket_of (shown_in files)) (content (nodes_in files))) dir ≡ list_place held.docket (rows_of held.docket held.bytes) dir

-- reads show such files, and so does whatever a crash leaves
pub record LeavesLists (held : Held) (new : Course) : Type 0 where
  pub shown : KeepsLists held (last_scene new).files
  pub left : (c : Files) → (last_scene new).leaves c → KeepsLists held c

-- ---- why a table isn't published

-- it can't be encoded by the better way, or the shelf failed
abbrev pub HasPublishCause : Held → ℕ → ℕ → PublishFault → Type 0
HasPublishCause held before after (a_fault.Encode e) = HasCauseBy held (plan_of held) e
HasPublishCause held before after a_fault.Failed = Rose before after
