-- What a publication leaves of the dirstate, at each moment and after a crash.
use Rattle.std.specs.Prelude.{ℕ, zero, suc, ◌≡◌, ◌<◌, ◌≤◌, ◌+◌, ◌⊎◌, List, [], ◌++◌, length, take, Option, Some, None, Result, codes}
use Rattle.std.specs.Option.{option_and_then}
use Rattle.hg_append.specs.declared.encoding.Encoded.{Encoded}
use Rattle.hg_docket.specs.Docket.{docket_of, docket_refusal}
use Rattle.hg_docket.specs.Number.{next_name}
use Rattle.hg_entry.specs.Table.{Table}
use Rattle.hg_image.specs.Reading.{RecordFault, reading_of}
use Rattle.hg_shelf.specs.History.{Files}
use Rattle.hg_shelf.specs.Images.{Course, Scene, last_scene, scene}
use Rattle.hg_shelf.specs.Rules.{TornFile, content, overwritten}
use Rattle.hg_save.specs.Record.{data_name, shown_in, id_in, reading}

-- the docket is written under this name first
abbrev pub new_docket : List ℕ
new_docket = codes "dirstate-new"

-- a table was written anew: as a data file of its own, under the identifier that comes after the one that the loaded docket names, and from its start
pub record IsAnew (loaded : List ℕ) (new : Encoded) : Type 0 where
  pub next : next_name (docket_of loaded).id ≡ Some new.id
  pub place : new.place ≡ 0

-- a table was put behind what was loaded: under the identifier that the loaded docket names, from the end of its used bytes on, all of which were loaded
pub record IsBehind (loaded nodes : List ℕ) (new : Encoded) : Type 0 where
  pub same : (docket_of loaded).id ≡ new.id
  pub place : new.place ≡ (docket_of loaded).used
  pub some : 0 < (docket_of loaded).used
  pub long : length nodes ≡ (docket_of loaded).used

-- a table was encoded over the record of a docket and of nodes that were loaded, by one of the two ways; and the new docket, read again, names its data file
-- and as many used bytes as that has with the new ones
pub record IsOver (loaded nodes : List ℕ) (new : Encoded) : Type 0 where
  pub by : IsAnew loaded new ⊎ IsBehind loaded nodes new
  pub few : length new.docket.items ≤ 512
  pub whole : docket_refusal new.docket.items ≡ None
  pub named : (docket_of new.docket.items).id ≡ new.id
  pub used : (docket_of new.docket.items).used ≡ new.place + length new.bytes.items

-- what is recorded once it is published: the reading of the new docket, over the loaded nodes before the place and what is put there
abbrev pub published : List ℕ → Encoded → Option (Result Table RecordFault)
published nodes new = Some (reading_of new.docket.items (take new.place nodes ++ new.bytes.items))

-- no docket that a crash may leave names this identifier
pub record IsUnnamed (id : List ℕ) (s : Scene) : Type 0 where
  pub free : (c : Files) → s.leaves c → id_in c ≡ id → ⊥

-- the identifier that comes after another, one step on and so many more
abbrev pub name_after : ℕ → List ℕ → Option (List ℕ)
name_after zero id = next_name id
name_after (suc n) id = option_and_then (name_after n) (next_name id)

-- the bytes of its data file that the docket uses
abbrev pub used_in : Files → ℕ
used_in files = (docket_of (shown_in files)).used

-- no docket that a crash may leave names an identifier that comes after that of the docket that stands, nor that one with more used bytes
pub record IsLatest (s : Scene) : Type 0 where
  pub latest : (c : Files) → s.leaves c → (n : ℕ) → name_after n (id_in s.files) ≡ Some (id_in c) → ⊥
  pub used : (c : Files) → s.leaves c → id_in c ≡ id_in s.files → used_in c ≤ used_in s.files

-- the docket that stands is this one
abbrev pub Stands : List ℕ → Scene → Type 0
Stands docket s = shown_in s.files ≡ docket

-- files record what a crash might have left at the start, or this
abbrev pub ReadsAsBeforeOr : Scene → Option (Result Table RecordFault) → Files → Type 0
ReadsAsBeforeOr start table c = ((d : Files) × start.leaves d × (reading c ≡ reading d)) ⊎ (reading c ≡ table)

-- at each moment of a call, whatever a crash leaves records what it might have left at the start, or this
pub record LeavesOnly (old new : Course) (table : Option (Result Table RecordFault)) : Type 0 where
  pub each : (k : ℕ) (c : Files) → old.history.last ≤ k → k ≤ new.history.last → (scene new k).leaves c → ReadsAsBeforeOr (last_scene old) table c

-- reads show a record of this, and so does whatever a crash leaves
pub record Records (c : Course) (table : Option (Result Table RecordFault)) : Type 0 where
  pub shown : reading (last_scene c).files ≡ table
  pub left : (f : Files) → (last_scene c).leaves f → reading f ≡ table

-- at each moment of a call, reads show a record of what they showed at the start, or of this
pub record ShowsOnly (old new : Course) (table : Option (Result Table RecordFault)) : Type 0 where
  pub each : (k : ℕ) → old.history.last ≤ k → k ≤ new.history.last → (reading (scene new k).files ≡ reading (last_scene old).files) ⊎ (reading (scene new k).files ≡ table)

-- files hold exactly what was published over those of the start: the data file is as it was, overwritten at its place by the new bytes and by
-- nothing else; so is the docket, which was written beside the old one first, where nothing stands any more; and it names the new data file
pub record IsExact (new : Encoded) (start files : Files) : Type 0 where
  pub file : files (data_name new.id) ≡ Some (overwritten (content (start (data_name new.id))) new.place new.bytes.items)
  pub docket : files (codes "dirstate") ≡ Some (overwritten (content (start new_docket)) 0 new.docket.items)
  pub beside : files new_docket ≡ None
  pub named : id_in files ≡ new.id

-- reads show exactly what was published over what they showed at the start, and so does whatever a crash leaves
pub record HoldsExactly (encoded : Encoded) (old new : Course) : Type 0 where
  pub shown : IsExact encoded (last_scene old).files (last_scene new).files
  pub left : (c : Files) → (last_scene new).leaves c → IsExact encoded (last_scene old).files c

-- the new docket hasn't its place yet: the docket is as it was, and so is the one beside or it was changed at most where the new one is written and
-- past its old end
pub record IsUnplaced (bytes : List ℕ) (old now : Files) : Type 0 where
  pub docket : now (codes "dirstate") ≡ old (codes "dirstate")
  pub beside : TornFile 0 (length bytes) (old new_docket) (now new_docket)

-- whatever comes of a publication: the new data file is as it was, or was changed at most where it is written and past its old end; and the new
-- docket hasn't its place yet, or the files hold exactly what is published over those that reads showed at the start
pub record WritesOnly (new : Encoded) (start old now : Files) : Type 0 where
  pub file : TornFile new.place (length new.bytes.items) (old (data_name new.id)) (now (data_name new.id))
  pub stage : IsUnplaced new.docket.items old now ⊎ IsExact new start now

-- the new docket was written whole beside the old one, where nothing stands any more at the end
pub record IsPassing (new : Encoded) (start now end : Files) : Type 0 where
  pub written : now new_docket ≡ Some (overwritten (content (start new_docket)) 0 new.docket.items)
  pub placed : end new_docket ≡ None

-- of files at the start, at a moment, and at the end of a publication: each is as it was, or as it is at the end; so is the one beside the docket, or it
-- is on its way
pub record TurnsOnce (new : Encoded) (start now end : Files) : Type 0 where
  pub each : (at : List ℕ) → (at ≡ new_docket → ⊥) → (now at ≡ start at) ⊎ (now at ≡ end at)
  pub beside : (now new_docket ≡ start new_docket) ⊎ ((now new_docket ≡ end new_docket) ⊎ IsPassing new start now end)

-- at each moment of a call, wherever the docket names the new identifier, reads show exactly what is published over what they showed at the start,
-- and so does whatever a crash leaves
pub record NamesExactly (encoded : Encoded) (old new : Course) : Type 0 where
  pub shown : (k : ℕ) → old.history.last ≤ k → k ≤ new.history.last → id_in (scene new k).files ≡ encoded.id → IsExact encoded (last_scene old).files (scene new k).files
  pub left : (k : ℕ) (c : Files) → old.history.last ≤ k → k ≤ new.history.last → (scene new k).leaves c → id_in c ≡ encoded.id → IsExact encoded (last_scene old).files c

-- no file is changed but the docket, the one that is written first, and the data files with these identifiers; that of the loaded docket is as it
-- was or, where that docket names one and the docket names the new one by now, gone
pub record KeepsOthers (loaded id : List ℕ) (old new : Files) : Type 0 where
  pub others : (at : List ℕ) → (at ≡ codes "dirstate" → ⊥) → (at ≡ new_docket → ⊥) → (at ≡ data_name loaded → ⊥) → (at ≡ data_name id → ⊥) → new at ≡ old at
  pub named : (new (data_name loaded) ≡ old (data_name loaded)) ⊎ ((loaded ≡ [] → ⊥) × (new (data_name loaded) ≡ None) × (id_in new ≡ id))
