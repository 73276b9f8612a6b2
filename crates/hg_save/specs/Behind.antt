-- What is kept of the data that dockets name, by a publication and by its single steps.
use Rattle.std.specs.Prelude.{ℕ, ◌≡◌, ◌≤◌, ◌<◌, ◌+◌, List, take, Option, codes}
use Rattle.hg_append.specs.declared.encoding.Encoded.{Encoded}
use Rattle.hg_docket.specs.Docket.{docket_of}
use Rattle.hg_shelf.specs.History.{Files, History, Who}
use Rattle.hg_shelf.specs.Images.{Course, Scene, scene}
use Rattle.hg_shelf.specs.Rules.{content}
use Rattle.hg_save.specs.Loads.{files_at}
use Rattle.hg_save.specs.Others.{HasData, HasFront, IsFrontOf, IsNotAhead, StaysFront, UsesData, named_file}
use Rattle.hg_save.specs.Record.{data_name, id_in}
use Rattle.hg_save.specs.Saved.{IsLatest, Stands, new_docket, used_in}
use Rattle.hg_save.specs.declared.loaded.Loaded.{Loaded}

-- ---- what is published upon

-- the data file that reads show begins with the loaded nodes
abbrev pub HasNodes : Loaded → Scene → Type 0
HasNodes loaded s = IsFrontOf (named_file loaded.shown.items s.files) (docket_of loaded.shown.items).used loaded.nodes.items

-- of what a crash may leave, each docket that names the standing identifier uses no more bytes of the data file than the docket that stands, and has
-- that file with as many bytes as it uses
pub record IsSolid (s : Scene) : Type 0 where
  pub used : (c : Files) → s.leaves c → id_in c ≡ id_in s.files → used_in c ≤ used_in s.files
  pub front : (c : Files) → s.leaves c → id_in c ≡ id_in s.files → HasData c

-- where files have a docket that names the identifier of what is published, it uses at most the bytes before the place, and its data file has them
abbrev pub IsFreeIn : Encoded → Files → Type 0
IsFreeIn new files = id_in files ≡ new.id → (used_in files ≤ new.place) × HasData files

-- so it is in whatever a crash may leave: what is written is free
pub record IsFree (new : Encoded) (s : Scene) : Type 0 where
  pub each : (c : Files) → s.leaves c → IsFreeIn new c

-- what a table is published upon: the loaded docket stands, no docket that a crash may leave is ahead of it, what is written is free, and where it is written
-- behind loaded nodes, the data file begins with these
pub record IsBase (loaded : Loaded) (new : Encoded) (s : Scene) : Type 0 where
  pub stands : Stands loaded.shown.items s
  pub latest : IsLatest s
  pub free : IsFree new s
  pub nodes : 0 < new.place → HasNodes loaded s

-- ---- what it leaves

-- at each moment of a call, whatever a crash leaves that names this identifier has its data file with as many bytes as it uses
pub record LeavesData (id : List ℕ) (old new : Course) : Type 0 where
  pub each : (k : ℕ) (c : Files) → old.history.last ≤ k → k ≤ new.history.last → (scene new k).leaves c → id_in c ≡ id → HasData c

-- a file has its first bytes still, as far as it had them, up to so many
pub record KeepsBytes (most : ℕ) (old new : Option (List ℕ)) : Type 0 where
  pub there : (m : ℕ) → m ≤ most → HasFront m old → HasFront m new
  pub same : (m : ℕ) → m ≤ most → HasFront m old → take m (content new) ≡ take m (content old)

-- no file is changed but the docket, the one that is written first, and the data file with this identifier, of which the used bytes stay
pub record KeepsUsedBytes (id : List ℕ) (used : ℕ) (old new : Files) : Type 0 where
  pub others : (at : List ℕ) → (at ≡ codes "dirstate" → ⊥) → (at ≡ new_docket → ⊥) → (at ≡ data_name id → ⊥) → new at ≡ old at
  pub front : KeepsBytes used (old (data_name id)) (new (data_name id))

-- ---- what is kept of the data that dockets name

-- a docket isn't beyond the one that stands: its identifier doesn't come after that one's and, where it is the same, it uses no more bytes
pub record IsNotBeyond (files : Files) (docket : List ℕ) : Type 0 where
  pub ahead : IsNotAhead (id_in files) (docket_of docket).id
  pub used : (docket_of docket).id ≡ id_in files → (docket_of docket).used ≤ used_in files

-- a step keeps the bytes that dockets use: of each that isn't beyond the standing one they stay as long as the file is there, the standing one's file is
-- there as before, and what wasn't beyond the standing one isn't beyond the one that stands then
pub record IsKeepingUsed (before behind : Files) : Type 0 where
  pub kept : (docket : List ℕ) → UsesData docket → IsNotBeyond before docket → StaysFront (docket_of docket).used (named_file docket before) (named_file docket behind)
  pub there : HasData before → HasData behind
  pub beyond : (docket : List ℕ) → IsNotBeyond before docket → IsNotBeyond behind docket

-- from a moment on each step of one keeps the bytes that dockets use
pub record KeepsUsed (by : Who) (h : History) (from : ℕ) : Type 0 where
  pub each : (k : ℕ) → from ≤ k → k < h.last → h.who k ≡ by → IsKeepingUsed (files_at h k) (files_at h (k + 1))
