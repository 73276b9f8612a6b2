-- What an edit has to keep of a record for its times to stay trusted.
use Rattle.std.specs.Prelude.{ℕ, ◌≡◌, false, IsTrue, List, Some, is_some}
use Rattle.std.specs.Str.{bytes_eq}
use Rattle.hg_base.specs.PathText.{is_component, joined}
use Rattle.hg_entry.specs.Entry.{CacheData, EntryData, StampData}
use Rattle.hg_entry.specs.Table.{Table}
use Rattle.hg_walk.specs.Trust.{CouldVouch}

-- no directory is cached anew, and of one that still is the hash is the same and each name that was a node is one
pub record KeepsCaches (old new : Table) : Type 0 where
  pub hash : (dir : List ℕ) → IsTrue (is_some (new.caches dir)) → new.hash ≡ old.hash
  pub caches : (dir : List ℕ) (cache : CacheData) → new.caches dir ≡ Some cache → old.caches dir ≡ Some cache
  pub nodes : (dir name : List ℕ)
      → IsTrue (is_some (new.caches dir)) → IsTrue (is_component name) → IsTrue (old.nodes (joined (Some dir) name)) → IsTrue (new.nodes (joined (Some dir) name))

-- and each entry that could vouch was there before, and could
pub record KeepsTimes (old new : Table) : Type 0 where
  pub entries : (path : List ℕ) (entry : EntryData) (stamp : StampData) → new.entries path ≡ Some entry → CouldVouch entry (is_some (new.sources path)) stamp
      → (old.entries path ≡ Some entry) × CouldVouch entry (is_some (old.sources path)) stamp
  pub caches : KeepsCaches old new

-- no entry could vouch
abbrev pub NoneCouldVouch : Table → Type 0
NoneCouldVouch table = (path : List ℕ) (entry : EntryData) (stamp : StampData) → table.entries path ≡ Some entry → CouldVouch entry (is_some (table.sources path)) stamp → ⊥

-- an edit of one path: an entry that then stands there couldn't vouch, no other path's entry or source is another, and no node goes
pub record IsEditAt (path : List ℕ) (old new : Table) : Type 0 where
  pub hash : new.hash ≡ old.hash
  pub own : (entry : EntryData) (stamp : StampData) → new.entries path ≡ Some entry → CouldVouch entry (is_some (new.sources path)) stamp → ⊥
  pub entries : (at : List ℕ) → bytes_eq path at ≡ false → new.entries at ≡ old.entries at
  pub sources : (at : List ℕ) → bytes_eq path at ≡ false → new.sources at ≡ old.sources at
  pub nodes : (at : List ℕ) → IsTrue (old.nodes at) → IsTrue (new.nodes at)
  pub caches : (dir : List ℕ) (cache : CacheData) → new.caches dir ≡ Some cache → old.caches dir ≡ Some cache
