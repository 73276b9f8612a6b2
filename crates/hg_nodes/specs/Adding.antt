-- A node is added with its time.
use Rattle.std.specs.Prelude.{ℕ, ◌≡◌, false, List, Option, Some}
use Rattle.std.specs.Option.{option_map}
use Rattle.std.specs.Str.{bytes_eq}
use Rattle.hg_entry.specs.Entry.{CacheData, view}
use Rattle.hg_nodes.specs.Drop.{bare}
use Rattle.hg_nodes.specs.Edits.{IsFormed}
use Rattle.hg_nodes.specs.Memory.{MemoryData}
use Rattle.hg_nodes.specs.Node.{IsPut, NodeData, node_at}
use Rattle.hg_nodes.specs.Times.{IsTimed, time_at}
use Rattle.hg_nodes.specs.declared.adding.Recorded.{Recorded}

-- the node of what is recorded, of which all texts are lent
abbrev pub recorded_node : Recorded → NodeData
recorded_node own = record {
  entry = option_map view own.entry;
  source = option_map (λ s. s.text.now) own.source;
  text_at = Some own.text_at;
  source_at = option_map (λ s. own.source_at) own.source;
}

-- a path has in memory what it had
pub record IsAsBefore (at : List ℕ) (old : List (List ℕ × NodeData)) (before : List (List ℕ × CacheData)) (new : List (List ℕ × NodeData)) (after : List (List ℕ × CacheData)) : Type 0 where
  pub node : node_at new at ≡ node_at old at
  pub time : time_at after at ≡ time_at before at

-- all paths but one have what they had
pub record IsElsewhere (path : List ℕ) (old : List (List ℕ × NodeData)) (before : List (List ℕ × CacheData)) (new : List (List ℕ × NodeData)) (after : List (List ℕ × CacheData)) : Type 0 where
  pub others : (at : List ℕ) → bytes_eq path at ≡ false → IsAsBefore at old before new after
  pub formed : IsFormed (bare new after)

-- a node was added, with its time
pub record Adds (path : List ℕ) (node : NodeData) (time : Option CacheData) (old : List (List ℕ × NodeData)) (before : List (List ℕ × CacheData)) (new : List (List ℕ × NodeData)) (after : List (List ℕ × CacheData)) : Type 0 where
  pub put : IsPut path (Some node) old new
  pub timed : IsTimed path time before after
  pub formed : IsFormed (bare new after)

-- the parents, the hash and the mark of an edit are as they were
pub record AreOthersKept (old new : MemoryData) : Type 0 where
  pub p1 : new.p1 ≡ old.p1
  pub p2 : new.p2 ≡ old.p2
  pub hash : new.hash ≡ old.hash
  pub changed : new.changed ≡ old.changed
