-- What is in memory of a table.
use Rattle.std.specs.Prelude.{ℕ, ◌≡◌, ◌⊎◌, Bool, true, List, Option, Some, is_some}
use Rattle.std.specs.Option.{option_and_then}
use Rattle.std.specs.Map.{update}
use Rattle.std.specs.Str.{bytes_eq}
use Rattle.hg_entry.specs.Entry.{CacheData}
use Rattle.hg_entry.specs.Table.{Table}
use Rattle.hg_nodes.specs.Edits.{IsSame}
use Rattle.hg_nodes.specs.Node.{AreSame, IsPut, NodeData, cleared, node_at, source_in, with_source}
use Rattle.hg_nodes.specs.Times.{time_at}

-- the parents and the hash, whether an edit has changed anything, and the nodes and the times of cached directories, by path
pub record MemoryData : Type 0 where
  pub p1 : List ℕ
  pub p2 : List ℕ
  pub hash : List ℕ
  pub changed : Bool
  pub rows : List (List ℕ × NodeData)
  pub times : List (List ℕ × CacheData)

-- the table of these parts
abbrev pub table_of : List ℕ → List ℕ → List ℕ → List (List ℕ × NodeData) → List (List ℕ × CacheData) → Table
table_of p1 p2 hash rows times =
    record {
      p1 = p1;
      p2 = p2;
      hash = hash;
      entries = λ path. option_and_then (λ node. node.entry) (node_at rows path);
      sources = λ path. option_and_then (λ node. node.source) (node_at rows path);
      nodes = λ path. is_some (node_at rows path);
      caches = time_at times;
    }

-- the table that is in memory
abbrev pub table_in : MemoryData → Table
table_in m = table_of m.p1 m.p2 m.hash m.rows m.times

-- all is as before
pub record IsStill (old new : MemoryData) : Type 0 where
  pub table : IsSame (table_in new) (table_in old)
  pub changed : new.changed ≡ old.changed
  pub nodes : AreSame old.rows new.rows

-- one path's node has this copy source and nothing was written, or it had another and this one was
abbrev pub IsSourceWritten : List ℕ → Option (List ℕ) → List (List ℕ × NodeData) → List (List ℕ × NodeData) → Type 0
IsSourceWritten path source old new =
    ((source_in (node_at old path) ≡ source) × AreSame old new)
    ⊎ ((source_in (node_at old path) ≡ source → ⊥) × IsPut path (Some (with_source source (node_at old path))) old new)

-- one path's node was cleared, and those nodes that are there still are as they were else
abbrev pub AreCleared : List ℕ → List (List ℕ × NodeData) → List (List ℕ × NodeData) → Type 0
AreCleared path old new =
    (at : List ℕ) → is_some (node_at new at) ≡ true → node_at new at ≡ update bytes_eq (node_at old) path (Some (cleared (node_at old path))) at
