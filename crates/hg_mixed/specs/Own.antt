-- What is in memory of a table.
use Rattle.std.specs.Prelude.{ℕ, ◌≡◌, ◌⊎◌, Bool, List}
use Rattle.hg_entry.specs.Entry.{CacheData}
use Rattle.hg_entry.specs.Table.{Table}
use Rattle.hg_nodes.specs.Memory.{table_of}
use Rattle.hg_image.specs.Rows.{Row}
use Rattle.hg_nodes.specs.Edits.{IsSame}
use Rattle.hg_mixed.specs.Lent.{AreEnded, AreLentStill}
use Rattle.hg_nodes.specs.Node.{AreSame, NodeData}

-- the parents and the hash, whether an edit has changed anything, the nodes and the times of cached directories, by path, and those lists of
-- the image that are in memory and unchanged, each by its directory
pub record InMemory : Type 0 where
  pub p1 : List ℕ
  pub p2 : List ℕ
  pub hash : List ℕ
  pub changed : Bool
  pub rows : List (List ℕ × NodeData)
  pub times : List (List ℕ × CacheData)
  pub kept : List (List ℕ × List Row)

-- the table that these are
abbrev pub memory_table : InMemory → Table
memory_table m = table_of m.p1 m.p2 m.hash m.rows m.times

-- all is as before
pub record IsKept (old new : InMemory) : Type 0 where
  pub table : IsSame (memory_table new) (memory_table old)
  pub changed : new.changed ≡ old.changed
  pub nodes : AreSame old.rows new.rows
  pub kept : AreLentStill old.kept new.kept

-- nothing differs at a path and the same lists are kept, or something does and none of a directory above it is
abbrev pub Ends : List ℕ → Type 0 → List (List ℕ × List Row) → List (List ℕ × List Row) → Type 0
Ends path same old new = (same × AreLentStill old new) ⊎ ((same → ⊥) × AreEnded path old new)
