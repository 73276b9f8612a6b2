-- What goes with an entry that is dropped: its node and those directories above that are left with neither entry nor children.
use Rattle.std.specs.Prelude.{ℕ, ◌≡◌, Bool, true, not, ◌&&◌, ◌||◌, if◌then◌else◌, List, [], Some, None}
use Rattle.std.specs.Map.{update}
use Rattle.std.specs.Str.{bytes_eq}
use Rattle.hg_base.specs.PathText.{parent_of}
use Rattle.hg_base.specs.Within.{is_within}
use Rattle.hg_entry.specs.Entry.{CacheData}
use Rattle.hg_entry.specs.Table.{Table}
use Rattle.hg_nodes.specs.Memory.{table_of}
use Rattle.hg_nodes.specs.Node.{NodeData}

-- a path has neither entry nor copy source
abbrev pub after_clear : List ℕ → Table → Table
after_clear path t = record t { entries = update bytes_eq t.entries path None; sources = update bytes_eq t.sources path None }

-- a node on the way to a path goes: each node at or below it is on the way to the path too and has no entry
pub record IsPrunedAt (path : List ℕ) (t : Table) (at : List ℕ) : Type 0 where
  pub on_way : is_within at path ≡ true
  pub alone : (other : List ℕ) → is_within at other ≡ true → t.nodes other ≡ true → (is_within other path ≡ true) × (t.entries other ≡ None)

-- what is left of a table once all nodes go that go with a path: each takes its parent's cache with it. The two tests are witnesses of
-- what is gone and of whose cache is stale; the conditions leave no choice of them
pub record IsPruned (path : List ℕ) (was left : Table) : Type 0 where
  pub gone : List ℕ → Bool
  pub stale : List ℕ → Bool
  pub goes : (at : List ℕ) → gone at ≡ true → IsPrunedAt path was at
  pub all_go : (at : List ℕ) → IsPrunedAt path was at → gone at ≡ true
  pub is_stale : (dir : List ℕ) → stale dir ≡ true → (at : List ℕ) × (gone at ≡ true) × (parent_of at ≡ Some dir)
  pub all_stale : (dir at : List ℕ) → gone at ≡ true → parent_of at ≡ Some dir → stale dir ≡ true
  pub p1 : left.p1 ≡ was.p1
  pub p2 : left.p2 ≡ was.p2
  pub hash : left.hash ≡ was.hash
  pub entries : (at : List ℕ) → left.entries at ≡ was.entries at
  pub sources : (at : List ℕ) → left.sources at ≡ was.sources at
  pub nodes : (at : List ℕ) → left.nodes at ≡ (was.nodes at && not (gone at))
  pub caches : (at : List ℕ) → left.caches at ≡ (if gone at || stale at then None else was.caches at)

-- the table of nodes and times alone
abbrev pub bare : List (List ℕ × NodeData) → List (List ℕ × CacheData) → Table
bare rows times = table_of [] [] [] rows times
