-- What an edit makes of a table.
use Rattle.std.specs.Prelude.{ℕ, ◌≡◌, Bool, true, false, ◌||◌, List, Option, Some, None, is_some}
use Rattle.std.specs.Map.{update}
use Rattle.std.specs.Str.{bytes_eq}
use Rattle.hg_base.specs.PathText.{is_below, is_path}
use Rattle.hg_base.specs.Within.{is_within}
use Rattle.hg_entry.specs.Entry.{CacheData, EntryData}
use Rattle.hg_entry.specs.Table.{Table}

-- two tables say the same
pub record IsSame (a b : Table) : Type 0 where
  pub p1 : a.p1 ≡ b.p1
  pub p2 : a.p2 ≡ b.p2
  pub hash : a.hash ≡ b.hash
  pub entries : (at : List ℕ) → a.entries at ≡ b.entries at
  pub sources : (at : List ℕ) → a.sources at ≡ b.sources at
  pub nodes : (at : List ℕ) → a.nodes at ≡ b.nodes at
  pub caches : (at : List ℕ) → a.caches at ≡ b.caches at

-- each node is at a path, and so are the directories above it; an entry and a cache stand at a node, a source at an entry, and no
-- cache where an entry is
pub record IsFormed (t : Table) : Type 0 where
  pub paths : (at : List ℕ) → t.nodes at ≡ true → is_path at ≡ true
  pub rooted : (dir at : List ℕ) → is_below dir at ≡ true → t.nodes at ≡ true → t.nodes dir ≡ true
  pub entries : (at : List ℕ) → t.nodes at ≡ false → t.entries at ≡ None
  pub sources : (at : List ℕ) → t.entries at ≡ None → t.sources at ≡ None
  pub caches : (at : List ℕ) → is_some (t.caches at) ≡ true → (t.nodes at ≡ true) × (t.entries at ≡ None)

-- a path has an entry; it and each directory above it are nodes, and it is no cached directory
abbrev pub after_set : List ℕ → EntryData → Table → Table
after_set path entry t =
    record t {
      entries = update bytes_eq t.entries path (Some entry);
      nodes = λ at. t.nodes at || is_within at path;
      caches = update bytes_eq t.caches path None;
    }

-- a path has a copy source, or none
abbrev pub after_copy : List ℕ → Option (List ℕ) → Table → Table
after_copy path source t = record t { sources = update bytes_eq t.sources path source }

-- a directory has a cache, or none
abbrev pub after_cache : List ℕ → Option CacheData → Table → Table
after_cache dir time t = record t { caches = update bytes_eq t.caches dir time }

-- no directory has a cache
abbrev pub after_no_caches : Table → Table
after_no_caches t = record t { caches = λ at. None }

abbrev pub after_ids : List ℕ → List ℕ → Table → Table
after_ids p1 p2 t = record t { p1 = p1; p2 = p2 }

abbrev pub after_hash : List ℕ → Table → Table
after_hash hash t = record t { hash = hash }

-- a mark is set where something differs, and else as it was
pub record Marks (same : Type 0) (was now : Bool) : Type 0 where
  pub kept : same → now ≡ was
  pub marked : (same → ⊥) → now ≡ true
