-- What a dirstate says as a whole: the table of all that is recorded, and the flat map of what the states of files depend on.
use Rattle.std.specs.Prelude.{ℕ, Bool, List, Option}
use Rattle.std.specs.Option.{option_map}
use Rattle.hg_entry.specs.Entry.{CacheData, EntryData}

-- whether a file is tracked, in the first parent, and marked for the second
pub record Marks : Type 0 where
  pub w : Bool
  pub p1 : Bool
  pub p2 : Bool

-- all that is recorded: the parents, the hash of the ignore patterns, entries and copy sources by path, where a node stands, and
-- what is recorded of cached directories by path
pub record Table : Type 0 where
  pub p1 : List ℕ
  pub p2 : List ℕ
  pub hash : List ℕ
  pub entries : List ℕ → Option EntryData
  pub sources : List ℕ → Option (List ℕ)
  pub nodes : List ℕ → Bool
  pub caches : List ℕ → Option CacheData

-- the parents, the marks by path and the copy sources by path
pub record Flat : Type 0 where
  pub p1 : List ℕ
  pub p2 : List ℕ
  pub marks : List ℕ → Option Marks
  pub sources : List ℕ → Option (List ℕ)

abbrev pub marks_of : EntryData → Marks
marks_of e = record { w = e.w; p1 = e.p1; p2 = e.p2 }

-- what a table says when sizes, modes, times, the hash, nodes and caches are forgotten
abbrev pub flat_of : Table → Flat
flat_of t = record { p1 = t.p1; p2 = t.p2; marks = λ path. option_map marks_of (t.entries path); sources = t.sources }
