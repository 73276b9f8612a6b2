-- Files and changes as lists of rows, and the map that rows give one after the other.
use Rattle.std.specs.Prelude.{ℕ, ◌≡◌, Bool, true, false, if◌then◌else◌, List, [], ◌∷◌, ◌++◌, Option, None, is_some, ⊤}
use Rattle.std.specs.List.{list_all, list_any}
use Rattle.std.specs.Str.{bytes_eq}
use Rattle.hg_entry.specs.Entry.{EntryData}

-- a path and its entry from this row on, or none
pub record Row : Type 0 where
  pub path : List ℕ
  pub entry : Option EntryData

-- what is recorded, by path
abbrev pub Entries : Type 0
Entries = List ℕ → Option EntryData

-- nothing is recorded
abbrev pub empty_map : Entries
empty_map path = None

-- the path of a row has the entry of that row, and each other path what it had
abbrev pub with_row : Row → Entries → Entries
with_row row map path = if bytes_eq row.path path then row.entry else map path

-- what rows make of a map, one after the other
abbrev pub edited : List Row → Entries → Entries
edited [] map = map
edited (row ∷ rows) map = edited rows (with_row row map)

-- the map that rows give, one after the other
abbrev pub map_of : List Row → Entries
map_of rows = edited rows empty_map

-- a row has that path
abbrev pub names : List ℕ → List Row → Bool
names path rows = list_any (λ row. bytes_eq row.path path) rows

-- no two rows have one path
abbrev pub AreApart : List Row → Type 0
AreApart [] = ⊤
AreApart (row ∷ rows) = (names row.path rows ≡ false) × AreApart rows

-- rows that give a map, with one row for each path that has an entry there and no other, in whatever order
pub record HoldsEach (rows : List Row) (map : Entries) : Type 0 where
  pub same : map_of rows ≡ map
  pub once : AreApart rows
  pub full : list_all (λ row. is_some row.entry) rows ≡ true

-- these rows stand in front
abbrev pub BeginsWith : List Row → List Row → Type 0
BeginsWith rows first = (more : List Row) × (rows ≡ first ++ more)
