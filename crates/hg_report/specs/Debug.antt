-- The text of a record: its parents, a line for each entry and each cached directory, and a line for each copy source.
use Rattle.std.specs.Prelude.{ℕ, ◌≡◌, ◌-◌, Bool, if◌then◌else◌, List, [], ◌∷◌, ◌++◌, ◌||◌, length, replicate, Option, Some, None, is_some, codes}
use Rattle.std.specs.Option.{option_map}
use Rattle.std.specs.Fmt.{decimal}
use Rattle.std.specs.List.{flat_map, list_any}
use Rattle.std.specs.List.Sorted.{IsStrictlySortedBy}
use Rattle.std.specs.Ordering.{nat_cmp}
use Rattle.std.specs.Cmp.Lexicographic.{slice_cmp}
use Rattle.std.specs.Str.{bytes_eq}
use Rattle.hex.specs.Hex.{encode_lower}
use Rattle.hg_entry.specs.Entry.{CacheData, EntryData, StampData, cache_view, state_of, view}
use Rattle.hg_entry.specs.Table.{Table}
use Rattle.hg_entry.specs.declared.entry.State.{State}
use Rattle.hg_entry.specs.declared.entry.State.TheVariants as a_state
use Rattle.hg_mixed.specs.Gathered.{path_of}
use Rattle.hg_mixed.specs.declared.line.Line.{Line}

-- the letter of what an entry says of its file: a r m n
abbrev pub state_sign : State → ℕ
state_sign a_state.Added = 97
state_sign a_state.Removed = 114
state_sign a_state.Merged = 109
state_sign a_state.Normal = 110

-- what the file was when its size was recorded: `l` a link, `x` executable, else `f`; `-` where no size is known
abbrev pub mode_sign : EntryData → ℕ
mode_sign e = if is_some e.size then (if e.link then 108 else (if e.exec then 120 else 102)) else 45

abbrev pub size_text : Option ℕ → List ℕ
size_text None = codes "-"
size_text (Some size) = decimal size

-- a number below 10^9 in nine digits, with zeros before it
abbrev pub nine_digits : ℕ → List ℕ
nine_digits n = replicate (9 - length (decimal n)) 48 ++ decimal n

-- `~` stands behind a time that may be that of several contents
abbrev pub doubt_text : Bool → List ℕ
doubt_text ambiguous = if ambiguous then codes "~" else []

-- a time: its seconds, a point and its nanoseconds
abbrev pub stamp_text : StampData → List ℕ
stamp_text s = decimal s.seconds ++ 46 ∷ (nine_digits s.nanos ++ doubt_text s.ambiguous)

abbrev pub time_text : Option StampData → List ℕ
time_text None = codes "-"
time_text (Some s) = stamp_text s

-- the line of an entry: the letter, mode, size and time, and the path
abbrev pub entry_line : List ℕ → EntryData → List ℕ
entry_line path e = state_sign (state_of e) ∷ 32 ∷ mode_sign e ∷ 32 ∷ size_text e.size ++ 32 ∷ time_text e.stamp ++ 32 ∷ path ++ 10 ∷ []

-- the line of a cached directory
abbrev pub cache_line : List ℕ → StampData → List ℕ
cache_line path s = codes "d - - " ++ stamp_text s ++ 32 ∷ path ++ 10 ∷ []

-- the line of what is recorded of a path, where there is anything
abbrev pub record_line : List ℕ → Option EntryData → Option CacheData → List ℕ
record_line path (Some e) cache = entry_line path e
record_line path None (Some cache) = cache_line path cache.stamp
record_line path None None = []

-- the line of a copy source, where there is one
abbrev pub copy_line : List ℕ → Option (List ℕ) → List ℕ
copy_line path None = []
copy_line path (Some source) = codes "copy: " ++ source ++ codes " -> " ++ path ++ 10 ∷ []

-- the lines of a row: what is recorded of its path, and where it was copied from
abbrev pub row_line : Line → List ℕ
row_line row = record_line (path_of row) (option_map view row.entry) (option_map cache_view row.cache)

abbrev pub row_copy : Line → List ℕ
row_copy row = copy_line (path_of row) (option_map (λ s. s.text.now) row.source)

-- the lines of the parents
abbrev pub parent_lines : List ℕ → List ℕ → List ℕ
parent_lines p1 p2 = codes "p1 " ++ encode_lower p1 ++ codes "\np2 " ++ encode_lower p2 ++ 10 ∷ []

-- a path has a copy source
abbrev pub is_copied : Table → List ℕ → Bool
is_copied table path = is_some (table.sources path)

-- a path has an entry, or is a cached directory
abbrev pub is_recorded : Table → List ℕ → Bool
is_recorded table path = is_some (table.entries path) || is_some (table.caches path)

-- some paths are all that pass a test, ascending by their bytes
pub record AreAll (test : List ℕ → Bool) (paths : List (List ℕ)) : Type 0 where
  pub ascending : IsStrictlySortedBy (slice_cmp nat_cmp) paths
  pub all : (path : List ℕ) → list_any (bytes_eq path) paths ≡ test path

-- the lines of these paths
abbrev pub record_lines : Table → List (List ℕ) → List ℕ
record_lines table paths = flat_map (λ path. record_line path (table.entries path) (table.caches path)) paths

abbrev pub copy_lines : Table → List (List ℕ) → List ℕ
copy_lines table paths = flat_map (λ path. copy_line path (table.sources path)) paths

-- the text of a table
pub record IsDebugText (table : Table) (text : List ℕ) : Type 0 where
  pub recorded : List (List ℕ)
  pub are_recorded : AreAll (is_recorded table) recorded
  pub copied : List (List ℕ)
  pub are_copied : AreAll (is_copied table) copied
  pub whole : text ≡ parent_lines table.p1 table.p2 ++ record_lines table recorded ++ copy_lines table copied

-- two texts of one table are equal, so that one may speak of its text
abbrev pub OneDebugText : Type 0
OneDebugText = (table : Table) (a b : List ℕ) → IsDebugText table a → IsDebugText table b → a ≡ b
