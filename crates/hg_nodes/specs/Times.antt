-- The times of cached directories.
use Rattle.std.specs.Prelude.{ℕ, ◌≡◌, Bool, true, List, [], map, Option, Some, None, String, is_some, MatchBool}
use Rattle.std.specs.List.{AllByRecursion}
use Rattle.std.specs.Map.{lookup, update}
use Rattle.std.specs.Str.{bytes_eq}
use Rattle.std.specs.String.{string_bytes}
use Rattle.hg_base.specs.PathText.{is_path}
use Rattle.hg_base.specs.declared.time.Stamp.{Stamp}
use Rattle.hg_entry.specs.Entry.{CacheData, cache_view}

-- the time of a directory, where it is cached
abbrev pub time_at : List (List ℕ × CacheData) → List ℕ → Option CacheData
time_at times dir = lookup (bytes_eq dir) times

-- one directory has another time, or none, and all others have what they had
abbrev pub IsTimed : List ℕ → Option CacheData → List (List ℕ × CacheData) → List (List ℕ × CacheData) → Type 0
IsTimed dir time old new = (at : List ℕ) → time_at new at ≡ update bytes_eq (time_at old) dir time at

-- no directory is cached, or one is
abbrev pub AreNone : Bool → List (List ℕ × CacheData) → Type 0
AreNone none times = MatchBool none ((at : List ℕ) → time_at times at ≡ None) ((at : List ℕ) × (is_some (time_at times at) ≡ true))

-- each cached directory is a path
abbrev pub AreTimedPaths : List (List ℕ × CacheData) → Type 0
AreTimedPaths times = AllByRecursion (λ time. is_path time.0 ≡ true) times

-- each time at its directory
abbrev pub times_of : {Y : Type 0} → List (String Y × Stamp) → List (List ℕ × CacheData)
times_of times = map (λ e. (string_bytes e.0, cache_view e.1)) times

-- those that are left, where there are any
abbrev pub times_left : {Y : Type 0} → Option (List (String Y × Stamp)) → List (List ℕ × CacheData)
times_left None = []
times_left (Some times) = times_of times
