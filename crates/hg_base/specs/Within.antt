-- A path at a directory or below it, and a directory above a path where no directory is the root.
use Rattle.std.specs.Prelude.{ℕ, Bool, true, ◌||◌, List, Option, Some, None}
use Rattle.std.specs.Str.{bytes_eq}
use Rattle.hg_base.specs.PathText.{is_below}

-- a path is the directory or stands below it; of a path: what is within is on the way from the root to it
abbrev pub is_within : List ℕ → List ℕ → Bool
is_within at path = bytes_eq path at || is_below at path

-- a directory stands above a path, as the root stands above each
abbrev pub is_above : Option (List ℕ) → List ℕ → Bool
is_above None path = true
is_above (Some dir) path = is_below dir path
