-- The names in a directory, as a list of what stands there.
use Rattle.std.specs.Prelude.{ℕ, ◌≡◌, not, ◌&&◌, List, Option, is_some}
use Rattle.std.specs.Str.{bytes_eq}
use Rattle.std.specs.List.{IsDistinct}
use Rattle.hg_base.specs.PathText.{joined, has_slash}
use Rattle.hg_tree.specs.Moment.{Things, is_among}

-- the names of what stands right in the directory, each once
pub record AreChildren (things : Things) (dir : Option (List ℕ)) (names : List (List ℕ)) : Type 0 where
  pub among : (name : List ℕ) → is_among name names ≡ (not (has_slash name) && is_some (things (joined dir name)))
  pub distinct : IsDistinct bytes_eq names
