-- What a search among the lines of a text finds.
use Rattle.std.specs.Prelude.{ℕ, ◌≡◌, ◌<◌, List, map, length, slice_get, Option, Some, None}
use Rattle.std.specs.Map.{lookup}
use Rattle.std.specs.Str.{bytes_eq}
use Rattle.hg_manifest.specs.Kept.{row_in}
use Rattle.hg_manifest.specs.declared.place.Place.{Place}

-- the place of a path's line, or that no line is of the path
abbrev pub FindsAt : List ℕ → List Place → List ℕ → Option ℕ → Type 0
FindsAt text places path None = lookup (bytes_eq path) (map (row_in text) places) ≡ None
FindsAt text places path (Some at) = (place : Place) × (slice_get places at ≡ Some place) × (at < length places) × (lookup (bytes_eq path) (map (row_in text) places) ≡ Some (row_in text place).1)
