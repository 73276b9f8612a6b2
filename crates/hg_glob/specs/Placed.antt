-- The parts of many globs in one row, and the place of each glob's; for the private functions alone.
use Rattle.std.specs.Prelude.{◌≤◌, ◌+◌, ◌-◌, List, length, take, drop}
use Rattle.std.specs.List.{All}
use Rattle.hg_glob.specs.declared.part.Part.{Part}
use Rattle.hg_glob.specs.declared.part_row.Place.{Place}

-- the parts at a place of the row
abbrev pub parts_at : List Part → Place → List Part
parts_at row place = take (place.to - place.from) (drop place.from row)

-- the place is in the row, and has at most as many parts as a glob
pub record IsPlaced (row : List Part) (place : Place) : Type 0 where
  pub ordered : place.from ≤ place.to
  pub inside : place.to ≤ length row
  pub few : place.to ≤ place.from + 4095

-- each place is
abbrev pub ArePlaced : List Part → List Place → Type 0
ArePlaced row places = All (IsPlaced row) places
