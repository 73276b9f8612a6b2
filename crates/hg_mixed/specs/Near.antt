-- What stands near a path: above it or below.
use Rattle.std.specs.Prelude.{ℕ, ◌≡◌, true, false, ◌||◌, List}
use Rattle.hg_base.specs.PathText.{is_below}
use Rattle.hg_docket.specs.Docket.{Contents}
use Rattle.hg_entry.specs.Table.{Table}
use Rattle.hg_image.specs.Rows.{Row}
use Rattle.hg_mixed.specs.Lent.{covers}
use Rattle.hg_mixed.specs.Parted.{whole}

-- a path isn't the image's, and of what stands above it or below memory has all entries
pub record IsNear (docket : Contents) (rows : List Row) (left : List (List ℕ × List Row)) (own : Table) (path : List ℕ) : Type 0 where
  pub free : covers left path ≡ false
  pub near : (other : List ℕ) → (is_below other path || is_below path other) ≡ true → (whole docket rows left own).entries other ≡ own.entries other
