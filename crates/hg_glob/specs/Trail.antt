-- The columns of the last parts of a glob, each of them kept; for the private functions alone.
use Rattle.std.specs.Prelude.{ℕ, ◌≡◌, ◌≤◌, false, List, [], length, slice_index_or}
use Rattle.hg_glob.specs.Part.{Reading, reading}
use Rattle.hg_glob.specs.Many.{last_parts}
use Rattle.hg_glob.specs.Accepted.{ColumnIs}
use Rattle.hg_glob.specs.declared.part.Part.{Part}
use Rattle.hg_glob.specs.declared.fork.Column.{Column}
use Rattle.hg_glob.specs.declared.fork.Fork.{Fork}

-- the column of so many parts
abbrev pub column_at : List Column → ℕ → Column
column_at columns k = slice_index_or columns k (record { now = 0; hit = 0; depth = 0 })

-- each column of at most so many parts says of each end whether it is accepted from these parts on, where they stand outside braces
pub record TrailIs (xs : List ℕ) (parts : List Part) (len : ℕ) (columns : List Column) : Type 0 where
  pub inside : len ≤ length parts
  pub first : (column_at columns 0).depth ≡ 0
  pub at : (k : ℕ) → k ≤ len → (column_at columns k).depth ≡ 0 → ColumnIs false xs (reading (last_parts k parts)) (column_at columns k).now (column_at columns k).hit []

-- the column says it of what was read, in whatever braces are around
pub record EndsAt (xs : List ℕ) (r : Reading) (column : Column) : Type 0 where
  pub forks : List Fork
  pub column_is : ColumnIs false xs r column.now column.hit forks
