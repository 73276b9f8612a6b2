-- What a face tells: all that a stat, a read and the names in a directory show of a path, but for the executable bit.
use Rattle.std.specs.Prelude.{ℕ, ◌≡◌, false, List, Some, option_map}
use Rattle.hg_base.specs.declared.stat.Stat.{Stat}
use Rattle.hg_tree.specs.Honest.{face, has_name}
use Rattle.hg_tree.specs.Moment.{Moment, Lists, bytes_at, is_among, stat_at}
use Rattle.hg_tree.specs.Still.{is_exec}

abbrev pub without_exec : Stat → Stat
without_exec stat = record stat { exec = false }

-- a path shows the same at two moments, but for the executable bit
pub record ShowsSame (m n : Moment) (path : List ℕ) : Type 0 where
  pub stat : option_map without_exec (stat_at m path) ≡ option_map without_exec (stat_at n path)
  pub bytes : bytes_at m path ≡ bytes_at n path
  pub names : (name : List ℕ) → has_name m path name ≡ has_name n path name

-- what has one face shows the same
abbrev pub FaceTells : Type 0
FaceTells = (m n : Moment) (path : List ℕ) → face m path ≡ face n path → ShowsSame m n path

-- what shows the same has one face
abbrev pub FaceIsTold : Type 0
FaceIsTold = (m n : Moment) (path : List ℕ) → ShowsSame m n path → face m path ≡ face n path

-- where the executable bit is the same too, so is the whole stat
abbrev pub FaceWithExec : Type 0
FaceWithExec =
    (m n : Moment) (path : List ℕ) → face m path ≡ face n path → is_exec (m.things path) ≡ is_exec (n.things path) → stat_at m path ≡ stat_at n path

-- the names that a listing gives are those of the directory's face
abbrev pub FaceIsListed : Type 0
FaceIsListed =
    (m : Moment) (dir : List ℕ) (names : List (List ℕ)) → Lists (Some dir) (Some names) m → (name : List ℕ)
    → (face m dir).names name ≡ is_among name names
