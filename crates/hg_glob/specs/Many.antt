-- Many globs that are asked at once, and what the ends of two of them have in common.
use Rattle.std.specs.Prelude.{ℕ, ◌≡◌, ◌≤◌, ◌-◌, ◌⊎◌, false, List, [], ◌∷◌, map, length, drop, chars}
use Rattle.hg_glob.specs.Part.{parts_of, glob_of, reading}
use Rattle.hg_glob.specs.Line.{Stands}
use Rattle.hg_glob.specs.declared.part.Part.{Part}
use Rattle.hg_glob.specs.declared.globs.GlobLine.{GlobLine}

-- some glob stands in the path
abbrev pub SomeStands : List GlobLine → List ℕ → Type 0
SomeStands [] path = ⊥
SomeStands (line ∷ more) path = Stands false line.rooted (glob_of (chars line.glob)) (chars path) ⊎ SomeStands more path

-- the last k parts
abbrev pub last_parts : ℕ → List Part → List Part
last_parts k parts = drop (length parts - k) parts

-- so many parts are there at the end of both, and each end of so many or fewer makes the same of both
pub record SharesEnd (count : ℕ) (a b : List Part) : Type 0 where
  pub first : count ≤ length a
  pub second : count ≤ length b
  pub same : (k : ℕ) → k ≤ count → reading (last_parts k a) ≡ reading (last_parts k b)

-- the parts of a line
abbrev pub parts_in : GlobLine → List Part
parts_in line = parts_of (chars line.glob)

-- of each of the lists as many parts are at the end of what stands before it
abbrev pub SharedBehind : List Part → List (List Part) → List ℕ → Type 0
SharedBehind before [] shared = shared ≡ []
SharedBehind before (parts ∷ row) [] = ⊥
SharedBehind before (parts ∷ row) (count ∷ shared) = SharesEnd count before parts × SharedBehind parts row shared

-- the same where nothing stands before the first
abbrev pub AreShared : List (List Part) → List ℕ → Type 0
AreShared row shared = SharedBehind [] row shared

-- the row has the parts of each line, and the counts say what each has in common with the one before
pub record AreLaid (lines : List GlobLine) (row : List (List Part)) (shared : List ℕ) : Type 0 where
  pub row_is : row ≡ map parts_in lines
  pub are_shared : AreShared row shared
