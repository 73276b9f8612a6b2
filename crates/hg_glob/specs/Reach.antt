-- The columns of a glob's last parts over the last characters of a long path; for the private functions alone.
use Rattle.std.specs.Prelude.{ℕ, ◌≤◌, ◌<◌, Bool, true, false, List, [], length, slice_index_or, IsTrue}
use Rattle.hg_glob.specs.Part.{Reading, reading}
use Rattle.hg_glob.specs.Many.{last_parts}
use Rattle.hg_glob.specs.Kept.{HasEnd}
use Rattle.hg_glob.specs.Accepted.{Accepts, ColumnIs}
use Rattle.hg_glob.specs.declared.part.Part.{Part}
use Rattle.hg_glob.specs.declared.part.Part.TheVariants as a_part
use Rattle.hg_glob.specs.declared.fork.Reach.{Reach}

-- a brace, or what parts choices
abbrev pub is_brace : Part → Bool
is_brace (a_part.Open at) = true
is_brace a_part.Comma = true
is_brace a_part.Close = true
is_brace _ = false

-- of each end among the last characters it is said whether it is accepted from what was read on, and of all longer ends whether
-- some may be
pub record ReachIs (path xs : List ℕ) (r : Reading) (reach : Reach) : Type 0 where
  pub near : ColumnIs false xs r reach.now reach.hit []
  pub far : (t : List ℕ) → HasEnd path t → length xs < length t → Accepts false r t → IsTrue reach.beyond

-- what is kept of so many parts
abbrev pub reach_at : List Reach → ℕ → Reach
reach_at reaches k = slice_index_or reaches k (record { now = 0; hit = 0; beyond = false })

-- the same of at most so many last parts each
pub record ReachesAre (path xs : List ℕ) (parts : List Part) (len : ℕ) (reaches : List Reach) : Type 0 where
  pub inside : len ≤ length parts
  pub at : (k : ℕ) → k ≤ len → ReachIs path xs (reading (last_parts k parts)) (reach_at reaches k)
