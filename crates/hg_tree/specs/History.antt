-- The moments of a working copy so far, who made each step between them, and what the tree was asked.
use Rattle.std.specs.Prelude.{ℕ, ◌≡◌, ◌≤◌, ◌<◌, Bool, false, IsTrue, ◌⊎◌, List, [], ◌++◌}
use Rattle.hg_tree.specs.declared.asked.Asked.{Asked}
use Rattle.hg_tree.specs.Moment.{Moment, empty_at, zero_time, IsFormed}

-- who made a step: the caller of this tree, or others
pub data Who : Type 0 where
  us : Who
  others : Who

-- moments 0 to `last`, and the steps from k to k + 1 for each k below `last`. A tree that isn't told says nothing by the rest
pub record History : Type 0 where
  pub told : Bool
  pub last : ℕ
  pub at : ℕ → Moment
  pub who : ℕ → Who
  pub asked : List Asked

abbrev pub now : History → Moment
now h = h.at h.last

-- the history of a tree that tells nothing
abbrev pub untold : History
untold = record { told = false; last = 0; at = λ k. empty_at zero_time; who = λ k. others; asked = [] }

-- the moments so far stay
pub record Extends (old new : History) : Type 0 where
  pub told : new.told ≡ old.told
  pub later : old.last ≤ new.last
  pub who : (k : ℕ) → k < old.last → new.who k ≡ old.who k
  pub stay : (k : ℕ) → k ≤ old.last → new.at k ≡ old.at k

-- each of these steps is made by `who`
abbrev pub By : Who → History → ℕ → ℕ → Type 0
By who h from to = (k : ℕ) → from ≤ k → k < to → h.who k ≡ who

-- the caller made no step
pub record Passes (old new : History) : Type 0 where
  pub past : Extends old new
  pub by_others : By others new old.last new.last

-- every step between two states of a tree that tells its moments was the caller's own
pub record IsOurs (old new : History) : Type 0 where
  pub told : IsTrue old.told
  pub ours : By us new old.last new.last

-- a call was noted behind the calls so far; one that failed may be missing, where there was no memory to note it
abbrev pub Asks : Bool → List Asked → History → History → Type 0
Asks answered asks old new = (new.asked ≡ old.asked ++ asks) ⊎ ((answered ≡ false) × (new.asked ≡ old.asked))

-- at each moment it is a working copy as a file system can hold it
pub record AreFormed (h : History) : Type 0 where
  pub each : (k : ℕ) → k ≤ h.last → IsFormed (h.at k)
