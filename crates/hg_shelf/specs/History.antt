-- What happened to the files of a shelf: its moments, who made the step from each to the next, and what the shelf was asked.
use Rattle.std.specs.Prelude.{ℕ, ◌≡◌, ◌≤◌, ◌<◌, Bool, false, if◌then◌else◌, List, [], Option, None, IsTrue}
use Rattle.hg_shelf.specs.declared.asked.Asked.{Asked}
use Rattle.hg_shelf.specs.declared.asked.LockCall.{LockCall}

-- a map from name to bytes
abbrev pub Files : Type 0
Files = List ℕ → Option (List ℕ)

-- who made a step: the caller; another while the caller holds the lock; another otherwise
pub data Who : Type 0 where
  us : Who
  readers : Who
  others : Who

-- a moment: the files that reads show
pub record Moment : Type 0 where
  pub files : Files

-- the moments up to the last, where they are told
pub record History : Type 0 where
  pub ours : Bool  -- the caller holds the lock
  pub told : Bool
  pub last : ℕ
  pub at : ℕ → Moment
  pub who : ℕ → Who  -- who made the step from a moment to the next
  pub asked : List Asked  -- the sizes and the reads that were asked for
  pub locks : List LockCall  -- the calls of the lock

-- the last moment
abbrev pub now : History → Moment
now h = h.at h.last

-- the history of a shelf that tells nothing but whether the caller holds the lock
abbrev pub untold : Bool → History
untold ours = record { ours = ours; told = false; last = 0; at = λ k. record { files = λ name. None }; who = λ k. others; asked = []; locks = [] }

-- a moment stays as it was
pub record Stays (old new : Moment) : Type 0 where
  pub shown : new.files ≡ old.files

-- the moments so far stay
pub record Extends (old new : History) : Type 0 where
  pub told : new.told ≡ old.told
  pub later : old.last ≤ new.last
  pub who : (k : ℕ) → k < old.last → new.who k ≡ old.who k
  pub stay : (k : ℕ) → k ≤ old.last → Stays (old.at k) (new.at k)

-- as whom another makes a step, by whether the caller holds the lock
abbrev pub label : Bool → Who
label ours = if ours then readers else others

-- each step of a span is made by one
abbrev pub By : Who → History → ℕ → ℕ → Type 0
By who h from to = (k : ℕ) → from ≤ k → k < to → h.who k ≡ who

-- the caller made no step, its lock stays, and it didn't call for it
pub record Passes (old new : History) : Type 0 where
  pub past : Extends old new
  pub ours : new.ours ≡ old.ours
  pub locks : new.locks ≡ old.locks
  pub by_others : By (label old.ours) new old.last new.last

-- the lock may have changed hands, and the caller made no step
pub record Waits (old new : History) : Type 0 where
  pub past : Extends old new
  pub none : (k : ℕ) → old.last ≤ k → k < new.last → new.who k ≡ us → ⊥

-- every step between two states of a shelf that tells its moments was the caller's own
pub record IsOurs (old new : History) : Type 0 where
  pub told : IsTrue old.told
  pub ours : By us new old.last new.last
