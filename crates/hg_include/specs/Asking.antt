-- What a tree was asked for a reading, and at which moments it answered.
use Rattle.std.specs.Prelude.{ℕ, ◌≡◌, ◌+◌, ◌≤◌, ◌⊎◌, if◌then◌else◌, IsTrue, List, [], ◌∷◌, ◌++◌, Option, Some, None, nat_lt}
use Rattle.hg_tree.specs.declared.asked.Asked.{Asked}
use Rattle.hg_tree.specs.declared.asked.Asked.TheVariants as an_ask
use Rattle.hg_tree.specs.History.{History, now}
use Rattle.hg_tree.specs.Moment.{bytes_at, stat_at}
use Rattle.hg_include.specs.declared.fault.IncludeFault.{IncludeFault}
use Rattle.hg_include.specs.declared.fault.IncludeFault.TheVariants as a_fault
use Rattle.hg_include.specs.declared.look.Given.{Given}
use Rattle.hg_include.specs.Look.{Look, file_size, given_by, given_bytes}
use Rattle.hg_include.specs.Reading.{Ask, Ended, Know, SoFar, Task, reading, reads_on}
use Rattle.hg_include.specs.Answer.{Read}

-- a read behind a stat: of a file within the size alone
abbrev pub reads_of_size : ℕ → List ℕ → Option ℕ → List Asked
reads_of_size most path None = []
reads_of_size most path (Some size) = if nat_lt most size then [] else an_ask.Read path ∷ []

-- the reads that looks are: in order, each of a file that a stat showed within the size
abbrev pub reads_of : ℕ → List Ask → List Asked
reads_of most [] = []
reads_of most (ask ∷ asks) = reads_of_size most ask.path ask.look.size ++ reads_of most asks

-- a look at a path: a stat at one moment, not before that one, and a read at the same or a later one
pub record IsLook (h : History) (from : ℕ) (path : List ℕ) (look : Look) : Type 0 where
  pub first : ℕ
  pub second : ℕ
  pub begun : from ≤ first
  pub order : first ≤ second
  pub within : second ≤ h.last
  pub size : look.size ≡ file_size (stat_at (h.at first) path)
  pub bytes : look.bytes ≡ bytes_at (h.at second) path

-- looks in order, each behind the one before
abbrev pub AreLooks : History → ℕ → List Ask → Type 0
AreLooks h from [] = from ≤ h.last
AreLooks h from (ask ∷ asks) = (is : IsLook h from ask.path ask.look) × AreLooks h is.second asks

-- what was asked of a tree that tells its moments
pub record Asks (most : ℕ) (old new : History) (asks : List Ask) : Type 0 where
  pub looks : AreLooks new old.last asks
  pub reads : new.asked ≡ old.asked ++ reads_of most asks

-- the way to know gives what looks gave, from that number on
abbrev pub Agrees : Know → ℕ → List Ask → Type 0
Agrees know n [] = Unit {0}
Agrees know n (ask ∷ asks) = (know n ask.path ≡ ask.look) × Agrees know (n + 1) asks

abbrev pub so_far : Read → List Ask → SoFar
so_far read asks = record { pieces = read.pieces; warnings = read.warnings; asks = asks }

-- what was read so far and the lines that are left make the whole reading
pub record Stands (most limit : ℕ) (old new : History) (read : Read) (tasks : List Task) : Type 0 where
  pub asks : List Ask
  pub asked : IsTrue old.told → Asks most old new asks
  pub goes : (know : Know) → Agrees know 0 asks → reading most limit know ≡ reads_on most limit know tasks (so_far read asks)

-- a call that was answered: every way to know that gives what its looks gave reads the same
pub record IsRead (most limit : ℕ) (old new : History) (read : Read) : Type 0 where
  pub asks : List Ask
  pub asked : IsTrue old.told → Asks most old new asks
  pub ends : (know : Know) → Agrees know 0 asks → reading most limit know ≡ record { so = so_far read asks; fault = None }

-- how a reading goes on that stopped behind these looks: it is refused so; or it looks at more
abbrev pub EndsSo : IncludeFault → List Ask → Ended → Type 0
EndsSo (a_fault.Bad file what) asks ended = (ended.so.asks ≡ asks) × (ended.fault ≡ Some (record { file = file; what = what }))
EndsSo a_fault.OutOfMemory asks ended = (more : List Ask) × (ended.so.asks ≡ asks ++ more)
EndsSo a_fault.Failed asks ended = (more : List Ask) × (ended.so.asks ≡ asks ++ more)

-- a call that stopped: every way to know that gives what its looks gave is refused so, or begins so
pub record Stops (most limit : ℕ) (old new : History) (fault : IncludeFault) : Type 0 where
  pub asks : List Ask
  pub asked : IsTrue old.told → Asks most old new asks
  pub ends : (know : Know) → Agrees know 0 asks → EndsSo fault asks (reading most limit know)

-- a look at a path was answered so
pub record Gives (most : ℕ) (path : List ℕ) (old new : History) (given : Given) : Type 0 where
  pub look : Look
  pub gives : given_by most look ≡ given
  pub asked : IsTrue old.told → Asks most old new (record { path = path; look = look } ∷ [])

-- a look at a path was not answered: nothing was read there, or the look was whole, and its text could not be kept
pub record Fails (most : ℕ) (path : List ℕ) (old new : History) : Type 0 where
  pub asks : List Ask
  pub one : (asks ≡ []) ⊎ ((look : Look) × (asks ≡ record { path = path; look = look } ∷ []))
  pub asked : IsTrue old.told → Asks most old new asks

-- a read of a file that a stat showed was answered so
pub record GivesBytes (most : ℕ) (path : List ℕ) (old new : History) (given : Given) : Type 0 where
  pub bytes : Option (List ℕ)
  pub gives : given_bytes most bytes ≡ given
  pub found : IsTrue old.told → bytes ≡ bytes_at (now new) path
  pub asked : IsTrue old.told → new.asked ≡ old.asked ++ an_ask.Read path ∷ []

-- or may have been asked
abbrev pub MayRead : List ℕ → History → History → Type 0
MayRead path old new = (new.asked ≡ old.asked) ⊎ (new.asked ≡ old.asked ++ an_ask.Read path ∷ [])

-- no file is refused
abbrev pub IsNoRefusal : IncludeFault → Type 0
IsNoRefusal a_fault.OutOfMemory = Unit {0}
IsNoRefusal a_fault.Failed = Unit {0}
IsNoRefusal (a_fault.Bad file what) = ⊥
