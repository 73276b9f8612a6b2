-- The world that processes share, and what each of them knows of it.
use Rattle.std.specs.Prelude.{ℕ, ◌==◌, ◌&&◌, Bool, true, false, if◌then◌else◌, List, [], ◌∷◌, replicate, Option, None, Some, unwrap_or, take}
use Rattle.std.specs.List.{slice_index_or}
use Rattle.std.specs.Option.{option_map}
use Rattle.hg_race.specs.Rows.{Row}
use Rattle.hg_race.specs.declared.actor.Actor.{Actor}
use Rattle.hg_race.specs.declared.parts.Naming.{Naming}
use Rattle.hg_race.specs.declared.parts.Publication.{Publication}

-- the files by identifier
abbrev pub Files : Type 0
Files = ℕ → Option (List Row)

-- the actors by number; the docket, where it names a file; who holds the lock; and all publications, the oldest first
pub record WorldData : Type 0 where
  pub actors : List Actor
  pub files : Files
  pub docket : Option Naming
  pub holder : Option ℕ
  pub published : List Publication

-- an actor that has done nothing yet
abbrev pub idle : Actor
idle = record { reading = None; load = None; writing = None; spare = None; missed = false; dead = false }

-- an actor that isn't there: it is as one that has died
abbrev pub nobody : Actor
nobody = record { reading = None; load = None; writing = None; spare = None; missed = false; dead = true }

-- the actor of that number
abbrev pub actor_of : WorldData → ℕ → Actor
actor_of w who = slice_index_or w.actors who nobody

-- that actor holds the lock
abbrev pub holds : Option ℕ → ℕ → Bool
holds None who = false
holds (Some holder) who = holder == who

-- the publication with which all begins: an empty docket, no change and no rows
abbrev pub first_publication : Publication
first_publication = record { docket = None; change = []; rows = [] }

-- the last of some publications, or what stands before the first
abbrev pub last_or : Publication → List Publication → Publication
last_or before [] = before
last_or before (next ∷ more) = last_or next more

-- the last publication
abbrev pub last_of : WorldData → Publication
last_of w = last_or first_publication w.published

-- a world of so many actors: no file, a docket that names none, a free lock, nothing read
abbrev pub start : ℕ → WorldData
start actors = record {
  actors = replicate actors idle;
  files = λ id. None;
  docket = None;
  holder = None;
  published = first_publication ∷ [];
}

-- two dockets are the same: both name no file, or one file with as many rows used
abbrev pub is_same : Option Naming → Option Naming → Bool
is_same None None = true
is_same (Some a) (Some b) = (a.id == b.id) && (a.used == b.used)
is_same one other = false

-- the rows of a file, none where it isn't there
abbrev pub rows_in : Files → ℕ → List Row
rows_in files id = unwrap_or (files id) []

-- what a docket names: the first used rows of its file where that is there; no rows for a docket that names no file
abbrev pub front_of : Files → Option Naming → Option (List Row)
front_of files None = Some []
front_of files (Some docket) = option_map (take docket.used) (files docket.id)

-- the files after one was written or removed
abbrev pub with_file : ℕ → Option (List Row) → Files → Files
with_file id rows files other = if id == other then rows else files other
