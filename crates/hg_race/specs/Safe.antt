-- What holds of each world that events lead to.
use Rattle.std.specs.Prelude.{ℕ, suc, ◌≡◌, ◌≤◌, Bool, not, ◌==◌, false, true, List, [], ◌++◌, length, take, Option, None, Some, MatchOption, IfSome, All, slice_get, ⊤}
use Rattle.std.specs.List.{list_all}
use Rattle.hg_base.specs.Runs.{RunsEach}
use Rattle.hg_race.specs.Enabled.{is_enabled}
use Rattle.hg_race.specs.Rows.{Row, edited, map_of}
use Rattle.hg_race.specs.Steps.{Happens, Makes, Reaches}
use Rattle.hg_race.specs.World.{Files, WorldData, actor_of, first_publication, last_of}
use Rattle.hg_race.specs.declared.event.Event.{Event}
use Rattle.hg_race.specs.declared.event.Event.TheVariants as an_event
use Rattle.hg_race.specs.declared.actor.Loading.{Loading}
use Rattle.hg_race.specs.declared.parts.Naming.{Naming}
use Rattle.hg_race.specs.declared.parts.Publication.{Publication}

-- a docket and rows are those of the last publication of the first so many
pub record WasPublished (published : List Publication) (count : ℕ) (docket : Option Naming) (rows : List Row) : Type 0 where
  pub number : ℕ
  pub last : count ≡ suc number
  pub publication : Publication
  pub is : slice_get published number ≡ Some publication
  pub same_docket : publication.docket ≡ docket
  pub same_rows : publication.rows ≡ rows

-- a load is what the docket named when it was read
abbrev pub IsLoaded : List Publication → Loading → Type 0
IsLoaded published load = WasPublished published load.count load.docket load.rows

-- each map that was published is its change on the one before, and the first is empty
pub record IsChain (published : List Publication) : Type 0 where
  pub first : slice_get published 0 ≡ Some first_publication
  pub next : (number : ℕ) (before after : Publication) → slice_get published number ≡ Some before → slice_get published (suc number) ≡ Some after
      → map_of after.rows ≡ edited after.change (map_of before.rows)

-- rows stand in front of a file that is there
pub record StandsInFront (file : List Row) (used : ℕ) (rows : List Row) : Type 0 where
  pub within : used ≤ length file
  pub front : take used file ≡ rows

-- a docket that names no file stands for no rows; else its file is there, and these are its first used rows
abbrev pub Stands : Files → Option Naming → List Row → Type 0
Stands files None rows = rows ≡ []
Stands files (Some docket) rows = MatchOption (files docket.id) ⊥ (λ file. StandsInFront file docket.used rows)

-- the file that a docket named is gone, or its first used rows are as they were
abbrev pub IsKept : Files → Option Naming → List Row → Type 0
IsKept files None rows = rows ≡ []
IsKept files (Some docket) rows = MatchOption (files docket.id) ⊤ (λ file. StandsInFront file docket.used rows)

-- what holds of a world that events lead to
pub record IsSafe (w : WorldData) : Type 0 where
  -- each load is what the docket named when it was read
  pub loaded : (who : ℕ) → IfSome (actor_of w who).load (IsLoaded w.published)
  -- each published map but the first, which is empty, is its change on the one before
  pub chain : IsChain w.published
  -- the docket is that of the last publication
  pub last : (last_of w).docket ≡ w.docket
  -- what it names stands, and is what was published last
  pub stands : Stands w.files w.docket (last_of w).rows
  -- the file that an earlier docket named is gone, or its first used rows are what was published with it
  pub kept : All (λ publication. IsKept w.files publication.docket publication.rows) w.published

-- each world that events lead to is safe
abbrev pub IsAlwaysSafe : Type 0
IsAlwaysSafe = (actors : ℕ) (events : List Event) (w : WorldData) → Reaches actors events w → IsSafe w

-- whatever comes later, what was published stays published, and the list only grows
abbrev pub NoneIsLost : Type 0
NoneIsLost = (actors : ℕ) (events later : List Event) (w v : WorldData) → Reaches actors events w → RunsEach Happens later w v
    → (more : List Publication) × (v.published ≡ w.published ++ more)

-- whatever comes later, what a docket named is gone or stands as it stood
abbrev pub RowsStay : Type 0
RowsStay = (actors : ℕ) (events later : List Event) (w v : WorldData) → Reaches actors events w → RunsEach Happens later w v
    → IsKept v.files w.docket (last_of w).rows

-- an actor reads a docket or data by it
abbrev pub is_read : ℕ → Event → Bool
is_read who (an_event.ReadDocket other) = other == who
is_read who (an_event.ReadData other) = other == who
is_read who event = false

-- a load is what the docket named when it was read, and what had been published last then
abbrev pub LoadsWhatStood : Type 0
LoadsWhatStood = (actors : ℕ) (events : List Event) (w : WorldData) → Reaches actors events w
    → (who : ℕ) (v : WorldData) → Happens (an_event.ReadDocket who) w v
    → (between : List Event) → list_all (λ event. not (is_read who event)) between ≡ true
    → (u x : WorldData) → RunsEach Happens between v u → Happens (an_event.ReadData who) u x → (actor_of x who).missed ≡ false
    → (load : Loading) × ((actor_of x who).load ≡ Some load) × (load.docket ≡ w.docket) × (load.rows ≡ (last_of w).rows)

-- an event that may come makes some world
abbrev pub GoesOn : Type 0
GoesOn = (event : Event) (w : WorldData) → is_enabled w event ≡ true → (v : WorldData) × Makes event w v
