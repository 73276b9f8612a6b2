-- That the free order of a new file's rows decides nothing: which worlds differ in it alone.
use Rattle.std.specs.Prelude.{ℕ, ◌≡◌, List, map}
use Rattle.hg_race.specs.Enabled.{is_enabled}
use Rattle.hg_race.specs.Rows.{Entries, map_of}
use Rattle.hg_race.specs.Running.{IsFirstRefused}
use Rattle.hg_race.specs.Steps.{Reaches}
use Rattle.hg_race.specs.World.{WorldData}
use Rattle.hg_race.specs.declared.event.Event.{Event}
use Rattle.hg_race.specs.declared.parts.Publication.{Publication}

-- the map that a publication showed
abbrev pub shown : Publication → Entries
shown publication = map_of publication.rows

-- two worlds show the same: the docket, each map that was published, and which events may come
pub record ShowsTheSame (w v : WorldData) : Type 0 where
  pub docket : w.docket ≡ v.docket
  pub maps : map shown w.published ≡ map shown v.published
  pub enabled : (event : Event) → is_enabled w event ≡ is_enabled v event

-- the worlds to which one list of events leads show the same
abbrev pub OneSchedule : Type 0
OneSchedule = (actors : ℕ) (events : List Event) (w v : WorldData) → Reaches actors events w → Reaches actors events v → ShowsTheSame w v

-- a list of which an event is refused leads to no world, and none but that one is the first that is refused
pub record IsRefusedThere (actors : ℕ) (events : List Event) (at : ℕ) : Type 0 where
  pub nowhere : (w : WorldData) → Reaches actors events w → ⊥
  pub only : (other : ℕ) → IsFirstRefused actors events other → other ≡ at

-- where an event of a list is refused, that is so whatever the order of rows was
abbrev pub OneRefusal : Type 0
OneRefusal = (actors : ℕ) (events : List Event) (at : ℕ) → IsFirstRefused actors events at → IsRefusedThere actors events at
