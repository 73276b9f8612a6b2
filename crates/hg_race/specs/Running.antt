-- Why a list of events leads to no world.
use Rattle.std.specs.Prelude.{ℕ, ◌≡◌, false, List, ◌∷◌, ◌++◌, length}
use Rattle.hg_race.specs.Enabled.{is_enabled}
use Rattle.hg_race.specs.Steps.{Reaches}
use Rattle.hg_race.specs.World.{WorldData}
use Rattle.hg_race.specs.declared.event.Event.{Event}
use Rattle.hg_race.specs.declared.schedule.RaceFault.{RaceFault}
use Rattle.hg_race.specs.declared.schedule.RaceFault.TheVariants as a_fault

-- the events before a place may come one after another, and lead to a world in which the one at that place may not
pub record IsFirstRefused (actors : ℕ) (events : List Event) (at : ℕ) : Type 0 where
  pub earlier : List Event
  pub event : Event
  pub later : List Event
  pub whole : events ≡ earlier ++ event ∷ later
  pub place : length earlier ≡ at
  pub world : WorldData
  pub reached : Reaches actors earlier world
  pub refused : is_enabled world event ≡ false

-- want of memory needs no cause; an event is refused where it is the first that may not come
abbrev pub HasRaceCause : ℕ → List Event → RaceFault → Type 0
HasRaceCause actors events a_fault.OutOfMemory = Unit {0}
HasRaceCause actors events (a_fault.NotEnabled at) = IsFirstRefused actors events at
