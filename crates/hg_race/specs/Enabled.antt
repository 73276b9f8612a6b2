-- Which events may come.
use Rattle.std.specs.Prelude.{ℕ, ◌+◌, ◌^◌, Bool, true, false, not, ◌&&◌, if◌then◌else◌, Option, None, Some, is_some, is_none, nat_lt}
use Rattle.hg_race.specs.World.{WorldData, actor_of, holds}
use Rattle.hg_race.specs.declared.event.Event.{Event}
use Rattle.hg_race.specs.declared.event.Event.TheVariants as an_event
use Rattle.hg_race.specs.declared.actor.Actor.{Actor}
use Rattle.hg_race.specs.declared.actor.Loading.{Loading}
use Rattle.hg_race.specs.declared.parts.Naming.{Naming}

-- whose event it is
abbrev pub who_of : Event → ℕ
who_of (an_event.ReadDocket who) = who
who_of (an_event.ReadData who) = who
who_of (an_event.Lock who) = who
who_of (an_event.Append who change) = who
who_of (an_event.NewFile who change) = who
who_of (an_event.Swap who) = who
who_of (an_event.Drop who) = who
who_of (an_event.Unlock who) = who
who_of (an_event.Die who) = who

-- the identifier of a new file behind a docket: one above, or 0 where it names no file; none past the greatest
abbrev pub next_id : Option Naming → Option ℕ
next_id None = Some 0
next_id (Some docket) = if nat_lt (docket.id + 1) (2 ^ 64) then Some (docket.id + 1) else None

-- a load may be appended to: it was made under the lock, and its docket names a file
abbrev pub takes_more : Option Loading → Bool
takes_more None = false
takes_more (Some load) = load.locked && is_some load.docket

-- a load may be written anew: it was made under the lock, and an identifier is left
abbrev pub is_renewable : Option Loading → Bool
is_renewable None = false
is_renewable (Some load) = load.locked && is_some (next_id load.docket)

-- what an event asks of the lock and of its actor
abbrev pub is_ready : Option ℕ → Actor → Event → Bool
is_ready holder actor (an_event.ReadDocket who) = true
is_ready holder actor (an_event.ReadData who) = is_some actor.reading
is_ready holder actor (an_event.Lock who) = is_none holder
is_ready holder actor (an_event.Append who change) = holds holder who && (takes_more actor.load && is_none actor.writing)
is_ready holder actor (an_event.NewFile who change) = holds holder who && (is_renewable actor.load && is_none actor.writing)
is_ready holder actor (an_event.Swap who) = is_some actor.writing
is_ready holder actor (an_event.Drop who) = is_some actor.spare
is_ready holder actor (an_event.Unlock who) = holds holder who
is_ready holder actor (an_event.Die who) = true

-- an event may come: its actor is there and alive, and it has what it asks
abbrev pub is_enabled : WorldData → Event → Bool
is_enabled w event = not (actor_of w (who_of event)).dead && is_ready w.holder (actor_of w (who_of event)) event
