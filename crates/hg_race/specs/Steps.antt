-- What each event makes of the world.
use Rattle.std.specs.Prelude.{ℕ, ◌≡◌, Bool, true, false, ◌&&◌, ◌||◌, if◌then◌else◌, List, [], ◌∷◌, ◌++◌, length, take, Option, None, Some, slice_set}
use Rattle.std.specs.Option.{option_map}
use Rattle.hg_base.specs.Runs.{RunsEach}
use Rattle.hg_race.specs.Enabled.{is_enabled, next_id}
use Rattle.hg_race.specs.Rows.{Entries, HoldsEach, Row, edited, map_of}
use Rattle.hg_race.specs.World.{Files, WorldData, actor_of, front_of, holds, is_same, rows_in, start, with_file}
use Rattle.hg_race.specs.declared.event.Event.{Event}
use Rattle.hg_race.specs.declared.event.Event.TheVariants as an_event
use Rattle.hg_race.specs.declared.actor.Actor.{Actor}
use Rattle.hg_race.specs.declared.actor.Loading.{Loading}
use Rattle.hg_race.specs.declared.parts.Naming.{Naming}
use Rattle.hg_race.specs.declared.parts.Publication.{Publication}
use Rattle.hg_race.specs.declared.actor.Reading.{Reading}
use Rattle.hg_race.specs.declared.actor.Writing.{Writing}

-- a load whose docket was read again: where that came under the lock and it was found the same, the load is under the lock too
abbrev pub renewed : Option Naming → Bool → Loading → Loading
renewed docket mine load = record load { locked = load.locked || (mine && is_same load.docket docket) }

-- an actor that read the docket, with the number of publications then and whether it holds the lock
abbrev pub with_docket : Option Naming → ℕ → Bool → Actor → Actor
with_docket docket count mine actor = record actor {
  reading = Some (record { docket = docket; count = count; locked = mine });
  load = option_map (renewed docket mine) actor.load;
}

-- an actor that looked for the file of the docket that it had read: it loaded these rows, or the file was gone
abbrev pub with_data : Reading → Option (List Row) → Actor → Actor
with_data reading None actor = record actor { missed = true }
with_data reading (Some rows) actor = record actor {
  reading = None;
  load = Some (record { docket = reading.docket; rows = rows; count = reading.count; locked = reading.locked });
  missed = false;
}

-- an actor that looks for what the docket names that it had read
abbrev pub data_seen : Files → Option Reading → Actor → Actor
data_seen files None actor = actor
data_seen files (Some reading) actor = with_data reading (front_of files reading.docket) actor

-- a docket that was read, but not under the present lock
abbrev pub outside_lock : Reading → Reading
outside_lock reading = record reading { locked = false }

-- a load that wasn't made under the present lock
abbrev pub loaded_outside_lock : Loading → Loading
loaded_outside_lock load = record load { locked = false }

-- an actor that takes the lock: nothing that it knows was read under this one yet
abbrev pub locked_now : Actor → Actor
locked_now actor = record actor { reading = option_map outside_lock actor.reading; load = option_map loaded_outside_lock actor.load }

-- an actor whose lock is gone: its load, its write and its removal end with it
abbrev pub given_back : Actor → Actor
given_back actor = record actor { load = None; writing = None; spare = None }

-- an actor whose docket was put in place: a new file makes that of the docket before it due for removal
abbrev pub published_now : Option Naming → Bool → Actor → Actor
published_now before fresh actor = record actor {
  reading = None;
  load = None;
  writing = None;
  spare = if fresh then option_map (λ docket. docket.id) before else actor.spare;
}

-- the world with another state of one actor
abbrev pub with_actor : ℕ → Actor → WorldData → WorldData
with_actor who actor w = record w { actors = slice_set w.actors who actor }

-- the world after an actor wrote a file: what a docket will say of it, and its rows
abbrev pub written : ℕ → Writing → List Row → WorldData → WorldData
written who writing rows w = record (with_actor who (record (actor_of w who) { writing = Some writing }) w) {
  files = with_file writing.docket.id (Some rows) w.files;
}

-- the change stands behind the first used rows of a file, and nothing behind it
abbrev pub appended_to : ℕ → List Row → Option Naming → WorldData → WorldData
appended_to who change None w = w
appended_to who change (Some docket) w =
    let rows = take docket.used (rows_in w.files docket.id) ++ change in
    written who (record { docket = record { id = docket.id; used = length rows }; change = change; fresh = false }) rows w

-- the docket of a load
abbrev pub docket_behind : Option Loading → Option Naming
docket_behind None = None
docket_behind (Some load) = load.docket

-- the change is appended to the file of a load
abbrev pub appended_behind : ℕ → List Row → Option Loading → WorldData → WorldData
appended_behind who change load w = appended_to who change (docket_behind load) w

-- these rows stand in a file of that identifier, and nothing else
abbrev pub made_as : ℕ → List Row → List Row → Option ℕ → WorldData → WorldData
made_as who change rows None w = w
made_as who change rows (Some id) w =
    written who (record { docket = record { id = id; used = length rows }; change = change; fresh = true }) rows w

-- the identifier of a new file behind a load
abbrev pub next_behind : Option Loading → Option ℕ
next_behind None = None
next_behind (Some load) = next_id load.docket

-- these rows stand in a new file, whose identifier is the next behind that of a load's docket
abbrev pub made : ℕ → List Row → List Row → Option Loading → WorldData → WorldData
made who change rows load w = made_as who change rows (next_behind load) w

-- the rows of a load
abbrev pub rows_behind : Option Loading → List Row
rows_behind None = []
rows_behind (Some load) = load.rows

-- what was loaded
abbrev pub loaded_map : Option Loading → Entries
loaded_map load = map_of (rows_behind load)

-- what is published of a write: its docket, its change, and the rows that the docket will name
abbrev pub publication_of : Files → Writing → Publication
publication_of files writing = record {
  docket = Some writing.docket;
  change = writing.change;
  rows = take writing.docket.used (rows_in files writing.docket.id);
}

-- what was written is published: the docket names it from now on
abbrev pub swapped : ℕ → Option Writing → WorldData → WorldData
swapped who None w = w
swapped who (Some writing) w = record (with_actor who (published_now w.docket writing.fresh (actor_of w who)) w) {
  docket = Some writing.docket;
  published = w.published ++ publication_of w.files writing ∷ [];
}

-- a file is removed
abbrev pub dropped : ℕ → Option ℕ → WorldData → WorldData
dropped who None w = w
dropped who (Some id) w = record (with_actor who (record (actor_of w who) { spare = None }) w) { files = with_file id None w.files }

-- the actor reads the docket
abbrev pub docket_read : ℕ → WorldData → WorldData
docket_read who w = with_actor who (with_docket w.docket (length w.published) (holds w.holder who) (actor_of w who)) w

-- the actor reads the data
abbrev pub data_read : ℕ → WorldData → WorldData
data_read who w = with_actor who (data_seen w.files (actor_of w who).reading (actor_of w who)) w

-- the actor takes the lock
abbrev pub lock_taken : ℕ → WorldData → WorldData
lock_taken who w = record (with_actor who (locked_now (actor_of w who)) w) { holder = Some who }

-- the actor appends a change to the file that it loaded
abbrev pub appended : ℕ → List Row → WorldData → WorldData
appended who change w = appended_behind who change (actor_of w who).load w

-- the actor writes rows into a new file behind the one that it loaded
abbrev pub made_anew : ℕ → List Row → List Row → WorldData → WorldData
made_anew who change rows w = made who change rows (actor_of w who).load w

-- a change was made of what the actor loaded, in a new file with one row for each path; the order of its rows is free
abbrev pub MakesAnew : ℕ → List Row → WorldData → WorldData → Type 0
MakesAnew who change old new = (rows : List Row) × HoldsEach rows (edited change (loaded_map (actor_of old who).load)) × (new ≡ made_anew who change rows old)

-- the actor puts a docket in place that names what it wrote
abbrev pub docket_swapped : ℕ → WorldData → WorldData
docket_swapped who w = swapped who (actor_of w who).writing w

-- the actor removes the file that its new one took the place of
abbrev pub spare_dropped : ℕ → WorldData → WorldData
spare_dropped who w = dropped who (actor_of w who).spare w

-- the actor gives the lock back
abbrev pub lock_given : ℕ → WorldData → WorldData
lock_given who w = record (with_actor who (given_back (actor_of w who)) w) { holder = None }

-- the actor dies
abbrev pub died : ℕ → WorldData → WorldData
died who w = record (with_actor who (record (given_back (actor_of w who)) { dead = true }) w) { holder = if holds w.holder who then None else w.holder }

-- what an event may make of a world
abbrev pub Makes : Event → WorldData → WorldData → Type 0
Makes (an_event.ReadDocket who) old new = new ≡ docket_read who old
Makes (an_event.ReadData who) old new = new ≡ data_read who old
Makes (an_event.Lock who) old new = new ≡ lock_taken who old
Makes (an_event.Append who change) old new = new ≡ appended who change old
Makes (an_event.NewFile who change) old new = MakesAnew who change old new
Makes (an_event.Swap who) old new = new ≡ docket_swapped who old
Makes (an_event.Drop who) old new = new ≡ spare_dropped who old
Makes (an_event.Unlock who) old new = new ≡ lock_given who old
Makes (an_event.Die who) old new = new ≡ died who old

-- an event that may come makes one world of another
abbrev pub Happens : Event → WorldData → WorldData → Type 0
Happens event old new = (is_enabled old event ≡ true) × Makes event old new

-- these events lead, one after another, from the start of so many actors to a world
abbrev pub Reaches : ℕ → List Event → WorldData → Type 0
Reaches actors events w = RunsEach Happens events (start actors) w
