-- What an actor publishes that holds the lock and has loaded under it.
use Rattle.std.specs.Prelude.{ℕ, ◌≡◌, ◌≢◌, ◌+◌, true, false, List, length, map, None, Some, is_some, All}
use Rattle.std.specs.Cmp.Lexicographic.{slice_cmp}
use Rattle.std.specs.List.Sorted.{IsStrictlySortedBy}
use Rattle.std.specs.Option.{option_map}
use Rattle.std.specs.Ordering.{nat_cmp}
use Rattle.hg_race.specs.Enabled.{is_enabled, next_id}
use Rattle.hg_race.specs.Rows.{Entries, Row, edited, map_of, names}
use Rattle.hg_race.specs.Steps.{Happens, Reaches}
use Rattle.hg_race.specs.World.{WorldData, actor_of, last_of}
use Rattle.hg_race.specs.declared.event.Event.{Event}
use Rattle.hg_race.specs.declared.event.Event.TheVariants as an_event
use Rattle.hg_race.specs.declared.actor.Loading.{Loading}
use Rattle.hg_race.specs.declared.parts.Naming.{Naming}

-- an actor may publish: it is alive, holds the lock, has a load that was made under it, and has written nothing that isn't published
pub record IsPoised (w : WorldData) (who : ℕ) : Type 0 where
  pub alive : (actor_of w who).dead ≡ false
  pub holder : w.holder ≡ Some who
  pub load : Loading
  pub loaded : (actor_of w who).load ≡ Some load
  pub locked : load.locked ≡ true
  pub unwritten : (actor_of w who).writing ≡ None

-- an event of writing and then the one that publishes may come, and what they lead to
pub record Publishes (w : WorldData) (who : ℕ) (write : Event) (Shown : WorldData → Type 0) : Type 0 where
  pub may_write : is_enabled w write ≡ true
  pub may_swap : (v : WorldData) → Happens write w v → is_enabled v (an_event.Swap who) ≡ true
  pub shown : (v u : WorldData) → Happens write w v → Happens (an_event.Swap who) v u → Shown u

-- an append was published: the docket names the same file with so many rows more, and the map is the change on the one before
pub record ShowsAppend (w : WorldData) (before : Naming) (change : List Row) (u : WorldData) : Type 0 where
  pub docket : u.docket ≡ Some (record { id = before.id; used = before.used + length change })
  pub map : map_of (last_of u).rows ≡ edited change (map_of (last_of w).rows)

-- a new file was published: the docket names it, the map is the change on the one before, and the file before it may go where there was one
pub record ShowsNewFile (w : WorldData) (who id : ℕ) (change : List Row) (u : WorldData) : Type 0 where
  pub docket : option_map (λ naming. naming.id) u.docket ≡ Some id
  pub map : map_of (last_of u).rows ≡ edited change (map_of (last_of w).rows)
  pub may_drop : is_enabled u (an_event.Drop who) ≡ is_some w.docket

-- who may publish may append each change where the docket names a file
abbrev pub AppendIsPublished : Type 0
AppendIsPublished = (actors : ℕ) (events : List Event) (w : WorldData) → Reaches actors events w → (who : ℕ) → IsPoised w who
    → (docket : Naming) → w.docket ≡ Some docket → (change : List Row)
    → Publishes w who (an_event.Append who change) (ShowsAppend w docket change)

-- who may publish may write each change into a new file where an identifier is left
abbrev pub NewFileIsPublished : Type 0
NewFileIsPublished = (actors : ℕ) (events : List Event) (w : WorldData) → Reaches actors events w → (who : ℕ) → IsPoised w who
    → (id : ℕ) → next_id w.docket ≡ Some id → (change : List Row)
    → Publishes w who (an_event.NewFile who change) (ShowsNewFile w who id change)

-- that a file is removed changes neither the docket nor what was published
abbrev pub DropShowsTheSame : Type 0
DropShowsTheSame = (who : ℕ) (w v : WorldData) → Happens (an_event.Drop who) w v → (v.docket ≡ w.docket) × (v.published ≡ w.published)

-- a change has exactly the paths whose entries differ, ascending by bytes, each with its new entry
pub record IsDifference (change : List Row) (old new : Entries) : Type 0 where
  pub ascending : IsStrictlySortedBy (slice_cmp nat_cmp) (map (λ row. row.path) change)
  pub entries : All (λ row. row.entry ≡ new row.path) change
  pub differ : All (λ row. old row.path ≢ row.entry) change
  pub others : (path : List ℕ) → names path change ≡ false → old path ≡ new path

-- what differs between two maps makes the one of the other
abbrev pub DifferenceMakesTheNew : Type 0
DifferenceMakesTheNew = (change : List Row) (old new : Entries) → IsDifference change old new → edited change old ≡ new
