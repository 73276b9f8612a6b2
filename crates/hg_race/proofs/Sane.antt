-- What is kept from one event to the next: more than is promised, so that each event keeps it.
use Rattle.std.proofs.Common.{ℕ, suc, ◌≡◌, ◌<◌, ◌⊎◌, Bool, true, false, List, [], length, Option, Some, None}
use Rattle.std.specs.Prelude.{slice_get, MatchOption, All, ⊤}
use Rattle.hg_race.specs.Rows.{BeginsWith, Row, edited, map_of}
use Rattle.hg_race.specs.Safe.{IsChain, IsLoaded}
use Rattle.hg_race.specs.World.{Files, WorldData, actor_of, holds, last_of}
use Rattle.hg_race.specs.declared.actor.Actor.{Actor}
use Rattle.hg_race.specs.declared.actor.Loading.{Loading}
use Rattle.hg_race.specs.declared.parts.Naming.{Naming}
use Rattle.hg_race.specs.declared.parts.Publication.{Publication}
use Rattle.hg_race.specs.declared.actor.Reading.{Reading}
use Rattle.hg_race.specs.declared.actor.Writing.{Writing}

-- the last of the first so many publications had that docket
pub record WasNamed (published : List Publication) (count : ℕ) (docket : Option Naming) : Type 0 where
  pub number : ℕ
  pub last : count ≡ suc number
  pub publication : Publication
  pub is : slice_get published number ≡ Some publication
  pub same_docket : publication.docket ≡ docket

-- a docket that was read: where that came under the lock that the actor holds, it is the one that stands
pub record IsRead (published : List Publication) (now : Option Naming) (mine : Bool) (reading : Reading) : Type 0 where
  pub named : WasNamed published reading.count reading.docket
  pub fresh : mine ≡ true → reading.locked ≡ true → reading.docket ≡ now

abbrev pub ReadOf : List Publication → Option Naming → Bool → Option Reading → Type 0
ReadOf published now mine None = ⊤
ReadOf published now mine (Some reading) = IsRead published now mine reading

-- a load: where it came under the lock that the actor holds, it is of what stands
pub record IsLoad (published : List Publication) (now : Option Naming) (rows : List Row) (mine : Bool) (load : Loading) : Type 0 where
  pub loaded : IsLoaded published load
  pub docket : mine ≡ true → load.locked ≡ true → load.docket ≡ now
  pub held : mine ≡ true → load.locked ≡ true → load.rows ≡ rows

abbrev pub LoadOf : List Publication → Option Naming → List Row → Bool → Option Loading → Type 0
LoadOf published now rows mine None = ⊤
LoadOf published now rows mine (Some load) = IsLoad published now rows mine load

-- what is written is a file above that of the docket, or that file with more behind what it uses
abbrev pub ComesNext : Option Naming → List Row → ℕ → Bool → List Row → Type 0
ComesNext None last id fresh rows = ⊤
ComesNext (Some docket) last id fresh rows = (docket.id < id) ⊎ ((id ≡ docket.id) × BeginsWith rows last × (fresh ≡ false))

-- a write: its actor holds the lock, and its file holds the change on what was published last
pub record IsWritten (files : Files) (now : Option Naming) (last : List Row) (mine : Bool) (writing : Writing) : Type 0 where
  pub holder : mine ≡ true
  pub rows : List Row
  pub file : files writing.docket.id ≡ Some rows
  pub used : length rows ≡ writing.docket.used
  pub map : map_of rows ≡ edited writing.change (map_of last)
  pub next : ComesNext now last writing.docket.id writing.fresh rows

abbrev pub WriteOf : Files → Option Naming → List Row → Bool → Option Writing → Type 0
WriteOf files now last mine None = ⊤
WriteOf files now last mine (Some writing) = IsWritten files now last mine writing

-- an identifier below that of the docket
abbrev pub IsBelow : ℕ → Option Naming → Type 0
IsBelow id None = ⊥
IsBelow id (Some docket) = id < docket.id

-- a file that is due for removal: its actor holds the lock, and the docket names one above
abbrev pub SpareOf : Option Naming → Bool → Option ℕ → Type 0
SpareOf now mine None = ⊤
SpareOf now mine (Some id) = (mine ≡ true) × IsBelow id now

-- what holds of an actor
pub record IsHeld (files : Files) (now : Option Naming) (last : List Row) (published : List Publication) (mine : Bool) (actor : Actor) : Type 0 where
  pub read : ReadOf published now mine actor.reading
  pub load : LoadOf published now last mine actor.load
  pub write : WriteOf files now last mine actor.writing
  pub spare : SpareOf now mine actor.spare

-- the docket names a file above, or the same file, whose used rows begin with these
abbrev pub UpTo : Option Naming → List Row → ℕ → List Row → Type 0
UpTo None last id rows = ⊥
UpTo (Some docket) last id rows = (id < docket.id) ⊎ ((id ≡ docket.id) × BeginsWith last rows)

-- what an earlier docket named: so many rows, in a file that is gone or begins with them
pub record IsOld (files : Files) (now : Option Naming) (last : List Row) (docket : Naming) (rows : List Row) : Type 0 where
  pub used : length rows ≡ docket.used
  pub upto : UpTo now last docket.id rows
  pub file : MatchOption (files docket.id) ⊤ (λ file. BeginsWith file rows)

abbrev pub OldOf : Files → Option Naming → List Row → Option Naming → List Row → Type 0
OldOf files now last None rows = rows ≡ []
OldOf files now last (Some docket) rows = IsOld files now last docket rows

-- what the docket names now: so many rows, in a file that is there and begins with them
abbrev pub StandsNow : Files → Option Naming → List Row → Type 0
StandsNow files None last = last ≡ []
StandsNow files (Some docket) last = (length last ≡ docket.used) × MatchOption (files docket.id) ⊥ (λ file. BeginsWith file last)

-- what is kept from event to event
pub record IsSane (w : WorldData) : Type 0 where
  pub chain : IsChain w.published
  pub last : (last_of w).docket ≡ w.docket
  pub stands : StandsNow w.files w.docket (last_of w).rows
  pub kept : All (λ publication. OldOf w.files w.docket (last_of w).rows publication.docket publication.rows) w.published
  pub held : (who : ℕ) → IsHeld w.files w.docket (last_of w).rows w.published (holds w.holder who) (actor_of w who)
