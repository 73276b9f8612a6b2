-- What is promised follows from what is kept; what was published stays; and a load is what stood.
use Rattle.std.proofs.Common.{ℕ, suc, ◌≡◌, ◌<◌, inl, inr, Bool, true, false, not, List, [], ◌∷◌, ◌++◌, length, take, get_or, set, Option, Some, None, refl, sym, ap, subst, ◌∙◌, arith, eqb, eq-eqb}
use Rattle.std.specs.List.{list_all}
use Rattle.std.specs.Option.{option_map}
use Rattle.std.specs.Prelude.{IfSome, MatchOption, is_some, slice_get, ⊤}
use Rattle.std.proofs.lemmas.Bool.{and_parts, both_ways, cases_lt, not-true, true≢false}
use Rattle.std.proofs.lemmas.List.{append-nil, append_assoc, get_or-set_same, get_or_past}
use Rattle.std.proofs.lemmas.List.Elements.{All-weaker}
use Rattle.std.proofs.lemmas.Option.{same_Some}
use Rattle.hg_base.specs.Runs.{RunsEach}
use Rattle.hg_race.specs.Enabled.{is_enabled, is_ready, next_id, who_of}
use Rattle.hg_race.specs.Rows.{BeginsWith, Row}
use Rattle.hg_race.specs.Safe.{GoesOn, IsKept, IsLoaded, IsSafe, LoadsWhatStood, NoneIsLost, RowsStay, Stands, StandsInFront, is_read}
use Rattle.hg_race.specs.Steps.{Happens, Makes, Reaches, appended, appended_behind, appended_to, data_read, data_seen, died, docket_read, docket_swapped, dropped, given_back, lock_given, lock_taken, locked_now, made, made_anew, made_as, outside_lock, published_now, rows_behind, spare_dropped, swapped, with_data, with_docket}
use Rattle.hg_race.specs.World.{Files, WorldData, actor_of, first_publication, front_of, holds, last_of, nobody, rows_in}
use Rattle.hg_race.specs.declared.event.Event.{Event}
use Rattle.hg_race.specs.declared.event.Event.TheVariants as an_event
use Rattle.hg_race.specs.declared.actor.Actor.{Actor}
use Rattle.hg_race.specs.declared.actor.Loading.{Loading}
use Rattle.hg_race.specs.declared.parts.Naming.{Naming}
use Rattle.hg_race.specs.declared.parts.Publication.{Publication}
use Rattle.hg_race.specs.declared.actor.Reading.{Reading}
use Rattle.hg_race.specs.declared.actor.Writing.{Writing}
use Rattle.hg_race.proofs.Copying.{compact, compact_behind}
use Rattle.hg_race.proofs.Going.{event_sane, events_sane, reached_sane, was_ready}
use Rattle.hg_race.proofs.Holding.{old_at}
use Rattle.hg_race.proofs.Looking.{begins_taken, begins_within, each_actor, last_number, slice_get-append}
use Rattle.hg_race.proofs.Sane.{IsSane, LoadOf, OldOf, StandsNow}

-- rows in front of a file, told by their number
pub in_front : (file rows : List Row) (used : ℕ) → BeginsWith file rows → length rows ≡ used → StandsInFront file used rows
in_front file rows used begins l = record { within = begins_within file rows used begins l; front = begins_taken file rows used begins l }

pub stands_there : (files : Files) (docket : Option Naming) (rows : List Row) → StandsNow files docket rows → Stands files docket rows
stands_there files None rows stands = stands
stands_there files (Some docket) rows stands =
    (elim (files docket.id) as (λ (o : Option (List Row)). MatchOption o ⊥ (λ file. BeginsWith file rows)
    → MatchOption o ⊥ (λ file. StandsInFront file docket.used rows)) [
      | None ↦ λ none. none
      | Some file ↦ λ begins. in_front file rows docket.used begins stands.0
    ]) stands.1

pub kept_there : (files : Files) (now : Option Naming) (last : List Row) (docket : Option Naming) (rows : List Row) → OldOf files now last docket rows
    → IsKept files docket rows
kept_there files now last None rows old = old
kept_there files now last (Some docket) rows old =
    (elim (files docket.id) as (λ (o : Option (List Row)). MatchOption o ⊤ (λ file. BeginsWith file rows)
    → MatchOption o ⊤ (λ file. StandsInFront file docket.used rows)) [
      | None ↦ λ none. none
      | Some file ↦ λ begins. in_front file rows docket.used begins old.used
    ]) old.file

pub load_there : (published : List Publication) (now : Option Naming) (last : List Row) (mine : Bool) (load : Option Loading)
    → LoadOf published now last mine load → IfSome load (IsLoaded published)
load_there published now last mine None l = tt
load_there published now last mine (Some load) l = l.loaded

-- what is kept is safe
pub safe_from_sane : (w : WorldData) → IsSane w → IsSafe w
safe_from_sane w s = record {
  loaded = λ who. load_there w.published w.docket (last_of w).rows (holds w.holder who) (actor_of w who).load (s.held who).load;
  chain = s.chain;
  last = s.last;
  stands = stands_there w.files w.docket (last_of w).rows s.stands;
  kept =
      All-weaker (λ p. OldOf w.files w.docket (last_of w).rows p.docket p.rows) (λ p. IsKept w.files p.docket p.rows)
      (λ p old. kept_there w.files w.docket (last_of w).rows p.docket p.rows old) w.published s.kept;
}

pub always_safe : (actors : ℕ) (events : List Event) (w : WorldData) → Reaches actors events w → IsSafe w
always_safe actors events w r = safe_from_sane w (reached_sane actors events w r)

-- publications that are those of before and maybe more
abbrev pub Grows : List Publication → List Publication → Type 0
Grows old new = (more : List Publication) × (new ≡ old ++ more)

pub grows_same : (old new : List Publication) → new ≡ old → Grows old new
grows_same old new e = ([], e ∙ sym (append-nil old))

pub appended_published : (who : ℕ) (change : List Row) (load : Option Loading) (w : WorldData) → (appended_behind who change load w).published ≡ w.published
appended_published who change None w = refl
appended_published who change (Some load) w = at load.docket
  where
    at : (docket : Option Naming) → (appended_to who change docket w).published ≡ w.published
    at None = refl
    at (Some docket) = refl

pub made_published : (who : ℕ) (change rows : List Row) (load : Option Loading) (w : WorldData) → (made who change rows load w).published ≡ w.published
made_published who change rows None w = refl
made_published who change rows (Some load) w = at (next_id load.docket)
  where
    at : (id : Option ℕ) → (made_as who change rows id w).published ≡ w.published
    at None = refl
    at (Some id) = refl

pub dropped_published : (who : ℕ) (spare : Option ℕ) (w : WorldData) → (dropped who spare w).published ≡ w.published
dropped_published who None w = refl
dropped_published who (Some id) w = refl

pub swapped_grows : (who : ℕ) (writing : Option Writing) (w : WorldData) → Grows w.published (swapped who writing w).published
swapped_grows who None w = grows_same w.published w.published refl
swapped_grows who (Some writing) w =
    (record { docket = Some writing.docket; change = writing.change; rows = take writing.docket.used (rows_in w.files writing.docket.id) } ∷ [], refl)

pub event_grows : (event : Event) (old new : WorldData) → Makes event old new → Grows old.published new.published
event_grows (an_event.ReadDocket who) old new m = grows_same old.published new.published (ap (λ (w : WorldData). w.published) m)
event_grows (an_event.ReadData who) old new m = grows_same old.published new.published (ap (λ (w : WorldData). w.published) m)
event_grows (an_event.Lock who) old new m = grows_same old.published new.published (ap (λ (w : WorldData). w.published) m)
event_grows (an_event.Append who change) old new m =
    grows_same old.published new.published (ap (λ (w : WorldData). w.published) m ∙ appended_published who change (actor_of old who).load old)
event_grows (an_event.NewFile who change) old new m =
    grows_same old.published new.published (ap (λ (w : WorldData). w.published) m.2 ∙ made_published who change m.0 (actor_of old who).load old)
event_grows (an_event.Swap who) old new m =
    let more = swapped_grows who (actor_of old who).writing old in
    (more.0, ap (λ (w : WorldData). w.published) m ∙ more.1)
event_grows (an_event.Drop who) old new m =
    grows_same old.published new.published (ap (λ (w : WorldData). w.published) m ∙ dropped_published who (actor_of old who).spare old)
event_grows (an_event.Unlock who) old new m = grows_same old.published new.published (ap (λ (w : WorldData). w.published) m)
event_grows (an_event.Die who) old new m = grows_same old.published new.published (ap (λ (w : WorldData). w.published) m)

pub events_grow : (events : List Event) (old new : WorldData) → RunsEach Happens events old new → Grows old.published new.published
events_grow [] old new runs = grows_same old.published new.published (ap (λ (w : WorldData). w.published) runs)
events_grow (event ∷ events) old new runs =
    let one = event_grows event old runs.0 runs.1.1 in
    let rest = events_grow events runs.0 new runs.2 in
    (one.0 ++ rest.0, rest.1 ∙ ap (λ (l : List Publication). l ++ rest.0) one.1 ∙ append_assoc old.published one.0 rest.0)

pub none_is_lost : NoneIsLost
none_is_lost actors events later w v r runs = events_grow later w v runs

-- the last publication of a world stands at its number in a later one
pub last_stays : (w v : WorldData) → IsSane w → Grows w.published v.published → (n : ℕ) × (length w.published ≡ suc n) × (slice_get v.published n ≡ Some (last_of w))
last_stays w v s grows =
    let place = last_number first_publication first_publication w.published s.chain.first in (
      place.0,
      place.1,
      subst (λ (l : List Publication). slice_get l place.0 ≡ Some (last_of w)) (sym grows.1)
          (slice_get-append w.published grows.0 place.0 (last_of w) place.2),
    )

pub rows_stay : RowsStay
rows_stay actors events later w v r runs =
    let s = reached_sane actors events w r in
    let t = events_sane later w v runs s in
    let place = last_stays w v s (events_grow later w v runs) in
    let old = old_at v.files v.docket (last_of v).rows v.published t.kept place.0 (last_of w) place.2 in
    subst (λ (d : Option Naming). IsKept v.files d (last_of w).rows) s.last (kept_there v.files v.docket (last_of v).rows (last_of w).docket (last_of w).rows old)

-- an actor that lives has a place
pub has_place : (actors : List Actor) (who : ℕ) → (get_or actors who nobody).dead ≡ false → who < length actors
has_place actors who alive =
    elim (cases_lt who (length actors)) [
      | inl within ↦ within
      | inr past ↦ absurd (true≢false (sym (ap (λ (a : Actor). a.dead) (get_or_past actors who nobody past)) ∙ alive))
    ]

pub is_alive : (w : WorldData) (event : Event) → is_enabled w event ≡ true → (actor_of w (who_of event)).dead ≡ false
is_alive w event e = not-true (actor_of w (who_of event)).dead
    (and_parts (not (actor_of w (who_of event)).dead) (is_ready w.holder (actor_of w (who_of event)) event) e).0

-- an actor with a new state has it
pub actor_now : (w : WorldData) (who : ℕ) (actor : Actor) → (actor_of w who).dead ≡ false → get_or (set w.actors who actor) who nobody ≡ actor
actor_now w who actor alive = get_or-set_same w.actors who actor nobody (has_place w.actors who alive)

-- a docket that was read is this one, where there is one
abbrev pub Remembers : Option Naming → ℕ → Option Reading → Type 0
Remembers docket count None = ⊤
Remembers docket count (Some reading) = (reading.docket ≡ docket) × (reading.count ≡ count)

pub outside_remembers : (docket : Option Naming) (count : ℕ) (reading : Option Reading) → Remembers docket count reading
    → Remembers docket count (option_map outside_lock reading)
outside_remembers docket count None r = tt
outside_remembers docket count (Some reading) r = r

module _ (docket : Option Naming) (count who : ℕ) where
  -- what one actor remembers of a list of actors
  abbrev pub Knows : List Actor → Type 0
  Knows actors = Remembers docket count (get_or actors who nobody).reading

  -- another state of one actor, which remembers what it did
  pub knows_set : (actors : List Actor) (one : ℕ) (actor : Actor) → (one ≡ who → Remembers docket count actor.reading) → Knows actors → Knows (set actors one actor)
  knows_set actors one actor mine knows =
      each_actor (λ (other : ℕ) (a : Actor). other ≡ who → Remembers docket count a.reading) actors one actor nobody mine
      (λ other apart e. subst (λ (k : ℕ). Remembers docket count (get_or actors k nobody).reading) (sym e) knows) (λ other e. tt) who refl

  pub knows_same : (old : WorldData) (one : ℕ) (actor : Actor) → actor.reading ≡ (actor_of old one).reading → Knows old.actors → Knows (set old.actors one actor)
  knows_same old one actor same knows =
      knows_set old.actors one actor
      (λ e. subst (Remembers docket count) (sym same) (subst (λ (k : ℕ). Remembers docket count (get_or old.actors k nobody).reading) (sym e) knows)) knows

  pub knows_appended : (one : ℕ) (change : List Row) (load : Option Loading) (old : WorldData) → Knows old.actors
      → Knows (appended_behind one change load old).actors
  knows_appended one change None old knows = knows
  knows_appended one change (Some load) old knows = at load.docket
    where
      at : (d : Option Naming) → Knows (appended_to one change d old).actors
      at None = knows
      at (Some d) =
          let rows = take d.used (rows_in old.files d.id) ++ change in
          knows_same old one (record (actor_of old one) {
            writing = Some
                (record { docket = record { id = d.id; used = length rows }; change = change; fresh = false });
          }) refl knows

  pub knows_made : (one : ℕ) (change rows : List Row) (load : Option Loading) (old : WorldData) → Knows old.actors → Knows (made one change rows load old).actors
  knows_made one change rows None old knows = knows
  knows_made one change rows (Some load) old knows = at (next_id load.docket)
    where
      at : (id : Option ℕ) → Knows (made_as one change rows id old).actors
      at None = knows
      at (Some id) = knows_same old one (record (actor_of old one) {
        writing = Some
            (record { docket = record { id = id; used = length rows }; change = change; fresh = true });
      }) refl knows

  pub knows_swapped : (one : ℕ) (writing : Option Writing) (old : WorldData) → Knows old.actors → Knows (swapped one writing old).actors
  knows_swapped one None old knows = knows
  knows_swapped one (Some writing) old knows = knows_set old.actors one (published_now old.docket writing.fresh (actor_of old one)) (λ e. tt) knows

  pub knows_dropped : (one : ℕ) (spare : Option ℕ) (old : WorldData) → Knows old.actors → Knows (dropped one spare old).actors
  knows_dropped one None old knows = knows
  knows_dropped one (Some id) old knows = knows_same old one (record (actor_of old one) { spare = None }) refl knows

  -- each event but the actor's own reading leaves what it remembers
  pub knows_event : (event : Event) (old new : WorldData) → not (is_read who event) ≡ true → Makes event old new → Knows old.actors → Knows new.actors
  knows_event (an_event.ReadDocket one) old new other m knows =
      subst Knows (sym (ap (λ (w : WorldData). w.actors) m))
      (knows_set old.actors one (with_docket old.docket (length old.published) (holds old.holder one) (actor_of old one))
      (λ e. absurd (both_ways (eqb one who) (not-true (eqb one who) other) (eq-eqb one who e))) knows)
  knows_event (an_event.ReadData one) old new other m knows =
      subst Knows (sym (ap (λ (w : WorldData). w.actors) m))
      (knows_set old.actors one (data_seen old.files (actor_of old one).reading (actor_of old one))
      (λ e. absurd (both_ways (eqb one who) (not-true (eqb one who) other) (eq-eqb one who e))) knows)
  knows_event (an_event.Lock one) old new other m knows =
      subst Knows (sym (ap (λ (w : WorldData). w.actors) m))
      (knows_set old.actors one (locked_now (actor_of old one))
      (λ e. outside_remembers docket count (actor_of old one).reading
      (subst (λ (k : ℕ). Remembers docket count (get_or old.actors k nobody).reading) (sym e) knows)) knows)
  knows_event (an_event.Append one change) old new other m knows =
      subst Knows (sym (ap (λ (w : WorldData). w.actors) m)) (knows_appended one change (actor_of old one).load old knows)
  knows_event (an_event.NewFile one change) old new other m knows =
      subst Knows (sym (ap (λ (w : WorldData). w.actors) m.2)) (knows_made one change m.0 (actor_of old one).load old knows)
  knows_event (an_event.Swap one) old new other m knows =
      subst Knows (sym (ap (λ (w : WorldData). w.actors) m)) (knows_swapped one (actor_of old one).writing old knows)
  knows_event (an_event.Drop one) old new other m knows =
      subst Knows (sym (ap (λ (w : WorldData). w.actors) m)) (knows_dropped one (actor_of old one).spare old knows)
  knows_event (an_event.Unlock one) old new other m knows =
      subst Knows (sym (ap (λ (w : WorldData). w.actors) m)) (knows_same old one (given_back (actor_of old one)) refl knows)
  knows_event (an_event.Die one) old new other m knows =
      subst Knows (sym (ap (λ (w : WorldData). w.actors) m)) (knows_same old one (record (given_back (actor_of old one)) { dead = true }) refl knows)

  pub knows_events : (events : List Event) (old new : WorldData) → list_all (λ event. not (is_read who event)) events ≡ true
      → RunsEach Happens events old new → Knows old.actors → Knows new.actors
  knows_events [] old new other runs knows = subst (λ (w : WorldData). Knows w.actors) (sym runs) knows
  knows_events (event ∷ events) old new other runs knows =
      let parts = and_parts (not (is_read who event)) (list_all (λ event. not (is_read who event)) events) other in
      knows_events events runs.0 new parts.1 runs.2 (knows_event event old runs.0 parts.0 runs.1.1 knows)

-- a reading of data that found the file is a load of the docket that was remembered
pub loads_remembered : (files : Files) (docket : Option Naming) (count : ℕ) (actor : Actor) (reading : Option Reading)
    → Remembers docket count reading → is_some reading ≡ true
    → (data_seen files reading actor).missed ≡ false
    → (load : Loading) × ((data_seen files reading actor).load ≡ Some load) × (load.docket ≡ docket) × (load.count ≡ count)
loads_remembered files docket count actor None r some found = absurd (true≢false (sym some))
loads_remembered files docket count actor (Some reading) r some found = at (front_of files reading.docket) found
  where
    at : (front : Option (List Row)) → (with_data reading front actor).missed ≡ false
        → (load : Loading) × ((with_data reading front actor).load ≡ Some load) × (load.docket ≡ docket) × (load.count ≡ count)
    at None found = absurd (true≢false found)
    at (Some rows) found = (record { docket = reading.docket; rows = rows; count = reading.count; locked = reading.locked }, refl, r.0, r.1)

pub loads_what_stood : LoadsWhatStood
loads_what_stood actors events w r who v read between other u x runs loads found =
    let s = reached_sane actors events w r in
    let sv = event_sane (an_event.ReadDocket who) w v read s in
    let su = events_sane between v u runs sv in
    let sx = event_sane (an_event.ReadData who) u x loads su in
    let alive = is_alive w (an_event.ReadDocket who) read.0 in
    let knows : Remembers w.docket (length w.published) (actor_of v who).reading =
    subst (λ (a : Actor). Remembers w.docket (length w.published) a.reading)
    (sym (ap (λ (z : WorldData). actor_of z who) read.1 ∙ actor_now w who
    (with_docket w.docket (length w.published) (holds w.holder who) (actor_of w who)) alive)) (refl, refl)
    in
    let later = knows_events w.docket (length w.published) who between v u other runs knows in
    let now : actor_of x who ≡ data_seen u.files (actor_of u who).reading (actor_of u who) =
    ap (λ (z : WorldData). actor_of z who) loads.1
    ∙ actor_now u who (data_seen u.files (actor_of u who).reading (actor_of u who)) (is_alive u (an_event.ReadData who) loads.0)
    in
    let loaded =
    loads_remembered u.files w.docket (length w.published) (actor_of u who) (actor_of u who).reading later (was_ready u (an_event.ReadData who) loads.0)
    (sym (ap (λ (a : Actor). a.missed) now) ∙ found)
    in
    let has : (actor_of x who).load ≡ Some loaded.0 = ap (λ (a : Actor). a.load) now ∙ loaded.1 in
    let is : IsLoaded x.published loaded.0 = subst (λ (l : Option Loading). IfSome l (IsLoaded x.published)) has ((safe_from_sane x sx).loaded who) in
    let one = event_grows (an_event.ReadDocket who) w v read.1 in
    let two = events_grow between v u runs in
    let three = event_grows (an_event.ReadData who) u x loads.1 in
    let grows : Grows w.published x.published = (
      one.0 ++ (two.0 ++ three.0),
      three.1
          ∙ ap (λ (l : List Publication). l ++ three.0) (two.1 ∙ ap (λ (l : List Publication). l ++ two.0) one.1)
          ∙ append_assoc (w.published ++ one.0) two.0 three.0
          ∙ append_assoc w.published one.0 (two.0 ++ three.0),
    )
    in
    let place = last_stays w x s grows in
    let number : is.number ≡ place.0 = omega (arith, is.last, loaded.3, place.1) in
    let same : is.publication ≡ last_of w =
    same_Some is.publication (last_of w) (sym (subst (λ (k : ℕ). slice_get x.published k ≡ Some is.publication) number is.is) ∙ place.2)
    in
    (loaded.0, has, loaded.2, sym is.same_rows ∙ ap (λ (p : Publication). p.rows) same)

pub goes_on : GoesOn
goes_on (an_event.ReadDocket who) w e = (docket_read who w, refl)
goes_on (an_event.ReadData who) w e = (data_read who w, refl)
goes_on (an_event.Lock who) w e = (lock_taken who w, refl)
goes_on (an_event.Append who change) w e = (appended who change w, refl)
goes_on (an_event.NewFile who change) w e =
    let before = rows_behind (actor_of w who).load in
    let rows = compact (before ++ change) in
    (made_anew who change rows w, (rows, compact_behind before change, refl))
goes_on (an_event.Swap who) w e = (docket_swapped who w, refl)
goes_on (an_event.Drop who) w e = (spare_dropped who w, refl)
goes_on (an_event.Unlock who) w e = (lock_given who w, refl)
goes_on (an_event.Die who) w e = (died who w, refl)
