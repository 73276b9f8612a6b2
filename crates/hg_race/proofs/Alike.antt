-- Worlds that differ in the order of rows alone stay so.
use Rattle.std.proofs.Common.{ℕ, zero, suc, ◌≡◌, ◌+◌, inl, inr, Bool, true, false, cond, not, ◌&&◌, List, [], ◌∷◌, ◌++◌, length, map, set, get_or, take, Option, Some, None, refl, sym, ap, subst, ◌∙◌, eqb}
use Rattle.std.specs.Option.{option_map}
use Rattle.std.specs.Prelude.{is_none, is_some, slice_get}
use Rattle.std.proofs.lemmas.Bool.{and_parts, cases_Bool, cond-true, cond-false, not-true, true≢false}
use Rattle.std.proofs.lemmas.List.{length-map, map-append, map-set}
use Rattle.std.proofs.lemmas.Option.{none-some, same_Some}
use Rattle.hg_base.specs.Runs.{RunsEach}
use Rattle.hg_race.specs.Enabled.{is_enabled, is_ready, is_renewable, next_id, takes_more, who_of}
use Rattle.hg_race.specs.Orders.{OneSchedule, shown}
use Rattle.hg_race.specs.Publishes.{IsPoised}
use Rattle.hg_race.specs.Rows.{Entries, HoldsEach, Row, edited, empty_map, map_of}
use Rattle.hg_race.specs.Safe.{IsChain}
use Rattle.hg_race.specs.Steps.{Happens, Reaches, appended, data_seen, docket_behind, given_back, loaded_map, locked_now, loaded_outside_lock, made_anew, publication_of, published_now, renewed, spare_dropped, docket_swapped, dropped, swapped, with_data, with_docket, written}
use Rattle.hg_race.specs.World.{WorldData, actor_of, first_publication, front_of, holds, last_of, last_or, nobody, start, with_file}
use Rattle.hg_race.specs.declared.event.Event.{Event}
use Rattle.hg_race.specs.declared.event.Event.TheVariants as an_event
use Rattle.hg_race.specs.declared.actor.Actor.{Actor}
use Rattle.hg_race.specs.declared.actor.Loading.{Loading}
use Rattle.hg_race.specs.declared.parts.Naming.{Naming}
use Rattle.hg_race.specs.declared.parts.Publication.{Publication}
use Rattle.hg_race.specs.declared.actor.Reading.{Reading}
use Rattle.hg_race.specs.declared.actor.Writing.{Writing}
use Rattle.hg_race.proofs.Copying.{none_is}
use Rattle.hg_race.proofs.Counting.{as_many}
use Rattle.hg_race.proofs.Going.{event_sane, reached_sane, start_sane, was_ready}
use Rattle.hg_race.proofs.Looking.{holder_is}
use Rattle.hg_race.proofs.Poised.{append_is, append_of, append_rows, append_used, file_is, file_of, load_stands}
use Rattle.hg_race.proofs.Sane.{IsSane}

-- a load without its rows
abbrev pub blank : Loading → Loading
blank load = record load { rows = [] }

-- what an actor knows without the rows that it loaded
abbrev pub known : Actor → Actor
known actor = record actor { load = option_map blank actor.load }

-- a publication without its rows
abbrev pub told : Publication → Publication
told publication = record publication { rows = [] }

-- two worlds are alike but for rows
pub record AreAlike (w v : WorldData) : Type 0 where
  pub actors : map known w.actors ≡ map known v.actors
  pub files : (id : ℕ) → is_some (w.files id) ≡ is_some (v.files id)
  pub docket : w.docket ≡ v.docket
  pub holder : w.holder ≡ v.holder
  pub published : map told w.published ≡ map told v.published

-- the actor of a number in a list that was mapped
pub known_at : (actors : List Actor) (who : ℕ) → get_or (map known actors) who nobody ≡ known (get_or actors who nobody)
known_at [] who = refl
known_at (actor ∷ actors) zero = refl
known_at (actor ∷ actors) (suc who) = known_at actors who

pub actors_alike : (w v : WorldData) → AreAlike w v → (who : ℕ) → known (actor_of w who) ≡ known (actor_of v who)
actors_alike w v a who = sym (known_at w.actors who) ∙ ap (λ (l : List Actor). get_or l who nobody) a.actors ∙ known_at v.actors who

-- what an event asks of a load is not in its rows
pub takes_more_blank : (load : Option Loading) → takes_more (option_map blank load) ≡ takes_more load
takes_more_blank None = refl
takes_more_blank (Some load) = refl

pub is_renewable_blank : (load : Option Loading) → is_renewable (option_map blank load) ≡ is_renewable load
is_renewable_blank None = refl
is_renewable_blank (Some load) = refl

pub ready_known : (holder : Option ℕ) (actor : Actor) (event : Event) → is_ready holder (known actor) event ≡ is_ready holder actor event
ready_known holder actor (an_event.ReadDocket who) = refl
ready_known holder actor (an_event.ReadData who) = refl
ready_known holder actor (an_event.Lock who) = refl
ready_known holder actor (an_event.Append who change) = ap (λ (t : Bool). holds holder who && (t && is_none actor.writing)) (takes_more_blank actor.load)
ready_known holder actor (an_event.NewFile who change) = ap (λ (t : Bool). holds holder who && (t && is_none actor.writing)) (is_renewable_blank actor.load)
ready_known holder actor (an_event.Swap who) = refl
ready_known holder actor (an_event.Drop who) = refl
ready_known holder actor (an_event.Unlock who) = refl
ready_known holder actor (an_event.Die who) = refl

-- the same events may come
pub enabled_alike : (w v : WorldData) → AreAlike w v → (event : Event) → is_enabled w event ≡ is_enabled v event
enabled_alike w v a event =
    ap (λ (t : Bool). not (actor_of w (who_of event)).dead && t) (sym (ready_known w.holder (actor_of w (who_of event)) event))
    ∙ ap (λ (k : Actor). not k.dead && is_ready w.holder k event) (actors_alike w v a (who_of event))
    ∙ ap (λ (h : Option ℕ). not (actor_of v (who_of event)).dead && is_ready h (known (actor_of v (who_of event))) event) a.holder
    ∙ ap (λ (t : Bool). not (actor_of v (who_of event)).dead && t) (ready_known v.holder (actor_of v (who_of event)) event)

-- one actor is new in both
pub actors_set : (w v : WorldData) → AreAlike w v → (who : ℕ) (one other : Actor) → known one ≡ known other
    → map known (set w.actors who one) ≡ map known (set v.actors who other)
actors_set w v a who one other same =
    map-set known w.actors who one ∙ ap (λ (l : List Actor). set l who (known one)) a.actors ∙ ap (λ (k : Actor). set (map known v.actors) who k) same
    ∙ sym (map-set known v.actors who other)

-- reading a docket again looks at no row
pub renewed_blank : (docket : Option Naming) (mine : Bool) (load : Option Loading)
    → option_map blank (option_map (renewed docket mine) load) ≡ option_map (renewed docket mine) (option_map blank load)
renewed_blank docket mine None = refl
renewed_blank docket mine (Some load) = refl

pub with_docket_known : (docket : Option Naming) (count : ℕ) (mine : Bool) (actor : Actor)
    → known (with_docket docket count mine actor) ≡ with_docket docket count mine (known actor)
with_docket_known docket count mine actor =
    ap (λ (l : Option Loading). record actor { reading = Some (record { docket = docket; count = count; locked = mine }); load = l })
    (renewed_blank docket mine actor.load)

pub with_docket_alike : (docket other : Option Naming) (count more : ℕ) (mine theirs : Bool) (one two : Actor) → docket ≡ other → count ≡ more → mine ≡ theirs
    → known one ≡ known two → known (with_docket docket count mine one) ≡ known (with_docket other more theirs two)
with_docket_alike docket other count more mine theirs one two d n m k =
    with_docket_known docket count mine one ∙ (λ i. with_docket (d i) (n i) (m i) (k i)) ∙ sym (with_docket_known other more theirs two)

-- as many were published
pub counts_alike : (w v : WorldData) → AreAlike w v → length w.published ≡ length v.published
counts_alike w v a = sym (length-map w.published told) ∙ ap (λ (l : List Publication). length l) a.published ∙ length-map v.published told

pub outside_blank : (load : Option Loading) → option_map blank (option_map loaded_outside_lock load) ≡ option_map loaded_outside_lock (option_map blank load)
outside_blank None = refl
outside_blank (Some load) = refl

pub locked_now_known : (actor : Actor) → known (locked_now actor) ≡ locked_now (known actor)
locked_now_known actor = ap (λ (l : Option Loading). record (locked_now actor) { load = l }) (outside_blank actor.load)

-- no rows where there are some
abbrev pub emptied : Option (List Row) → Option (List Row)
emptied rows = option_map (λ some. []) rows

pub with_data_known : (reading : Reading) (front : Option (List Row)) (actor : Actor)
    → known (with_data reading front actor) ≡ with_data reading (emptied front) (known actor)
with_data_known reading None actor = refl
with_data_known reading (Some rows) actor = refl

pub emptied_alike : (n : ℕ) (a b : Option (List Row)) → is_some a ≡ is_some b → emptied (option_map (take n) a) ≡ emptied (option_map (take n) b)
emptied_alike n None None e = refl
emptied_alike n None (Some b) e = absurd (true≢false (sym e))
emptied_alike n (Some a) None e = absurd (true≢false e)
emptied_alike n (Some a) (Some b) e = refl

pub front_alike : (w v : WorldData) → AreAlike w v → (docket : Option Naming) → emptied (front_of w.files docket) ≡ emptied (front_of v.files docket)
front_alike w v a None = refl
front_alike w v a (Some docket) = emptied_alike docket.used (w.files docket.id) (v.files docket.id) (a.files docket.id)

pub data_seen_alike : (w v : WorldData) → AreAlike w v → (reading : Option Reading) (one other : Actor) → known one ≡ known other
    → known (data_seen w.files reading one) ≡ known (data_seen v.files reading other)
data_seen_alike w v a None one other same = same
data_seen_alike w v a (Some reading) one other same =
    with_data_known reading (front_of w.files reading.docket) one
    ∙ ap (λ (k : Actor). with_data reading (emptied (front_of w.files reading.docket)) k) same
    ∙ ap (λ (f : Option (List Row)). with_data reading f (known other)) (front_alike w v a reading.docket)
    ∙ sym (with_data_known reading (front_of v.files reading.docket) other)

-- a file that is written or removed in both
pub put_alike : (w v : WorldData) → AreAlike w v → (id : ℕ) (rows others : Option (List Row)) → is_some rows ≡ is_some others → (other : ℕ)
    → is_some (with_file id rows w.files other) ≡ is_some (with_file id others v.files other)
put_alike w v a id rows others same other =
    let P : Option (List Row) → Bool = λ o. is_some o in
    elim (cases_Bool (eqb id other)) [
      | inl here ↦ ap P (cond-true (eqb id other) rows (w.files other) here) ∙ same ∙ sym (ap P (cond-true (eqb id other) others (v.files other) here))
      | inr apart ↦ ap P (cond-false (eqb id other) rows (w.files other) apart) ∙ a.files other ∙ sym (ap P (cond-false (eqb id other) others (v.files other) apart))
    ]

pub written_alike : (w v : WorldData) → AreAlike w v → (who : ℕ) (one other : Writing) → one ≡ other → (rows others : List Row)
    → AreAlike (written who one rows w) (written who other others v)
written_alike w v a who one other same rows others = record {
  actors = actors_set w v a who (record (actor_of w who) { writing = Some one }) (record (actor_of v who) { writing = Some other })
      (ap (λ (k : Actor). record k { writing = Some one }) (actors_alike w v a who)
      ∙ ap (λ (x : Writing). record (known (actor_of v who)) { writing = Some x }) same);
  files = λ id. put_alike w v a one.docket.id (Some rows) (Some others) refl id
      ∙ ap (λ (k : ℕ). is_some (with_file k (Some others) v.files id)) (ap (λ (x : Writing). x.docket.id) same);
  docket = a.docket;
  holder = a.holder;
  published = a.published;
}

pub swapped_alike : (w v : WorldData) → AreAlike w v → (who : ℕ) (writing : Option Writing) → AreAlike (swapped who writing w) (swapped who writing v)
swapped_alike w v a who None = a
swapped_alike w v a who (Some writing) = record {
  actors = actors_set w v a who (published_now w.docket writing.fresh (actor_of w who)) (published_now v.docket writing.fresh (actor_of v who))
      (ap (λ (k : Actor). published_now w.docket writing.fresh k) (actors_alike w v a who)
      ∙ ap (λ (d : Option Naming). published_now d writing.fresh (known (actor_of v who))) a.docket);
  files = a.files;
  docket = refl;
  holder = a.holder;
  published =
      map-append told w.published (publication_of w.files writing ∷ [])
      ∙ ap (λ (l : List Publication). l ++ record { docket = Some writing.docket; change = writing.change; rows = [] } ∷ []) a.published
      ∙ sym (map-append told v.published (publication_of v.files writing ∷ []));
}

pub dropped_alike : (w v : WorldData) → AreAlike w v → (who : ℕ) (spare : Option ℕ) → AreAlike (dropped who spare w) (dropped who spare v)
dropped_alike w v a who None = a
dropped_alike w v a who (Some id) = record {
  actors = actors_set w v a who (record (actor_of w who) { spare = None }) (record (actor_of v who) { spare = None })
      (ap (λ (k : Actor). record k { spare = None }) (actors_alike w v a who));
  files = λ other. put_alike w v a id None None refl other;
  docket = a.docket;
  holder = a.holder;
  published = a.published;
}

-- the maps that were published are made of the changes alone
pub maps_from : (before other : Publication) → map_of before.rows ≡ map_of other.rows → (ps qs : List Publication) → map told ps ≡ map told qs
    → ((number : ℕ) (one next : Publication) → slice_get (before ∷ ps) number ≡ Some one → slice_get (before ∷ ps) (suc number) ≡ Some next
    → map_of next.rows ≡ edited next.change (map_of one.rows))
    → ((number : ℕ) (one next : Publication) → slice_get (other ∷ qs) number ≡ Some one → slice_get (other ∷ qs) (suc number) ≡ Some next
    → map_of next.rows ≡ edited next.change (map_of one.rows))
    → map shown ps ≡ map shown qs
maps_from before other same [] [] told_same p_next q_next = refl
maps_from before other same [] (q ∷ qs) told_same p_next q_next = absurd (cc)
maps_from before other same (p ∷ ps) [] told_same p_next q_next = absurd (cc)
maps_from before other same (p ∷ ps) (q ∷ qs) told_same p_next q_next =
    let heads : told p ≡ told q = cc in
    let tails : map told ps ≡ map told qs = cc in
    let here : map_of p.rows ≡ map_of q.rows =
    p_next 0 before p refl refl ∙ ap (λ (x : Publication). edited x.change (map_of before.rows)) heads ∙ ap (λ (m : Entries). edited q.change m) same
    ∙ sym (q_next 0 other q refl refl)
    in
    ap (λ (m : Entries). m ∷ map shown ps) here
    ∙ ap (λ (l : List Entries). map_of q.rows ∷ l) (maps_from p q here ps qs tails (λ n one next a b. p_next (suc n) one next a b)
    (λ n one next a b. q_next (suc n) one next a b))

pub maps_of_chains : (ps qs : List Publication) → IsChain ps → IsChain qs → map told ps ≡ map told qs → map shown ps ≡ map shown qs
maps_of_chains [] qs a b told_same = absurd (none-some first_publication a.first)
maps_of_chains (p ∷ ps) [] a b told_same = absurd (none-some first_publication b.first)
maps_of_chains (p ∷ ps) (q ∷ qs) a b told_same =
    let here : map_of p.rows ≡ map_of q.rows =
    ap (λ (x : Publication). map_of x.rows) (same_Some p first_publication a.first ∙ sym (same_Some q first_publication b.first))
    in
    ap (λ (m : Entries). m ∷ map shown ps) here
    ∙ ap (λ (l : List Entries). map_of q.rows ∷ l) (maps_from p q here ps qs (cc) a.next b.next)

-- and the last of them
abbrev pub last_entries : Entries → List Entries → Entries
last_entries before [] = before
last_entries before (next ∷ more) = last_entries next more

pub last_shown : (before : Publication) (ps : List Publication) → map_of (last_or before ps).rows ≡ last_entries (map_of before.rows) (map shown ps)
last_shown before [] = refl
last_shown before (p ∷ ps) = last_shown p ps

pub maps_alike : (w v : WorldData) → IsSane w → IsSane v → AreAlike w v → map shown w.published ≡ map shown v.published
maps_alike w v s t a = maps_of_chains w.published v.published s.chain t.chain a.published

pub last_alike : (w v : WorldData) → IsSane w → IsSane v → AreAlike w v → map_of (last_of w).rows ≡ map_of (last_of v).rows
last_alike w v s t a =
    last_shown first_publication w.published ∙ ap (λ (l : List Entries). last_entries empty_map l) (maps_alike w v s t a)
    ∙ sym (last_shown first_publication v.published)

-- who may write is poised
pub poised_load : (w : WorldData) (who : ℕ) (event : Event) → who_of event ≡ who → is_enabled w event ≡ true → holds w.holder who ≡ true
    → (load : Option Loading) → (actor_of w who).load ≡ load
    → ((l : Loading) → load ≡ Some l → l.locked ≡ true) → is_some load ≡ true → is_none (actor_of w who).writing ≡ true → IsPoised w who
poised_load w who event whose enabled mine None has locked some unwritten = absurd (true≢false (sym some))
poised_load w who event whose enabled mine (Some l) has locked some unwritten = record {
  alive = subst (λ (k : ℕ). (actor_of w k).dead ≡ false) whose
      (not-true (actor_of w (who_of event)).dead (and_parts (not (actor_of w (who_of event)).dead) (is_ready w.holder (actor_of w (who_of event)) event) enabled).0);
  holder = holder_is w.holder who mine;
  load = l;
  loaded = has;
  locked = locked l refl;
  unwritten = none_is (actor_of w who).writing unwritten;
}

pub append_parts : (load : Option Loading) → takes_more load ≡ true
    → ((l : Loading) → load ≡ Some l → l.locked ≡ true) × (is_some load ≡ true) × ((docket : Naming) × (docket_behind load ≡ Some docket))
append_parts None e = absurd (true≢false (sym e))
append_parts (Some load) e = at load.docket refl
  where
    at : (docket : Option Naming) → load.docket ≡ docket
        → ((l : Loading) → Some load ≡ Some l → l.locked ≡ true) × (is_some (Some load) ≡ true) × ((d : Naming) × (load.docket ≡ Some d))
    at None is = absurd (true≢false (sym (and_parts load.locked (is_some load.docket) e).1 ∙ ap (λ (d : Option Naming). is_some d) is))
    at (Some docket) is =
        ((λ l same. subst (λ (x : Loading). x.locked ≡ true) (same_Some load l same) (and_parts load.locked (is_some load.docket) e).0), refl, (docket, is))

pub renewable_parts : (load : Option Loading) → is_renewable load ≡ true → ((l : Loading) → load ≡ Some l → l.locked ≡ true) × (is_some load ≡ true)
renewable_parts None e = absurd (true≢false (sym e))
renewable_parts (Some load) e =
    ((λ l same. subst (λ (x : Loading). x.locked ≡ true) (same_Some load l same) (and_parts load.locked (is_some (next_id load.docket)) e).0), refl)

pub renewable_next : (load : Loading) → is_renewable (Some load) ≡ true → (id : ℕ) × (next_id load.docket ≡ Some id)
renewable_next load e = at (next_id load.docket) (and_parts load.locked (is_some (next_id load.docket)) e).1
  where
    at : (id : Option ℕ) → is_some id ≡ true → (n : ℕ) × (id ≡ Some n)
    at None e = absurd (true≢false (sym e))
    at (Some n) e = (n, refl)

-- worlds that are alike, under their names
pub joined : {w w' v v' : WorldData} → w' ≡ w → v' ≡ v → AreAlike w v → AreAlike w' v'
joined {w = w} {w' = w'} {v = v} {v' = v'} p q a = subst (λ (z : WorldData). AreAlike z v') (sym p) (subst (AreAlike w) (sym q) a)

-- an append that may come, told by its docket
pub append_told : (w : WorldData) (who : ℕ) (change : List Row) → IsSane w → is_enabled w (an_event.Append who change) ≡ true
    → (docket : Naming) × (w.docket ≡ Some docket) × (appended who change w ≡ written who (append_of w docket change) (append_rows w docket change) w)
    × (append_of w docket change ≡ record { docket = record { id = docket.id; used = docket.used + length change }; change = change; fresh = false })
append_told w who change s enabled =
    let load = (actor_of w who).load in
    let asked = and_parts (holds w.holder who) (takes_more load && is_none (actor_of w who).writing) (was_ready w (an_event.Append who change) enabled) in
    let more = and_parts (takes_more load) (is_none (actor_of w who).writing) asked.1 in
    let parts = append_parts load more.0 in
    let poised = poised_load w who (an_event.Append who change) refl enabled asked.0 load refl parts.0 parts.1 more.1 in
    let docket = parts.2.0 in
    let now : w.docket ≡ Some docket = sym (load_stands w who s poised).0 ∙ sym (ap (λ (l : Option Loading). docket_behind l) poised.loaded) ∙ parts.2.1 in (
      docket,
      now,
      append_is w who poised s docket now change,
      ap (λ (n : ℕ). record { docket = record { id = docket.id; used = n }; change = change; fresh = false }) (append_used w s docket now change),
    )

-- the same append to worlds that are alike
pub append_same : (w v : WorldData) → IsSane w → IsSane v → AreAlike w v → (who : ℕ) (change : List Row)
    → is_enabled w (an_event.Append who change) ≡ true → is_enabled v (an_event.Append who change) ≡ true
    → AreAlike (appended who change w) (appended who change v)
append_same w v s t a who change e f =
    let one = append_told w who change s e in
    let other = append_told v who change t f in
    let dockets : one.0 ≡ other.0 = same_Some one.0 other.0 (sym one.1 ∙ a.docket ∙ other.1) in
    let same : append_of w one.0 change ≡ append_of v other.0 change =
    one.3 ∙ ap (λ (d : Naming). record { docket = record { id = d.id; used = d.used + length change }; change = change; fresh = false }) dockets ∙ sym other.3
    in
    subst (λ (z : WorldData). AreAlike z (appended who change v)) (sym one.2)
    (subst (AreAlike (written who (append_of w one.0 change) (append_rows w one.0 change) w)) (sym other.2)
    (written_alike w v a who (append_of w one.0 change) (append_of v other.0 change) same (append_rows w one.0 change) (append_rows v other.0 change)))

-- a new file that may be made, told by its identifier
abbrev pub FileIs : WorldData → ℕ → List Row → List Row → Type 0
FileIs w who change rows =
    (id : ℕ) × (next_id w.docket ≡ Some id) × (made_anew who change rows w ≡ written who (file_of id change rows) rows w)
    × (loaded_map (actor_of w who).load ≡ map_of (last_of w).rows)

pub file_by : (w : WorldData) (who : ℕ) (change rows : List Row) → IsSane w → (poised : IsPoised w who) → (id : ℕ) → next_id poised.load.docket ≡ Some id
    → FileIs w who change rows
file_by w who change rows s poised id next =
    let stands = load_stands w who s poised in
    let now : next_id w.docket ≡ Some id = ap next_id (sym stands.0) ∙ next in
    (id, now, file_is w who poised s id now change rows, ap (λ (l : Option Loading). loaded_map l) poised.loaded ∙ ap (λ (r : List Row). map_of r) stands.1)

pub file_told : (w : WorldData) (who : ℕ) (change rows : List Row) → IsSane w → is_enabled w (an_event.NewFile who change) ≡ true → FileIs w who change rows
file_told w who change rows s enabled =
    let load = (actor_of w who).load in
    let asked = and_parts (holds w.holder who) (is_renewable load && is_none (actor_of w who).writing) (was_ready w (an_event.NewFile who change) enabled) in
    let more = and_parts (is_renewable load) (is_none (actor_of w who).writing) asked.1 in
    let parts = renewable_parts load more.0 in
    let poised = poised_load w who (an_event.NewFile who change) refl enabled asked.0 load refl parts.0 parts.1 more.1 in
    let next = renewable_next poised.load (subst (λ (l : Option Loading). is_renewable l ≡ true) poised.loaded more.0) in
    file_by w who change rows s poised next.0 next.1

-- the same new file in worlds that are alike, in two orders
pub file_same : (w v : WorldData) → IsSane w → IsSane v → AreAlike w v → (who : ℕ) (change rows others : List Row)
    → is_enabled w (an_event.NewFile who change) ≡ true → is_enabled v (an_event.NewFile who change) ≡ true
    → HoldsEach rows (edited change (loaded_map (actor_of w who).load)) → HoldsEach others (edited change (loaded_map (actor_of v who).load))
    → AreAlike (made_anew who change rows w) (made_anew who change others v)
file_same w v s t a who change rows others e f one_holds other_holds =
    let one = file_told w who change rows s e in
    let other = file_told v who change others t f in
    let ids : one.0 ≡ other.0 = same_Some one.0 other.0 (sym one.1 ∙ ap next_id a.docket ∙ other.1) in
    let maps : loaded_map (actor_of v who).load ≡ loaded_map (actor_of w who).load = other.3 ∙ sym (last_alike w v s t a) ∙ sym one.3 in
    let used : length rows ≡ length others =
    as_many rows others (edited change (loaded_map (actor_of w who).load)) one_holds (subst (λ (m : Entries). HoldsEach others (edited change m)) maps other_holds)
    in
    let same : file_of one.0 change rows ≡ file_of other.0 change others =
    λ i. record { docket = record { id = ids i; used = used i }; change = change; fresh = true }
    in
    subst (λ (z : WorldData). AreAlike z (made_anew who change others v)) (sym one.2)
    (subst (AreAlike (written who (file_of one.0 change rows) rows w)) (sym other.2)
    (written_alike w v a who (file_of one.0 change rows) (file_of other.0 change others) same rows others))

-- worlds that are alike stay so by each event
pub event_alike : (event : Event) (w w' v v' : WorldData) → IsSane w → IsSane v → AreAlike w v → Happens event w w' → Happens event v v' → AreAlike w' v'
event_alike (an_event.ReadDocket who) w w' v v' s t a h k =
    joined h.1 k.1 (record {
      actors = actors_set w v a who (with_docket w.docket (length w.published) (holds w.holder who) (actor_of w who))
          (with_docket v.docket (length v.published) (holds v.holder who) (actor_of v who))
          (with_docket_alike w.docket v.docket (length w.published) (length v.published) (holds w.holder who) (holds v.holder who) (actor_of w who) (actor_of v who)
          a.docket (counts_alike w v a) (ap (λ (h : Option ℕ). holds h who) a.holder) (actors_alike w v a who));
      files = a.files;
      docket = a.docket;
      holder = a.holder;
      published = a.published;
    })
event_alike (an_event.ReadData who) w w' v v' s t a h k =
    let actors = actors_alike w v a who in
    let same =
    data_seen_alike w v a (actor_of w who).reading (actor_of w who) (actor_of v who) actors
    ∙ ap (λ (r : Option Reading). known (data_seen v.files r (actor_of v who))) (ap (λ (x : Actor). x.reading) actors)
    in
    joined h.1 k.1 (record {
      actors = actors_set w v a who (data_seen w.files (actor_of w who).reading (actor_of w who)) (data_seen v.files (actor_of v who).reading (actor_of v who)) same;
      files = a.files;
      docket = a.docket;
      holder = a.holder;
      published = a.published;
    })
event_alike (an_event.Lock who) w w' v v' s t a h k =
    let same = locked_now_known (actor_of w who) ∙ ap locked_now (actors_alike w v a who) ∙ sym (locked_now_known (actor_of v who)) in
    joined h.1 k.1 (record {
      actors = actors_set w v a who (locked_now (actor_of w who)) (locked_now (actor_of v who)) same;
      files = a.files;
      docket = a.docket;
      holder = refl;
      published = a.published;
    })
event_alike (an_event.Append who change) w w' v v' s t a h k = joined h.1 k.1 (append_same w v s t a who change h.0 k.0)
event_alike (an_event.NewFile who change) w w' v v' s t a h k = joined h.1.2 k.1.2 (file_same w v s t a who change h.1.0 k.1.0 h.0 k.0 h.1.1 k.1.1)
event_alike (an_event.Swap who) w w' v v' s t a h k =
    joined h.1 k.1
    (subst (λ (x : Option Writing). AreAlike (docket_swapped who w) (swapped who x v)) (ap (λ (x : Actor). x.writing) (actors_alike w v a who))
    (swapped_alike w v a who (actor_of w who).writing))
event_alike (an_event.Drop who) w w' v v' s t a h k =
    joined h.1 k.1
    (subst (λ (x : Option ℕ). AreAlike (spare_dropped who w) (dropped who x v)) (ap (λ (x : Actor). x.spare) (actors_alike w v a who))
    (dropped_alike w v a who (actor_of w who).spare))
event_alike (an_event.Unlock who) w w' v v' s t a h k =
    joined h.1 k.1 (record {
      actors = actors_set w v a who (given_back (actor_of w who)) (given_back (actor_of v who)) (ap (λ (x : Actor). given_back x) (actors_alike w v a who));
      files = a.files;
      docket = a.docket;
      holder = refl;
      published = a.published;
    })
event_alike (an_event.Die who) w w' v v' s t a h k =
    joined h.1 k.1 (record {
      actors = actors_set w v a who (record (given_back (actor_of w who)) { dead = true }) (record (given_back (actor_of v who)) { dead = true })
          (ap (λ (x : Actor). record (given_back x) { dead = true }) (actors_alike w v a who));
      files = a.files;
      docket = a.docket;
      holder = ap (λ (x : Option ℕ). cond (holds x who) None x) a.holder;
      published = a.published;
    })

pub events_alike : (events : List Event) (w w' v v' : WorldData) → IsSane w → IsSane v → AreAlike w v → RunsEach Happens events w w'
    → RunsEach Happens events v v' → AreAlike w' v'
events_alike [] w w' v v' s t a h k = joined h k a
events_alike (event ∷ events) w w' v v' s t a h k =
    events_alike events h.0 w' k.0 v' (event_sane event w h.0 h.1 s) (event_sane event v k.0 k.1 t) (event_alike event w h.0 v k.0 s t a h.1 k.1) h.2 k.2

pub reached_alike : (actors : ℕ) (events : List Event) (w v : WorldData) → Reaches actors events w → Reaches actors events v → AreAlike w v
reached_alike actors events w v r q =
    events_alike events (start actors) w (start actors) v (start_sane actors) (start_sane actors)
    (record { actors = refl; files = λ id. refl; docket = refl; holder = refl; published = refl }) r q

pub one_schedule : OneSchedule
one_schedule actors events w v r q =
    let a = reached_alike actors events w v r q in
    record {
      docket = a.docket;
      maps = maps_alike w v (reached_sane actors events w r) (reached_sane actors events v q) a;
      enabled = enabled_alike w v a;
    }
