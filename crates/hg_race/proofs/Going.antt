-- Each event keeps what is kept, and so does every list of events.
use Rattle.std.proofs.Common.{ℕ, ◌≡◌, ◌+◌, ◌^◌, inl, inr, true, false, not, ◌&&◌, List, [], ◌∷◌, ◌++◌, length, take, Option, Some, None, refl, sym, ap, subst, ◌∙◌, arith, ltb}
use Rattle.std.specs.Option.{unwrap_or}
use Rattle.std.specs.Prelude.{MatchOption, is_none, is_some}
use Rattle.std.proofs.lemmas.Bool.{and_parts}
use Rattle.std.proofs.lemmas.List.Elements.{All-cons, All-nil}
use Rattle.std.proofs.lemmas.Option.{cond_some, none-some}
use Rattle.hg_base.specs.Runs.{RunsEach}
use Rattle.hg_race.specs.Enabled.{is_enabled, is_ready, is_renewable, next_id, takes_more, who_of}
use Rattle.hg_race.specs.Rows.{BeginsWith, Row, edited, map_of}
use Rattle.hg_race.specs.Safe.{IsChain}
use Rattle.hg_race.specs.Steps.{Happens, Reaches, appended_behind, appended_to, loaded_map, made, made_as}
use Rattle.hg_race.specs.World.{WorldData, actor_of, first_publication, holds, last_of, rows_in, start}
use Rattle.hg_race.specs.declared.event.Event.{Event}
use Rattle.hg_race.specs.declared.event.Event.TheVariants as an_event
use Rattle.hg_race.specs.declared.actor.Loading.{Loading}
use Rattle.hg_race.specs.declared.parts.Naming.{Naming}
use Rattle.hg_race.proofs.Copying.{edited-append, none_is}
use Rattle.hg_race.proofs.Filing.{dropped_sane, written_sane}
use Rattle.hg_race.proofs.Holding.{idle_held}
use Rattle.hg_race.proofs.Locking.{data_read_sane, die_sane, docket_read_sane, lock_sane, unlock_sane}
use Rattle.hg_race.proofs.Looking.{begins_taken}
use Rattle.hg_race.proofs.Publishing.{swapped_sane}
use Rattle.hg_race.proofs.Sane.{ComesNext, IsSane, LoadOf, OldOf, StandsNow}

-- the first used rows of the file that the docket names are what was published last
pub rows_standing : (used : ℕ) (last : List Row) (file : Option (List Row)) → length last ≡ used → MatchOption file ⊥ (λ rows. BeginsWith rows last)
    → take used (unwrap_or file []) ≡ last
rows_standing used last None l stands = absurd stands
rows_standing used last (Some rows) l stands = begins_taken rows last used stands l

-- an append to the file of the docket that stands
pub appended_to_sane : (w : WorldData) (who : ℕ) (change : List Row) (docket : Option Naming) → docket ≡ w.docket → holds w.holder who ≡ true
    → IsSane w → IsSane (appended_to who change docket w)
appended_to_sane w who change None now mine s = s
appended_to_sane w who change (Some docket) now mine s =
    let stands : StandsNow w.files (Some docket) (last_of w).rows = subst (λ (d : Option Naming). StandsNow w.files d (last_of w).rows) (sym now) s.stands in
    let front : take docket.used (rows_in w.files docket.id) ≡ (last_of w).rows = rows_standing docket.used (last_of w).rows (w.files docket.id) stands.0 stands.1 in
    let rows = take docket.used (rows_in w.files docket.id) ++ change in
    written_sane w who (record { docket = record { id = docket.id; used = length rows }; change = change; fresh = false }) rows s mine refl
    (edited-append (take docket.used (rows_in w.files docket.id)) change (λ path. None) ∙ ap (λ (l : List Row). edited change (map_of l)) front)
    (subst (λ (d : Option Naming). ComesNext d (last_of w).rows docket.id false rows) now (inr (refl, (change, ap (λ (l : List Row). l ++ change) front), refl)))

pub appended_sane : (w : WorldData) (who : ℕ) (change : List Row) (load : Option Loading)
    → LoadOf w.published w.docket (last_of w).rows (holds w.holder who) load → holds w.holder who ≡ true
    → takes_more load ≡ true → IsSane w → IsSane (appended_behind who change load w)
appended_sane w who change None l mine may s = s
appended_sane w who change (Some load) l mine may s =
    appended_to_sane w who change load.docket (l.docket mine (and_parts load.locked (is_some load.docket) may).0) mine s

-- an identifier that is next is above
pub next_is_above : (now : Option Naming) (last : List Row) (id : ℕ) (rows : List Row) → next_id now ≡ Some id → ComesNext now last id true rows
next_is_above None last id rows e = tt
next_is_above (Some docket) last id rows e =
    let one : docket.id + 1 ≡ id = (cond_some (ltb (docket.id + 1) (2 ^ 64)) (docket.id + 1) id e).1 in
    inl (omega arith)

-- a new file behind a load of what stands
pub made_as_sane : (w : WorldData) (who : ℕ) (change rows : List Row) (id : Option ℕ) → next_id w.docket ≡ id
    → map_of rows ≡ edited change (map_of (last_of w).rows) → holds w.holder who ≡ true
    → IsSane w → IsSane (made_as who change rows id w)
made_as_sane w who change rows None e map mine s = s
made_as_sane w who change rows (Some id) e map mine s =
    written_sane w who (record { docket = record { id = id; used = length rows }; change = change; fresh = true }) rows s mine refl map
    (next_is_above w.docket (last_of w).rows id rows e)

pub made_sane : (w : WorldData) (who : ℕ) (change rows : List Row) (load : Option Loading)
    → LoadOf w.published w.docket (last_of w).rows (holds w.holder who) load → holds w.holder who ≡ true
    → is_renewable load ≡ true → map_of rows ≡ edited change (loaded_map load) → IsSane w → IsSane (made who change rows load w)
made_sane w who change rows None l mine may map s = s
made_sane w who change rows (Some load) l mine may map s =
    let locked = (and_parts load.locked (is_some (next_id load.docket)) may).0 in
    made_as_sane w who change rows (next_id load.docket) (ap next_id (sym (l.docket mine locked)))
    (map ∙ ap (λ (r : List Row). edited change (map_of r)) (l.held mine locked)) mine s

-- what an event asked
pub was_ready : (w : WorldData) (event : Event) → is_enabled w event ≡ true → is_ready w.holder (actor_of w (who_of event)) event ≡ true
was_ready w event e = (and_parts (not (actor_of w (who_of event)).dead) (is_ready w.holder (actor_of w (who_of event)) event) e).1

-- each event keeps what is kept
pub event_sane : (event : Event) (old new : WorldData) → Happens event old new → IsSane old → IsSane new
event_sane (an_event.ReadDocket who) old new h s = subst IsSane (sym h.1) (docket_read_sane old who s)
event_sane (an_event.ReadData who) old new h s = subst IsSane (sym h.1) (data_read_sane old who s)
event_sane (an_event.Lock who) old new h s =
    subst IsSane (sym h.1) (lock_sane old who (none_is old.holder (was_ready old (an_event.Lock who) h.0)) s)
event_sane (an_event.Append who change) old new h s =
    let load = (actor_of old who).load in
    let parts = and_parts (holds old.holder who) (takes_more load && is_none (actor_of old who).writing) (was_ready old (an_event.Append who change) h.0) in
    subst IsSane (sym h.1) (appended_sane old who change load (s.held who).load parts.0
    (and_parts (takes_more load) (is_none (actor_of old who).writing) parts.1).0 s)
event_sane (an_event.NewFile who change) old new h s =
    let load = (actor_of old who).load in
    let parts = and_parts (holds old.holder who) (is_renewable load && is_none (actor_of old who).writing) (was_ready old (an_event.NewFile who change) h.0) in
    subst IsSane (sym h.1.2)
    (made_sane old who change h.1.0 load (s.held who).load parts.0 (and_parts (is_renewable load) (is_none (actor_of old who).writing) parts.1).0 h.1.1.same s)
event_sane (an_event.Swap who) old new h s = subst IsSane (sym h.1) (swapped_sane old who (actor_of old who).writing (s.held who).write s)
event_sane (an_event.Drop who) old new h s = subst IsSane (sym h.1) (dropped_sane old who (actor_of old who).spare (s.held who).spare s)
event_sane (an_event.Unlock who) old new h s = subst IsSane (sym h.1) (unlock_sane old who (was_ready old (an_event.Unlock who) h.0) s)
event_sane (an_event.Die who) old new h s = subst IsSane (sym h.1) (die_sane old who s)

pub events_sane : (events : List Event) (old new : WorldData) → RunsEach Happens events old new → IsSane old → IsSane new
events_sane [] old new runs s = subst IsSane (sym runs) s
events_sane (event ∷ events) old new runs s = events_sane events runs.0 new runs.2 (event_sane event old runs.0 runs.1 s)

-- with one publication there is none behind another
pub chain_start : IsChain (first_publication ∷ [])
chain_start = record { first = refl; next = λ number before after is_before is_after. absurd (none-some after is_after) }

-- all that is kept holds at the start
pub start_sane : (actors : ℕ) → IsSane (start actors)
start_sane actors = record {
  chain = chain_start;
  last = refl;
  stands = refl;
  kept = All-cons (λ p. OldOf (start actors).files None [] p.docket p.rows) first_publication [] refl
      (All-nil (λ p. OldOf (start actors).files None [] p.docket p.rows));
  held = λ who. idle_held (start actors).files None [] (first_publication ∷ []) actors who false;
}

pub reached_sane : (actors : ℕ) (events : List Event) (w : WorldData) → Reaches actors events w → IsSane w
reached_sane actors events w r = events_sane events (start actors) w r (start_sane actors)
