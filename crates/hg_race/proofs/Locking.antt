-- What reading, the lock and death keep.
use Rattle.std.proofs.Common.{ℕ, ◌≡◌, inl, inr, Bool, true, false, cond, ◌&&◌, ◌||◌, List, [], length, take, Option, Some, None, refl, sym, ap, subst, ◌∙◌}
use Rattle.std.specs.Option.{option_map}
use Rattle.std.specs.Prelude.{MatchOption, ⊤}
use Rattle.std.proofs.lemmas.Bool.{and_parts, cases_Bool, cond-true, cond-false, ne_eqb, or_cases, true≢false}
use Rattle.std.proofs.lemmas.Option.{none-some, same_Some}
use Rattle.hg_race.specs.Rows.{BeginsWith, Row}
use Rattle.hg_race.specs.Safe.{IsLoaded}
use Rattle.hg_race.specs.Steps.{data_read, data_seen, died, docket_read, given_back, lock_given, lock_taken, loaded_outside_lock, locked_now, outside_lock, renewed, with_actor, with_data, with_docket}
use Rattle.hg_race.specs.World.{Files, WorldData, actor_of, first_publication, front_of, holds, is_same, last_of}
use Rattle.hg_race.specs.declared.actor.Actor.{Actor}
use Rattle.hg_race.specs.declared.actor.Loading.{Loading}
use Rattle.hg_race.specs.declared.parts.Naming.{Naming}
use Rattle.hg_race.specs.declared.parts.Publication.{Publication}
use Rattle.hg_race.specs.declared.actor.Reading.{Reading}
use Rattle.hg_race.specs.declared.actor.Writing.{Writing}
use Rattle.hg_race.proofs.Holding.{all_held, free_held_at, old_at, old_same}
use Rattle.hg_race.proofs.Looking.{begins_taken, last_number, others_hold_nothing, same_docket}
use Rattle.hg_race.proofs.Sane.{IsHeld, IsRead, IsSane, LoadOf, OldOf, ReadOf, SpareOf, WasNamed, WriteOf}

-- the present docket is that of the last publication
pub named_now : (w : WorldData) → IsSane w → WasNamed w.published (length w.published) w.docket
named_now w s =
    let place = last_number first_publication first_publication w.published s.chain.first in
    record { number = place.0; last = place.1; publication = last_of w; is = place.2; same_docket = s.last }

-- a load of the present docket is of the present rows
pub load_same : (w : WorldData) → IsSane w → (load : Loading) → IsLoaded w.published load → load.docket ≡ w.docket → load.rows ≡ (last_of w).rows
load_same w s load l same =
    let old = old_at w.files w.docket (last_of w).rows w.published s.kept l.number l.publication l.is in
    let named : l.publication.docket ≡ w.docket = l.same_docket ∙ same in
    sym l.same_rows
    ∙ old_same w.files w.docket (last_of w).rows l.publication.rows s.stands
    (subst (λ (d : Option Naming). OldOf w.files w.docket (last_of w).rows d l.publication.rows) named old)

-- a load whose docket was read again
pub renewed_load : (w : WorldData) → IsSane w → (mine : Bool) (load : Option Loading) → LoadOf w.published w.docket (last_of w).rows mine load
    → LoadOf w.published w.docket (last_of w).rows mine (option_map (renewed w.docket mine) load)
renewed_load w s mine None l = tt
renewed_load w s mine (Some load) l =
    let named : mine ≡ true → (load.locked || (mine && is_same load.docket w.docket)) ≡ true → load.docket ≡ w.docket = λ m locked.
    elim (or_cases load.locked (mine && is_same load.docket w.docket) locked) [
      | inl before ↦ l.docket m before
      | inr again ↦ same_docket load.docket w.docket (and_parts mine (is_same load.docket w.docket) again).1
    ]
    in
    record {
      loaded = record {
        number = l.loaded.number;
        last = l.loaded.last;
        publication = l.loaded.publication;
        is = l.loaded.is;
        same_docket = l.loaded.same_docket;
        same_rows = l.loaded.same_rows;
      };
      docket = named;
      held = λ m locked. load_same w s load l.loaded (named m locked);
    }

-- a world in which only one actor is new
pub with_actor_sane : (w : WorldData) (who : ℕ) (actor : Actor) → IsSane w → IsHeld w.files w.docket (last_of w).rows w.published (holds w.holder who) actor
    → IsSane (with_actor who actor w)
with_actor_sane w who actor s mine = record {
  chain = s.chain;
  last = s.last;
  stands = s.stands;
  kept = s.kept;
  held = all_held w.files w.docket (last_of w).rows w.published w.holder w.actors who actor mine (λ other apart. s.held other);
}

pub docket_read_sane : (w : WorldData) (who : ℕ) → IsSane w
    → IsSane (docket_read who w)
docket_read_sane w who s =
    let held = s.held who in
    with_actor_sane w who (with_docket w.docket (length w.published) (holds w.holder who) (actor_of w who)) s
    (record {
      read = record { named = named_now w s; fresh = λ m locked. refl };
      load = renewed_load w s (holds w.holder who) (actor_of w who).load held.load;
      write = held.write;
      spare = held.spare;
    })

-- the rows that a docket gives are those that were published with it
pub front_is : (files : Files) (now : Option Naming) (last : List Row) (docket : Option Naming) (rows front : List Row) → OldOf files now last docket rows
    → front_of files docket ≡ Some front → rows ≡ front
front_is files now last None rows front old e = old ∙ same_Some [] front e
front_is files now last (Some docket) rows front old e =
    (elim (files docket.id) as (λ (o : Option (List Row)). MatchOption o ⊤ (λ file. BeginsWith file rows)
    → option_map (take docket.used) o ≡ Some front → rows ≡ front) [
      | None ↦ λ m none. absurd (none-some front none)
      | Some file ↦ λ m some. sym (begins_taken file rows docket.used m old.used) ∙ same_Some (take docket.used file) front some
    ]) old.file e

-- an actor that looked for the file of its docket
pub with_data_held : (w : WorldData) → IsSane w → (mine : Bool) (actor : Actor) (reading : Reading) (front : Option (List Row))
    → front_of w.files reading.docket ≡ front
    → IsRead w.published w.docket mine reading
    → IsHeld w.files w.docket (last_of w).rows w.published mine actor → IsHeld w.files w.docket (last_of w).rows w.published mine (with_data reading front actor)
with_data_held w s mine actor reading None e r h = record { read = h.read; load = h.load; write = h.write; spare = h.spare }
with_data_held w s mine actor reading (Some rows) e r h =
    let named = r.named in
    let old = old_at w.files w.docket (last_of w).rows w.published s.kept named.number named.publication named.is in
    let same : named.publication.rows ≡ rows =
    front_is w.files w.docket (last_of w).rows reading.docket named.publication.rows rows
    (subst (λ (d : Option Naming). OldOf w.files w.docket (last_of w).rows d named.publication.rows) named.same_docket old) e
    in
    let load : Loading = record { docket = reading.docket; rows = rows; count = reading.count; locked = reading.locked } in
    let loaded : IsLoaded w.published load = record {
      number = named.number;
      last = named.last;
      publication = named.publication;
      is = named.is;
      same_docket = named.same_docket;
      same_rows = same;
    } in
    record {
      read = tt;
      load = record { loaded = loaded; docket = r.fresh; held = λ m locked. load_same w s load loaded (r.fresh m locked) };
      write = h.write;
      spare = h.spare;
    }

pub data_read_held : (w : WorldData) → IsSane w → (mine : Bool) (actor : Actor) (reading : Option Reading) → ReadOf w.published w.docket mine reading
    → IsHeld w.files w.docket (last_of w).rows w.published mine actor → IsHeld w.files w.docket (last_of w).rows w.published mine (data_seen w.files reading actor)
data_read_held w s mine actor None r h = h
data_read_held w s mine actor (Some reading) r h = with_data_held w s mine actor reading (front_of w.files reading.docket) refl r h

pub data_read_sane : (w : WorldData) (who : ℕ) → IsSane w → IsSane (data_read who w)
data_read_sane w who s =
    let held = s.held who in
    with_actor_sane w who (data_seen w.files (actor_of w who).reading (actor_of w who)) s
    (data_read_held w s (holds w.holder who) (actor_of w who) (actor_of w who).reading held.read held)

-- nothing that an actor knows was read under a lock that it has just taken
pub locked_read : (published : List Publication) (now : Option Naming) (mine : Bool) (reading : Option Reading) → ReadOf published now false reading
    → ReadOf published now mine (option_map outside_lock reading)
locked_read published now mine None r = tt
locked_read published now mine (Some reading) r = record { named = r.named; fresh = λ m locked. absurd (true≢false (sym locked)) }

pub locked_load : (published : List Publication) (now : Option Naming) (last : List Row) (mine : Bool) (load : Option Loading) → LoadOf published now last false load
    → LoadOf published now last mine (option_map loaded_outside_lock load)
locked_load published now last mine None l = tt
locked_load published now last mine (Some load) l = record {
  loaded = record {
    number = l.loaded.number;
    last = l.loaded.last;
    publication = l.loaded.publication;
    is = l.loaded.is;
    same_docket = l.loaded.same_docket;
    same_rows = l.loaded.same_rows;
  };
  docket = λ m locked. absurd (true≢false (sym locked));
  held = λ m locked. absurd (true≢false (sym locked));
}

pub locked_write : (files : Files) (now : Option Naming) (last : List Row) (mine : Bool) (writing : Option Writing)
    → WriteOf files now last false writing → WriteOf files now last mine writing
locked_write files now last mine None w = tt
locked_write files now last mine (Some writing) w = absurd (true≢false (sym w.holder))

pub locked_spare : (now : Option Naming) (mine : Bool) (spare : Option ℕ) → SpareOf now false spare → SpareOf now mine spare
locked_spare now mine None s = tt
locked_spare now mine (Some id) s = absurd (true≢false (sym s.0))

pub lock_sane : (w : WorldData) (who : ℕ) → w.holder ≡ None → IsSane w → IsSane (lock_taken who w)
lock_sane w who free s =
    let before : (other : ℕ) → holds w.holder other ≡ false = λ other. ap (λ (h : Option ℕ). holds h other) free in
    let held = subst (λ (b : Bool). IsHeld w.files w.docket (last_of w).rows w.published b (actor_of w who)) (before who) (s.held who) in
    record {
      chain = s.chain;
      last = s.last;
      stands = s.stands;
      kept = s.kept;
      held = all_held w.files w.docket (last_of w).rows w.published (Some who) w.actors who (locked_now (actor_of w who))
          (record {
            read = locked_read w.published w.docket (holds (Some who) who) (actor_of w who).reading held.read;
            load = locked_load w.published w.docket (last_of w).rows (holds (Some who) who) (actor_of w who).load held.load;
            write = locked_write w.files w.docket (last_of w).rows (holds (Some who) who) (actor_of w who).writing held.write;
            spare = locked_spare w.docket (holds (Some who) who) (actor_of w who).spare held.spare;
          })
          (λ other apart.
          free_held_at w.files w.files w.docket w.docket (last_of w).rows (last_of w).rows w.published w.published (actor_of w other)
          (holds w.holder other) (holds (Some who) other)
          (before other) (ne_eqb who other (λ e. apart (sym e))) (λ n p e. e) (s.held other));
    }

-- a docket that was read stays one, also where the lock is gone
pub freed_read : (published : List Publication) (now : Option Naming) (mine : Bool) (reading : Option Reading) → ReadOf published now mine reading
    → (is : Bool) → is ≡ false → ReadOf published now is reading
freed_read published now mine None r is e = tt
freed_read published now mine (Some reading) r is e = record { named = r.named; fresh = λ m. absurd (true≢false (sym m ∙ e)) }

pub unlock_sane : (w : WorldData) (who : ℕ) → holds w.holder who ≡ true → IsSane w → IsSane (lock_given who w)
unlock_sane w who mine s = record {
  chain = s.chain;
  last = s.last;
  stands = s.stands;
  kept = s.kept;
  held = all_held w.files w.docket (last_of w).rows w.published None w.actors who (given_back (actor_of w who))
      (record {
        read = freed_read w.published w.docket (holds w.holder who) (actor_of w who).reading (s.held who).read false refl;
        load = tt;
        write = tt;
        spare = tt;
      })
      (λ other apart.
      free_held_at w.files w.files w.docket w.docket (last_of w).rows (last_of w).rows w.published w.published (actor_of w other) (holds w.holder other) false
      (others_hold_nothing w.holder who other mine apart) refl (λ n p e. e) (s.held other));
}

-- the lock behind a death
pub freed : (holder : Option ℕ) (who : ℕ) → holds (cond (holds holder who) None holder) who ≡ false
freed holder who =
    elim (cases_Bool (holds holder who)) [
      | inl mine ↦ ap (λ (h : Option ℕ). holds h who) (cond-true (holds holder who) None holder mine)
      | inr other ↦ ap (λ (h : Option ℕ). holds h who) (cond-false (holds holder who) None holder other) ∙ other
    ]

pub die_sane : (w : WorldData) (who : ℕ) → IsSane w
    → IsSane (died who w)
die_sane w who s = record {
  chain = s.chain;
  last = s.last;
  stands = s.stands;
  kept = s.kept;
  held = all_held w.files w.docket (last_of w).rows w.published (cond (holds w.holder who) None w.holder) w.actors who
      (record (given_back (actor_of w who)) { dead = true })
      (record {
        read = freed_read w.published w.docket (holds w.holder who) (actor_of w who).reading (s.held who).read
            (holds (cond (holds w.holder who) None w.holder) who) (freed w.holder who);
        load = tt;
        write = tt;
        spare = tt;
      })
      (λ other apart.
      elim (cases_Bool (holds w.holder who)) [
        | inl mine ↦
            free_held_at w.files w.files w.docket w.docket (last_of w).rows (last_of w).rows w.published w.published (actor_of w other)
            (holds w.holder other) (holds (cond (holds w.holder who) None w.holder) other)
            (others_hold_nothing w.holder who other mine apart)
            (ap (λ (h : Option ℕ). holds h other) (cond-true (holds w.holder who) None w.holder mine)) (λ n p e. e) (s.held other)
        | inr free ↦
            subst (λ (h : Option ℕ). IsHeld w.files w.docket (last_of w).rows w.published (holds h other) (actor_of w other))
            (sym (cond-false (holds w.holder who) None w.holder free)) (s.held other)
      ]);
}
