-- What an actor publishes that holds the lock and has loaded under it.
use Rattle.std.proofs.Common.{ℕ, ◌≡◌, ◌+◌, inl, inr, Bool, true, false, not, ◌&&◌, List, [], ◌∷◌, ◌++◌, length, take, Option, Some, None, refl, sym, ap, subst, ◌∙◌, eq-eqb}
use Rattle.std.specs.Option.{option_map}
use Rattle.std.specs.Prelude.{is_none, is_some}
use Rattle.std.proofs.lemmas.Bool.{and_from, both_ways, cases_Bool, cond-true, not_from_false, or_cases, true≢false}
use Rattle.std.proofs.lemmas.List.{length-append}
use Rattle.std.specs.List.{AllByRecursion as ByRecursion}
use Rattle.std.specs.Str.{bytes_eq}
use Rattle.std.proofs.lemmas.List.Elements.{recursion_from_All}
use Rattle.std.proofs.lemmas.Slice.Eq.{bytes_eq-Decides}
use Rattle.hg_race.specs.Enabled.{is_enabled, is_renewable, next_id, takes_more}
use Rattle.hg_race.specs.Publishes.{AppendIsPublished, DifferenceMakesTheNew, DropShowsTheSame, IsPoised, NewFileIsPublished}
use Rattle.hg_race.specs.Rows.{Entries, Row, edited, map_of, names, with_row}
use Rattle.hg_race.specs.Steps.{appended_behind, appended_to, dropped, made, made_as, published_now, swapped, written}
use Rattle.hg_race.specs.World.{WorldData, actor_of, first_publication, holds, last_of, rows_in}
use Rattle.hg_race.specs.declared.event.Event.TheVariants as an_event
use Rattle.hg_race.specs.declared.actor.Actor.{Actor}
use Rattle.hg_race.specs.declared.actor.Loading.{Loading}
use Rattle.hg_race.specs.declared.parts.Naming.{Naming}
use Rattle.hg_race.specs.declared.parts.Publication.{Publication}
use Rattle.hg_race.specs.declared.actor.Writing.{Writing}
use Rattle.hg_race.proofs.Copying.{edited_unnamed}
use Rattle.hg_race.proofs.Going.{event_sane, reached_sane, rows_standing}
use Rattle.hg_race.proofs.Lasting.{actor_now, dropped_published}
use Rattle.hg_race.proofs.Looking.{last_or-push}
use Rattle.hg_race.proofs.Publishing.{rows_there}
use Rattle.hg_race.proofs.Sane.{IsLoad, IsSane, IsWritten, LoadOf, StandsNow, WriteOf}

-- who holds the lock does
pub holder_holds : (w : WorldData) (who : ℕ) → IsPoised w who → holds w.holder who ≡ true
holder_holds w who p = ap (λ (h : Option ℕ). holds h who) p.holder ∙ eq-eqb who who refl

-- the load of who may publish is of what stands
pub load_stands : (w : WorldData) (who : ℕ) → IsSane w → (p : IsPoised w who) → (p.load.docket ≡ w.docket) × (p.load.rows ≡ (last_of w).rows)
load_stands w who s p =
    let l : IsLoad w.published w.docket (last_of w).rows (holds w.holder who) p.load =
    subst (LoadOf w.published w.docket (last_of w).rows (holds w.holder who)) p.loaded (s.held who).load
    in
    (l.docket (holder_holds w who p) p.locked, l.held (holder_holds w who p) p.locked)

-- who lives and has written may publish it
pub may_swap : (w : WorldData) (who : ℕ) (writing : Writing) (rows : List Row) → (actor_of w who).dead ≡ false
    → is_enabled (written who writing rows w) (an_event.Swap who) ≡ true
may_swap w who writing rows alive =
    subst (λ (a : Actor). (not a.dead && is_some a.writing) ≡ true) (sym (actor_now w who (record (actor_of w who) { writing = Some writing }) alive))
    (and_from (not (actor_of w who).dead) true (not_from_false (actor_of w who).dead alive) refl)

-- a docket that names what was written, and the map that it shows
pub record ShowsWritten (w : WorldData) (who : ℕ) (writing : Writing) (u : WorldData) : Type 0 where
  pub docket : u.docket ≡ Some writing.docket
  pub map : map_of (last_of u).rows ≡ edited writing.change (map_of (last_of w).rows)
  pub actor : actor_of u who ≡ published_now w.docket writing.fresh (record (actor_of w who) { writing = Some writing })

-- what stands written in a world is published
pub swapped_shows : (v : WorldData) (who : ℕ) (writing : Writing) → IsWritten v.files v.docket (last_of v).rows (holds v.holder who) writing
    → (swapped who (Some writing) v).docket ≡ Some writing.docket × (map_of (last_of (swapped who (Some writing) v)).rows ≡ edited writing.change (map_of (last_of v).rows))
swapped_shows v who writing wrote =
    let one : Publication = record {
      docket = Some writing.docket;
      change = writing.change;
      rows = take writing.docket.used
          (rows_in v.files writing.docket.id);
    } in (
      refl,
      ap (λ (p : Publication). map_of p.rows) (last_or-push first_publication v.published one)
          ∙ ap (λ (l : List Row). map_of l) (rows_there v.files writing.docket.id writing.docket.used wrote.rows wrote.file wrote.used)
          ∙ wrote.map,
    )

-- a write and its publication, one behind the other
pub written_shows : (w v u : WorldData) (who : ℕ) (writing : Writing) (rows : List Row) → (actor_of w who).dead ≡ false → IsSane v → v ≡ written who writing rows w
    → u ≡ swapped who (actor_of v who).writing v → ShowsWritten w who writing u
written_shows w v u who writing rows alive s wrote swap =
    let now : actor_of v who ≡ record (actor_of w who) { writing = Some writing } =
    ap (λ (z : WorldData). actor_of z who) wrote ∙ actor_now w who (record (actor_of w who) { writing = Some writing }) alive
    in
    let has : (actor_of v who).writing ≡ Some writing = ap (λ (a : Actor). a.writing) now in
    let is : u ≡ swapped who (Some writing) v = swap ∙ ap (λ (x : Option Writing). swapped who x v) has in
    let there : IsWritten v.files v.docket (last_of v).rows (holds v.holder who) writing =
    subst (WriteOf v.files v.docket (last_of v).rows (holds v.holder who)) has (s.held who).write
    in
    let shows = swapped_shows v who writing there in
    let living : (actor_of v who).dead ≡ false = ap (λ (a : Actor). a.dead) now ∙ alive in
    record {
      docket = ap (λ (z : WorldData). z.docket) is ∙ shows.0;
      map = ap (λ (z : WorldData). map_of (last_of z).rows) is ∙ shows.1 ∙ ap (λ (z : WorldData). edited writing.change (map_of (last_of z).rows)) wrote;
      actor =
          ap (λ (z : WorldData). actor_of z who) is
          ∙ actor_now v who (published_now v.docket writing.fresh (actor_of v who)) living
          ∙ ap (λ (d : Option Naming). published_now d writing.fresh (actor_of v who)) (ap (λ (z : WorldData). z.docket) wrote)
          ∙ ap (λ (a : Actor). published_now w.docket writing.fresh a) now;
    }

-- what an append writes
abbrev pub append_of : WorldData → Naming → List Row → Writing
append_of w docket change = record {
  docket = record { id = docket.id; used = length (take docket.used (rows_in w.files docket.id) ++ change) };
  change = change;
  fresh = false;
}

abbrev pub append_rows : WorldData → Naming → List Row → List Row
append_rows w docket change = take docket.used (rows_in w.files docket.id) ++ change

pub append_is : (w : WorldData) (who : ℕ) (p : IsPoised w who) → IsSane w → (docket : Naming) → w.docket ≡ Some docket → (change : List Row)
    → appended_behind who change (actor_of w who).load w ≡ written who (append_of w docket change) (append_rows w docket change) w
append_is w who p s docket now change =
    ap (λ (l : Option Loading). appended_behind who change l w) p.loaded ∙ ap (λ (d : Option Naming). appended_to who change d w) ((load_stands w who s p).0 ∙ now)

-- how many rows an append uses
pub append_used : (w : WorldData) → IsSane w → (docket : Naming) → w.docket ≡ Some docket → (change : List Row)
    → length (append_rows w docket change) ≡ docket.used + length change
append_used w s docket now change =
    let stands : StandsNow w.files (Some docket) (last_of w).rows = subst (λ (d : Option Naming). StandsNow w.files d (last_of w).rows) now s.stands in
    let front : take docket.used (rows_in w.files docket.id) ≡ (last_of w).rows = rows_standing docket.used (last_of w).rows (w.files docket.id) stands.0 stands.1 in
    length-append (take docket.used (rows_in w.files docket.id)) change ∙ ap (λ (n : ℕ). n + length change) (ap (λ (l : List Row). length l) front ∙ stands.0)

pub append_is_published : AppendIsPublished
append_is_published actors events w r who p docket now change =
    let s = reached_sane actors events w r in
    let is = append_is w who p s docket now change in
    let used = append_used w s docket now change in
    record {
      may_write =
          and_from (not (actor_of w who).dead) (holds w.holder who && (takes_more (actor_of w who).load && is_none (actor_of w who).writing))
          (not_from_false (actor_of w who).dead p.alive)
          (and_from (holds w.holder who) (takes_more (actor_of w who).load && is_none (actor_of w who).writing) (holder_holds w who p)
          (and_from (takes_more (actor_of w who).load) (is_none (actor_of w who).writing)
          (ap takes_more p.loaded ∙ and_from p.load.locked (is_some p.load.docket) p.locked
          (ap (λ (d : Option Naming). is_some d) ((load_stands w who s p).0 ∙ now)))
          (ap (λ (x : Option Writing). is_none x) p.unwritten)));
      may_swap = λ v wrote.
          subst (λ (z : WorldData). is_enabled z (an_event.Swap who) ≡ true) (sym (wrote.1 ∙ is))
          (may_swap w who (append_of w docket change) (append_rows w docket change) p.alive);
      shown = λ v u wrote swap.
          let shows = written_shows w v u who (append_of w docket change) (append_rows w docket change) p.alive
          (event_sane (an_event.Append who change) w v wrote s) (wrote.1 ∙ is) swap.1 in
          record {
            docket = shows.docket ∙ ap (λ (n : ℕ). Some (record { id = docket.id; used = n })) used;
            map = shows.map;
          };
    }

-- what a new file is
abbrev pub file_of : ℕ → List Row → List Row → Writing
file_of id change rows = record { docket = record { id = id; used = length rows }; change = change; fresh = true }

pub file_is : (w : WorldData) (who : ℕ) (p : IsPoised w who) → IsSane w → (id : ℕ) → next_id w.docket ≡ Some id → (change rows : List Row)
    → made who change rows (actor_of w who).load w ≡ written who (file_of id change rows) rows w
file_is w who p s id next change rows =
    ap (λ (l : Option Loading). made who change rows l w) p.loaded
    ∙ ap (λ (i : Option ℕ). made_as who change rows i w) (ap next_id (load_stands w who s p).0 ∙ next)

-- the file before a new one may go where there was one
pub may_drop : (w u : WorldData) (who : ℕ) (actor : Actor) → actor.dead ≡ false → actor_of u who ≡ published_now w.docket true actor
    → is_enabled u (an_event.Drop who) ≡ is_some w.docket
may_drop w u who actor alive e =
    ap (λ (a : Actor). not a.dead && is_some a.spare) e ∙ ap (λ (b : Bool). b && is_some (option_map (λ (d : Naming). d.id) w.docket))
    (not_from_false actor.dead alive) ∙ at w.docket
  where
    at : (docket : Option Naming) → is_some (option_map (λ (d : Naming). d.id) docket) ≡ is_some docket
    at None = refl
    at (Some docket) = refl

pub new_file_is_published : NewFileIsPublished
new_file_is_published actors events w r who p id next change =
    let s = reached_sane actors events w r in
    record {
      may_write =
          and_from (not (actor_of w who).dead) (holds w.holder who && (is_renewable (actor_of w who).load && is_none (actor_of w who).writing))
          (not_from_false (actor_of w who).dead p.alive)
          (and_from (holds w.holder who) (is_renewable (actor_of w who).load && is_none (actor_of w who).writing) (holder_holds w who p)
          (and_from (is_renewable (actor_of w who).load) (is_none (actor_of w who).writing)
          (ap is_renewable p.loaded
          ∙ and_from p.load.locked (is_some (next_id p.load.docket)) p.locked (ap (λ (i : Option ℕ). is_some i) (ap next_id (load_stands w who s p).0 ∙ next)))
          (ap (λ (x : Option Writing). is_none x) p.unwritten)));
      may_swap = λ v wrote.
          subst (λ (z : WorldData). is_enabled z (an_event.Swap who) ≡ true) (sym (wrote.1.2 ∙ file_is w who p s id next change wrote.1.0))
          (may_swap w who (file_of id change wrote.1.0) wrote.1.0 p.alive);
      shown = λ v u wrote swap.
          let shows =
          written_shows w v u who (file_of id change wrote.1.0) wrote.1.0 p.alive (event_sane (an_event.NewFile who change) w v wrote s)
          (wrote.1.2 ∙ file_is w who p s id next change wrote.1.0) swap.1
          in
          record {
            docket = ap (λ (d : Option Naming). option_map (λ (naming : Naming). naming.id) d) shows.docket;
            map = shows.map;
            may_drop = may_drop w u who (record (actor_of w who) { writing = Some (file_of id change wrote.1.0) }) p.alive shows.actor;
          };
    }

pub drop_shows_the_same : DropShowsTheSame
drop_shows_the_same who w v h =
    (ap (λ (z : WorldData). z.docket) h.1 ∙ at (actor_of w who).spare, ap (λ (z : WorldData). z.published) h.1 ∙ dropped_published who (actor_of w who).spare w)
  where
    at : (spare : Option ℕ) → (dropped who spare w).docket ≡ w.docket
    at None = refl
    at (Some id) = refl

-- rows that have the entries of a map give a path that they have the one that it has there
pub named_new : (rows : List Row) (map new : Entries) (path : List ℕ) → ByRecursion (λ row. row.entry ≡ new row.path) rows → names path rows ≡ true → edited rows map path ≡ new path
named_new [] map new path same named = absurd (true≢false (sym named))
named_new (row ∷ rows) map new path same named =
    elim (cases_Bool (names path rows)) [
      | inl later ↦ named_new rows (with_row row map) new path same.1 later
      | inr last ↦
          elim (or_cases (bytes_eq row.path path) (names path rows) named) [
            | inl here ↦
                edited_unnamed rows (with_row row map) path last
                ∙ cond-true (bytes_eq row.path path) row.entry (map path) here
                ∙ same.0
                ∙ ap new ((bytes_eq-Decides row.path path).0 here)
            | inr later ↦ absurd (both_ways (names path rows) last later)
          ]
    ]

pub difference_makes_the_new : DifferenceMakesTheNew
difference_makes_the_new change old new differs =
    let at : (path : List ℕ) → edited change old path ≡ new path = λ path.
    elim (cases_Bool (names path change)) [
      | inl named ↦ named_new change old new path (recursion_from_All (λ row. row.entry ≡ new row.path) change differs.entries) named
      | inr other ↦ edited_unnamed change old path other ∙ differs.others path other
    ]
    in
    λ i path. at path i
