-- One event more of a list, and the first that may not come.
use Rattle.std.proofs.Common.{ℕ, zero, suc, inl, inr, ◌≡◌, ◌+◌, ◌<◌, false, true, List, [], ◌∷◌, ◌++◌, length, take, drop, get_or, refl, sym, ap, subst, ◌∙◌, arith}
use Rattle.std.proofs.lemmas.List.{drop_more, length-take-le, take-append-drop, take_at, take_more}
use Rattle.std.proofs.lemmas.Bool.{cases_order, true≢false}
use Rattle.hg_base.specs.Runs.{RunsEach}
use Rattle.hg_race.specs.Enabled.{is_enabled}
use Rattle.hg_race.specs.Orders.{OneRefusal}
use Rattle.hg_race.specs.Running.{IsFirstRefused}
use Rattle.hg_race.specs.Steps.{Happens, Makes, Reaches}
use Rattle.hg_race.specs.World.{WorldData, start}
use Rattle.hg_race.specs.declared.event.Event.{Event}
use Rattle.hg_race.proofs.Alike.{one_schedule}

-- one event more behind a list
pub one_more : (events : List Event) (event : Event) (old mid new : WorldData) → RunsEach Happens events old mid → Happens event mid new
    → RunsEach Happens (events ++ event ∷ []) old new
one_more [] event old mid new runs happens = (new, subst (λ (w : WorldData). Happens event w new) runs happens, refl)
one_more (first ∷ events) event old mid new runs happens = (runs.0, runs.1, one_more events event runs.0 mid new runs.2 happens)

-- the next event of a list was made
pub next_made : (actors : ℕ) (events : List Event) (at : ℕ) (event : Event) (w v : WorldData) → at < length events → event ≡ get_or events at event
    → Reaches actors (take at events) w
    → is_enabled w event ≡ true → Makes event w v → Reaches actors (take (at + 1) events) v
next_made actors events at event w v within is reached enabled makes =
    let more : take (at + 1) events ≡ take at events ++ event ∷ [] = take_more events at event within ∙ ap (λ (e : Event). take at events ++ e ∷ []) (sym is) in
    subst (λ (l : List Event). Reaches actors l v) (sym more) (one_more (take at events) event (start actors) w v reached (enabled, makes))

-- the next event of a list may not come
pub next_refused : (actors : ℕ) (events : List Event) (at : ℕ) (event : Event) (w : WorldData) → at < length events → event ≡ get_or events at event
    → Reaches actors (take at events) w
    → is_enabled w event ≡ false → IsFirstRefused actors events at
next_refused actors events at event w within is reached refused = record {
  earlier = take at events;
  event = event;
  later = drop (at + 1) events;
  whole = sym (take-append-drop at events) ∙ ap (λ (l : List Event). take at events ++ l)
      (drop_more events at event within ∙ ap (λ (e : Event). e ∷ drop (at + 1) events) (sym is));
  place = length-take-le at events (omega arith);
  world = w;
  reached = reached;
  refused = refused;
}

-- what leads to a world behind an event made that event
pub made_within : (earlier : List Event) (event : Event) (later : List Event) (old new : WorldData) → RunsEach Happens (earlier ++ event ∷ later) old new
    → (mid : WorldData) × RunsEach Happens earlier old mid × (is_enabled mid event ≡ true)
made_within [] event later old new runs = (old, refl, runs.1.0)
made_within (first ∷ earlier) event later old new runs =
    let rest = made_within earlier event later runs.0 new runs.2 in
    (rest.0, (runs.0, runs.1, rest.1), rest.2)

-- a longer front of a list goes past what stands in it
pub longer_front : (earlier : List Event) (event : Event) (later : List Event) (n : ℕ) → length earlier < n
    → (more : List Event) × (take n (earlier ++ event ∷ later) ≡ earlier ++ event ∷ more)
longer_front earlier event later zero l = absurd (omega arith)
longer_front [] event later (suc n) l = (take n later, refl)
longer_front (first ∷ earlier) event later (suc n) l =
    let rest = longer_front earlier event later n (omega arith) in
    (rest.0, ap (λ (t : List Event). first ∷ t) rest.1)

-- no world lies behind a refused event
pub refused_nowhere : (actors : ℕ) (earlier : List Event) (event : Event) (later : List Event) (world w : WorldData) → Reaches actors earlier world
    → is_enabled world event ≡ false
    → Reaches actors (earlier ++ event ∷ later) w → ⊥
refused_nowhere actors earlier event later world w reached refused r =
    let made = made_within earlier event later (start actors) w r in
    true≢false (sym made.2 ∙ (one_schedule actors earlier made.0 world made.1 reached).enabled event ∙ refused)

-- and so none that is refused later
pub not_later : (actors : ℕ) (events : List Event) (at other : ℕ) → IsFirstRefused actors events at → IsFirstRefused actors events other → at < other → ⊥
not_later actors events at other one two l =
    let front = longer_front one.earlier one.event one.later (length two.earlier) (omega (arith, one.place, two.place)) in
    let same : two.earlier ≡ one.earlier ++ one.event ∷ front.0 =
    sym (take_at two.earlier (two.event ∷ two.later) (length two.earlier) refl)
    ∙ ap (λ (e : List Event). take (length two.earlier) e) (sym two.whole ∙ one.whole) ∙ front.1
    in
    refused_nowhere actors one.earlier one.event front.0 one.world two.world one.reached one.refused
    (subst (λ (e : List Event). Reaches actors e two.world) same two.reached)

pub one_refusal : OneRefusal
one_refusal actors events at one = record {
  nowhere = λ w r. refused_nowhere actors one.earlier one.event one.later one.world w one.reached one.refused
      (subst (λ (e : List Event). Reaches actors e w) one.whole r);
  only = λ other two.
      elim (cases_order other at) [
        | inl same ↦ same
        | inr (inl before) ↦ absurd (not_later actors events other at two one before)
        | inr (inr behind) ↦ absurd (not_later actors events at other one two behind)
      ];
}
