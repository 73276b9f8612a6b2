-- What a call of a shelf in memory says of its history and of its images, by the changes that it adds.
use Rattle.std.proofs.Common.{◌≡◌, ◌≤◌, ◌<◌, ◌+◌, ◌-◌, ◌^◌, ℕ, min, zero, suc, List, [], ◌∷◌, ◌++◌, length, take, refl, ap, sym, ◌∙◌, Bool, true, false, arith, subst, inl, inr, Result, Ok, Err}
use Rattle.std.specs.Prelude.{if◌then◌else◌, ◌==◌, IfOk, OnOk, OnErr}
use Rattle.std.proofs.lemmas.List.{append_assoc, length-append, take-append-le, take_all, take_at}
use Rattle.hg_base.specs.Calls.{Counted, failed}
use Rattle.hg_shelf.specs.History.{Files, Extends, Passes, Waits, By, label, now, us}
use Rattle.hg_shelf.specs.Images.{Scene, Remains, Goes, Acts, course}
use Rattle.hg_shelf.specs.Memory.{Memory, Fails, Lacks, after_call, after_due, after_own, asking, before_call, by_us, coming, coming_of, empty, history_of, images_of, maker, maker_at, next, replayed}
use Rattle.hg_shelf.specs.Sound.{LeavesNamed, replayed_sound}
use Rattle.hg_shelf.specs.declared.asked.Asked.{Asked}
use Rattle.hg_shelf.specs.declared.asked.LockCall.{LockCall}
use Rattle.hg_shelf.specs.declared.outside.Change.{Change}
use Rattle.hg_shelf.specs.declared.outside.Due.{Due}
use Rattle.hg_shelf.specs.declared.outside.Step.{Step}
use Rattle.hg_shelf.proofs.Histories.{us_apart}
use Rattle.hg_shelf.proofs.Replay.{replayed_push}

maker_before : (some more : List Change) (k : ℕ) → k < length some → maker_at (some ++ more) k ≡ maker_at some k
maker_before [] more k within = absurd (omega (arith, within))
maker_before (change ∷ some) more zero within = refl
maker_before (change ∷ some) more (suc k) within = maker_before some more k (omega (arith, within))

maker_behind : (some more : List Change) (k : ℕ) → maker_at (some ++ more) (length some + k) ≡ maker_at more k
maker_behind [] more k =
    let step : length {A = Change} [] + k ≡ k = omega arith in
    ap (maker_at more) step
maker_behind (change ∷ some) more k =
    let step : length (change ∷ some) + k ≡ suc (length some + k) = omega arith in
    ap (maker_at (change ∷ (some ++ more))) step ∙ maker_behind some more k

-- changes of others, who made them while the caller held the lock or not
abbrev pub AreOthers : Bool → List Change → Type 0
AreOthers ours more = (k : ℕ) → k < length more → maker_at more k ≡ label ours

one_more : (ours : Bool) (change : Change) (more : List Change) → maker change ≡ label ours → AreOthers ours more → AreOthers ours (change ∷ more)
one_more ours change more made others zero within = made
one_more ours change more made others (suc k) within = others k (omega (arith, within))

perhaps_more : (t : Bool) (ours : Bool) (change : Change) (more : List Change) → maker change ≡ label ours → AreOthers ours more → AreOthers ours (if t then change ∷ more else more)
perhaps_more true ours change more made others = one_more ours change more made others
perhaps_more false ours change more made others = others

coming_others : (call : ℕ) (ours : Bool) (due : List Due) → AreOthers ours (coming_of call ours due)
coming_others call ours [] = λ k within. absurd (omega (arith, within))
coming_others call ours (d ∷ more) = perhaps_more (d.call == call) ours (before_call call ours d.change) (coming_of call ours more) refl (coming_others call ours more)

take_others : (n : ℕ) (ours : Bool) (more : List Change) → AreOthers ours more → AreOthers ours (take n more)
take_others zero ours more others = λ k within. absurd (omega (arith, within))
take_others (suc n) ours [] others = λ k within. absurd (omega (arith, within))
take_others (suc n) ours (change ∷ more) others =
    one_more ours change (take n more) (others 0 (omega arith)) (take_others n ours more (λ k within. others (suc k) (omega (arith, within))))

-- the changes that a call adds: of others alone
pub record Grew (old new : Memory) : Type 0 where
  pub more : List Change
  pub grown : new.changes ≡ old.changes ++ more
  pub others : AreOthers old.ours more

pub grew_called : (old new : Memory) → new.changes ≡ (after_call old).changes → Grew old new
grew_called old new is = record { more = coming old; grown = is; others = coming_others old.calls.made old.ours old.due }

pub grew_failed : (old new : Memory) → Fails old new → Grew old new
grew_failed old new fails =
    elim fails [
      | inl due ↦ grew_called old new (ap (λ (m : Memory). m.changes) due.1)
      | inr lacks ↦ record {
        more = take lacks.some (coming old);
        grown = ap (λ (m : Memory). m.changes) lacks.state;
        others = take_others lacks.some old.ours (coming old) (coming_others old.calls.made old.ours old.due);
      }
    ]

module _ (old new : Memory) (more : List Change) (grown : new.changes ≡ old.changes ++ more) where
  longer : length new.changes ≡ length old.changes + length more
  longer = ap length grown ∙ length-append old.changes more

  same_start : (k : ℕ) → k ≤ length old.changes → take k new.changes ≡ take k old.changes
  same_start k below = ap (take k) grown ∙ take-append-le k old.changes more below

  pub extends_grown : Extends (history_of old) (history_of new)
  extends_grown = record {
    told = refl;
    later = omega (arith, longer);
    who = λ k below. ap (λ (l : List Change). maker_at l k) grown ∙ maker_before old.changes more k below;
    stay = λ k below. record { shown = ap (λ (l : List Change). (replayed l empty).files) (same_start k below) };
  }

  remains : (some all : List Change) → some ≡ all → Remains (replayed all empty) (replayed some empty)
  remains some all same = record {
    shown = ap (λ (l : List Change). (replayed l empty).files) same;
    left = λ c there. subst (λ (l : List Change). (replayed l empty).leaves c) same there;
    done = λ c there. subst (λ (l : List Change). (replayed l empty).named c) same there;
  }

  pub goes_grown : Goes (course (history_of old) (images_of old)) (course (history_of new) (images_of new))
  goes_grown = record {
    past = extends_grown;
    kept = λ k below. remains (take k new.changes) (take k old.changes) (same_start k below);
    back = λ k below. remains (take k old.changes) (take k new.changes) (sym (same_start k below));
  }

  who_behind : (k : ℕ) → length old.changes ≤ k → maker_at new.changes k ≡ maker_at more (k - length old.changes)
  who_behind k from =
      let place : k ≡ length old.changes + (k - length old.changes) = omega (arith, from) in
      ap (λ (l : List Change). maker_at l k) grown ∙ ap (maker_at (old.changes ++ more)) place ∙ maker_behind old.changes more (k - length old.changes)

module _ (old new : Memory) (grew : Grew old new) where
  pub goes_of : Goes (course (history_of old) (images_of old)) (course (history_of new) (images_of new))
  goes_of = goes_grown old new grew.more grew.grown

  steps_of : By (label old.ours) (history_of new) (length old.changes) (length new.changes)
  steps_of = λ k from to. who_behind old new grew.more grew.grown k from
      ∙ grew.others (k - length old.changes) (omega (arith, from, to, longer old new grew.more grew.grown))

  pub passes_of : new.ours ≡ old.ours → new.locks ≡ old.locks → Passes (history_of old) (history_of new)
  passes_of ours locks = record { past = extends_grown old new grew.more grew.grown; ours = ours; locks = locks; by_others = steps_of }

  pub waits_of : Waits (history_of old) (history_of new)
  waits_of = record { past = extends_grown old new grew.more grew.grown; none = λ k from to is. us_apart old.ours (sym is ∙ steps_of k from to) }

-- a step of the caller's behind those of others
module _ (old new : Memory) (what : Step) (is : new ≡ after_own what old) where
  grown_own : new.changes ≡ old.changes ++ coming old ++ by_us old what ∷ []
  grown_own = ap (λ (m : Memory). m.changes) is

  grown_all : new.changes ≡ old.changes ++ (coming old ++ by_us old what ∷ [])
  grown_all = grown_own ∙ append_assoc old.changes (coming old) (by_us old what ∷ [])

  pub goes_own : Goes (course (history_of old) (images_of old)) (course (history_of new) (images_of new))
  goes_own = goes_grown old new (coming old ++ by_us old what ∷ []) grown_all

  size_before : length (old.changes ++ coming old) ≡ length old.changes + length (coming old)
  size_before = length-append old.changes (coming old)

  size_after : length new.changes ≡ length (old.changes ++ coming old) + 1
  size_after = ap length grown_own ∙ length-append (old.changes ++ coming old) (by_us old what ∷ [])

  own_maker : maker_at new.changes (length (old.changes ++ coming old)) ≡ us
  own_maker =
      let here : length (old.changes ++ coming old) ≡ length (old.changes ++ coming old) + 0 = omega arith in
      ap (λ (l : List Change). maker_at l (length (old.changes ++ coming old))) grown_own
      ∙ ap (maker_at (old.changes ++ coming old ++ by_us old what ∷ [])) here
      ∙ maker_behind (old.changes ++ coming old) (by_us old what ∷ []) 0

  scene_before : take (length (old.changes ++ coming old)) new.changes ≡ old.changes ++ coming old
  scene_before =
      ap (take (length (old.changes ++ coming old))) grown_own
      ∙ take_at (old.changes ++ coming old) (by_us old what ∷ []) (length (old.changes ++ coming old)) refl

  scene_after : replayed (take (length (old.changes ++ coming old) + 1) new.changes) empty ≡ next what (replayed (old.changes ++ coming old) empty)
  scene_after =
      ap (λ (l : List Change). replayed l empty) (take_all (length (old.changes ++ coming old) + 1) new.changes (omega (arith, size_after)) ∙ grown_own)
      ∙ replayed_push (old.changes ++ coming old) (by_us old what) empty

  before_own : By (label old.ours) (history_of new) (length old.changes) (length (old.changes ++ coming old))
  before_own = λ k from to.
      let here : k ≡ length old.changes + (k - length old.changes) = omega (arith, from) in
      ap (λ (l : List Change). maker_at l k) grown_own
      ∙ maker_before (old.changes ++ coming old) (by_us old what ∷ []) k to
      ∙ ap (maker_at (old.changes ++ coming old)) here
      ∙ maker_behind old.changes (coming old) (k - length old.changes)
      ∙ coming_others old.calls.made old.ours old.due (k - length old.changes) (omega (arith, from, to, size_before))

  pub acts_own : (rule : Scene → Scene → Type 0) → ((s : Scene) → LeavesNamed s → rule s (next what s)) → Acts rule (course (history_of old) (images_of old)) (course (history_of new) (images_of new))
  acts_own rule meets = record {
    place = length (old.changes ++ coming old);
    from = omega (arith, size_before);
    to = omega (arith, size_after);
    before = before_own;
    own = own_maker;
    step =
        subst (λ (l : List Change). rule (replayed l empty) (replayed (take (length (old.changes ++ coming old) + 1) new.changes) empty)) (sym scene_before)
        (subst (λ (s : Scene). rule (replayed (old.changes ++ coming old) empty) s) (sym scene_after)
        (meets (replayed (old.changes ++ coming old) empty) (replayed_sound (old.changes ++ coming old) empty (λ c none. none))));
    behind = λ k from to. absurd (omega (arith, from, to, size_after));
  }

  pub ours_own : new.ours ≡ old.ours
  ours_own = ap (λ (m : Memory). m.ours) is

  pub refusals_own : new.refusals ≡ old.refusals
  refusals_own = ap (λ (m : Memory). m.refusals) is

-- what a call that fails, or that only asks, leaves as it was
pub record Went (old new : Memory) : Type 0 where
  pub grew : Grew old new
  pub ours : new.ours ≡ old.ours
  pub refusals : new.refusals ≡ old.refusals
  pub locks : new.locks ≡ old.locks

pub went_lacks : (old new : Memory) → Lacks old new → Went old new
went_lacks old new lacks = record {
  grew = grew_failed old new (inr lacks);
  ours = ap (λ (m : Memory). m.ours) lacks.state;
  refusals = ap (λ (m : Memory). m.refusals) lacks.state;
  locks = ap (λ (m : Memory). m.locks) lacks.state;
}

pub went_failed : (old new : Memory) → Fails old new → Went old new
went_failed old new fails =
    elim fails [
      | inl due ↦ record {
        grew = grew_failed old new (inl due);
        ours = ap (λ (m : Memory). m.ours) due.1;
        refusals = ap (λ (m : Memory). m.refusals) due.1;
        locks = ap (λ (m : Memory). m.locks) due.1;
      }
      | inr lacks ↦ went_lacks old new lacks
    ]

pub passes_failed : (old new : Memory) → Fails old new → Passes (history_of old) (history_of new)
passes_failed old new fails = let went = went_failed old new fails in passes_of old new went.grew went.ours went.locks

-- what it found is so at the last moment
pub found_of : {T E : Type 0} (ask : Asked) (old new : Memory) (r : Result T E) (P : Files → T → Type 0) → OnOk r (new ≡ asking ask (after_call old))
    → IfOk r (P (now (history_of (after_due old))).files) → IfOk r (P (now (history_of new)).files)
found_of ask old new (Ok x) P is found = subst (λ (m : Memory). P (now (history_of m)).files x) (sym is) found
found_of ask old new (Err e) P is found = tt

-- a call that does a step
pub goes_acted : {T E : Type 0} (old new : Memory) (what : Step) (r : Result T E) → OnOk r (new ≡ after_own what old) → OnErr r (Fails old new)
    → Goes (course (history_of old) (images_of old)) (course (history_of new) (images_of new))
goes_acted old new what (Ok x) is fails = goes_own old new what is
goes_acted old new what (Err e) is fails = goes_of old new (grew_failed old new fails)

pub ours_acted : {T E : Type 0} (old new : Memory) (what : Step) (r : Result T E) → OnOk r (new ≡ after_own what old) → OnErr r (Fails old new) → new.ours ≡ old.ours
ours_acted old new what (Ok x) is fails = ours_own old new what is
ours_acted old new what (Err e) is fails = (went_failed old new fails).ours

pub refusals_acted : {T E : Type 0} (old new : Memory) (what : Step) (r : Result T E) → OnOk r (new ≡ after_own what old) → OnErr r (Fails old new) → new.refusals ≡ old.refusals
refusals_acted old new what (Ok x) is fails = refusals_own old new what is
refusals_acted old new what (Err e) is fails = (went_failed old new fails).refusals

-- a call whose own step or whose note finds no memory, once what was due was made and the call was counted
pub lacked : (old : Memory) (log was : List Change) (due : List Due) (calls was_calls : Counted) (away ours : Bool) (refusals : ℕ) (asked : List Asked) (locks was_locks : List LockCall) → log ≡ was → locks ≡ was_locks
    → calls ≡ record was_calls { faults = min (was_calls.faults + 1) (2 ^ 64 - 1) }
    → record { changes = was; due = due; calls = was_calls; away = away; ours = ours; refusals = refusals; asked = asked; locks = was_locks } ≡ after_call old
    → Lacks old (record { changes = log; due = due; calls = calls; away = away; ours = ours; refusals = refusals; asked = asked; locks = locks })
lacked old log was due calls was_calls away ours refusals asked locks was_locks same same_locks counted called =
    let whole : take (length (coming old)) (coming old) ≡ coming old = take_all (length (coming old)) (coming old) (omega arith) in
    let first : record { changes = log; due = due; calls = calls; away = away; ours = ours; refusals = refusals; asked = asked; locks = locks }
    ≡ record { changes = was; due = due; calls = record was_calls { faults = min (was_calls.faults + 1) (2 ^ 64 - 1) }; away = away; ours = ours; refusals = refusals; asked = asked; locks = was_locks } =
    λ i. record { changes = same i; due = due; calls = counted i; away = away; ours = ours; refusals = refusals; asked = asked; locks = same_locks i } in
    record {
      some = length (coming old);
      state = first
          ∙ ap (λ (m : Memory). record m { calls = record m.calls { faults = min (m.calls.faults + 1) (2 ^ 64 - 1) } }) called
          ∙ ap (λ (l : List Change). record old { changes = old.changes ++ l; calls = failed old.calls }) (sym whole);
    }
