-- What a call leaves of a tree in memory, told from the last change of others on.
use Rattle.std.proofs.Common.{ℕ, zero, suc, ◌≡◌, ◌+◌, ◌-◌, ◌<◌, ◌≤◌, ◌++◌, ◌⊎◌, Bool, true, false, List, [], ◌∷◌, Option, None, length, take, Result, Ok, Err, inl, inr, refl, sym, ap, ◌∙◌, subst, arith}
use Rattle.std.specs.Prelude.{IfErr, IfOk, OnErr, OnOk}
use Rattle.std.proofs.lemmas.List.{append-nil, length_push}
use Rattle.hg_alone.specs.Alone.{before_own, tree_alone, upto_others}
use Rattle.hg_base.specs.declared.fault.Failed.{Failed}
use Rattle.hg_base.specs.declared.stat.Kind.{Kind}
use Rattle.hg_base.specs.declared.time.Time.{Time}
use Rattle.hg_tree.specs.History.{AreFormed, Extends, History, Passes, now}
use Rattle.hg_tree.specs.Memory.{Fails, LeavesListed, LeavesOwn, LeavesRead, Memory, after_call, after_due, after_failure, by_us, coming, coming_of, history_of, noting, replayed, with_own}
use Rattle.hg_tree.specs.Moment.{Moment, bytes_at, empty_at}
use Rattle.hg_tree.specs.Own.{Acts, CannotPut, IsPut, IsUnlink, Puts, Unlinks}
use Rattle.hg_tree.specs.declared.asked.Asked.{Asked}
use Rattle.hg_tree.specs.declared.asked.Asked.TheVariants as an_ask
use Rattle.hg_tree.specs.declared.asked.Change.{Change}
use Rattle.hg_tree.specs.declared.asked.Change.TheVariants as the_change
use Rattle.hg_tree.specs.declared.asked.Due.{Due}
use Rattle.hg_tree.specs.declared.asked.Own.{Own}
use Rattle.hg_tree.specs.declared.fault.TreeFault.{TreeFault}
use Rattle.hg_tree.specs.declared.fault.TreeFault.TheVariants as a_fault

-- a change of the caller's behind the others is none of another
own_change : (what : Own) (changes : List Change) → before_own (changes ++ by_us what ∷ []) ≡ before_own changes
own_change what [] = refl
own_change what (change ∷ changes) = ap (upto_others change) (own_change what changes)

one_few : (change : Change) (n : ℕ) → upto_others change n ≤ suc n
one_few change (suc n) = omega arith
one_few (the_change.ByOthers what) zero = omega arith
one_few (the_change.ByUs what) zero = omega arith

pub few_before : (changes : List Change) → before_own changes ≤ length changes
few_before [] = omega arith
few_before (change ∷ changes) =
    let rest : before_own changes ≤ length changes = few_before changes in
    let one : upto_others change (before_own changes) ≤ suc (before_own changes) = one_few change (before_own changes) in
    omega (arith, rest, one)

-- it shows the same now
pub same_now : (m : Memory) → now (tree_alone m) ≡ now (history_of m)
same_now m =
    let few : before_own m.changes ≤ length m.changes = few_before m.changes in
    let e : before_own m.changes + (length m.changes - before_own m.changes) ≡ length m.changes = omega (arith, few) in
    ap (λ (n : ℕ). replayed (take n m.changes) (empty_at m.start)) e

pub formed : (m : Memory) → AreFormed (history_of m) → AreFormed (tree_alone m)
formed m are = record {
  each = λ k upto. let few : before_own m.changes ≤ length m.changes = few_before m.changes in are.each (before_own m.changes + k) (omega (arith, few, upto));
}

module _ (old new : Memory) (same : before_own new.changes ≡ before_own old.changes) where
  pub extends : Extends (history_of old) (history_of new) → Extends (tree_alone old) (tree_alone new)
  extends past = record {
    told = refl;
    later = let later : length old.changes ≤ length new.changes = past.later in omega (arith, same, later);
    who = λ k below. refl;
    stay = λ k upto.
        let few : before_own old.changes ≤ length old.changes = few_before old.changes in
        ap (λ (n : ℕ). replayed (take (n + k) new.changes) (empty_at new.start)) same
        ∙ past.stay (before_own old.changes + k) (omega (arith, few, upto));
  }

  pub passes : length new.changes ≡ length old.changes → Extends (history_of old) (history_of new) → Passes (tree_alone old) (tree_alone new)
  passes none past = record { past = extends past; by_others = λ k from to. absurd (omega (arith, same, none, from, to)) }

  pub acts : (step : Moment → Moment → Type 0) → length new.changes ≤ length old.changes + 1 → Acts step (history_of old) (history_of new) → Acts step (tree_alone old) (tree_alone new)
  acts step more h =
      let few : before_own old.changes ≤ length old.changes = few_before old.changes in
      let later : length old.changes ≤ h.before = h.later in
      let last : length new.changes ≡ suc h.before = h.last in
      let from : before_own new.changes + (h.before - before_own old.changes) ≡ h.before = omega (arith, same, few, later) in
      let to : before_own new.changes + suc (h.before - before_own old.changes) ≡ suc h.before = omega (arith, same, few, later) in
      record {
        past = extends h.past;
        before = h.before - before_own old.changes;
        last = omega (arith, same, few, later, last);
        later = omega (arith, few, later);
        by_others = λ k low high. absurd (omega (arith, few, later, last, more, low, high));
        by_us = refl;
        made =
            subst (λ (n : ℕ). step (replayed (take n new.changes) (empty_at new.start)) (replayed (take (before_own new.changes + suc (h.before - before_own old.changes)) new.changes) (empty_at new.start))) (sym from)
            (subst (λ (n : ℕ). step ((history_of new).at h.before) (replayed (take n new.changes) (empty_at new.start))) (sym to) h.made);
      }

-- what a call leaves that changes nothing
pub record Stays (old new : Memory) : Type 0 where
  pub start : new.start ≡ old.start
  pub changes : new.changes ≡ old.changes
  pub due : new.due ≡ []

-- what one leaves that made one change at most
pub record Steps (old new : Memory) : Type 0 where
  pub same : before_own new.changes ≡ before_own old.changes
  pub few : length new.changes ≤ length old.changes + 1
  pub due : new.due ≡ []

pub stays_now : (old new : Memory) → Stays old new → now (tree_alone new) ≡ now (tree_alone old)
stays_now old new stays =
    same_now new
    ∙ ap (λ (s : Time). replayed (take (length new.changes) new.changes) (empty_at s)) stays.start
    ∙ ap (λ (l : List Change). replayed (take (length l) l) (empty_at old.start)) stays.changes
    ∙ sym (same_now old)

pub stays_passes : (old new : Memory) → Stays old new → Passes (history_of old) (history_of new) → Passes (tree_alone old) (tree_alone new)
stays_passes old new stays h = passes old new (ap before_own stays.changes) (ap length stays.changes) h.past

module _ (old : Memory) (alone : old.due ≡ []) where
  none_coming : coming old ≡ []
  none_coming = ap (λ (l : List Due). coming_of old.calls.made l) alone

  same_due : (after_due old).changes ≡ old.changes
  same_due = ap (λ (l : List Change). old.changes ++ l) none_coming ∙ append-nil old.changes

  -- what is shown behind what was due is what is shown
  pub due_now : now (history_of (after_due old)) ≡ now (tree_alone old)
  due_now = ap (λ (l : List Change). replayed (take (length l) l) (empty_at old.start)) same_due ∙ sym (same_now old)

  as_called : (new : Memory) → new ≡ after_call old → Stays old new
  as_called new is = record {
    start = ap (λ (m : Memory). m.start) is;
    changes = ap (λ (m : Memory). m.changes) is ∙ same_due;
    due = ap (λ (m : Memory). m.due) is ∙ alone;
  }

  as_failure : (new : Memory) → new ≡ after_failure old → Stays old new
  as_failure new is = record {
    start = ap (λ (m : Memory). m.start) is;
    changes = ap (λ (m : Memory). m.changes) is ∙ same_due;
    due = ap (λ (m : Memory). m.due) is ∙ alone;
  }

  as_failed : (new : Memory) → Fails old new → Stays old new
  as_failed new (inl due) = as_failure new due.1
  as_failed new (inr lacks) = let none : length (coming old) ≡ 0 = ap length none_coming in let less : lacks.some < length (coming old) = lacks.less in absurd (omega (arith, none, less))

  as_noted : (new : Memory) (ask : Asked) → new ≡ noting ask (after_call old) → Stays old new
  as_noted new ask is = record {
    start = ap (λ (m : Memory). m.start) is;
    changes = ap (λ (m : Memory). m.changes) is ∙ same_due;
    due = ap (λ (m : Memory). m.due) is ∙ alone;
  }

  -- a call that looks
  pub looked : {T E : Type 0} (new : Memory) (r : Result T E) → OnOk r (new ≡ after_call old) → OnErr r (Fails old new) → Stays old new
  looked new (Ok x) is h = as_called new is
  looked new (Err e) is h = as_failed new h

  pub own_called : (what : Own) (new : Memory) → new ≡ with_own what (after_call old) → Steps old new
  own_called what new is =
      let size : length new.changes ≡ length (old.changes ++ coming old) + 1 = ap (λ (m : Memory). length m.changes) is ∙ length_push (old.changes ++ coming old) (by_us what) in
      let before : length (old.changes ++ coming old) ≡ length old.changes = ap length same_due in
      record {
        same = ap (λ (m : Memory). before_own m.changes) is ∙ own_change what (old.changes ++ coming old) ∙ ap before_own same_due;
        few = omega (arith, size, before);
        due = ap (λ (m : Memory). m.due) is ∙ alone;
      }

stays_steps : (old new : Memory) → Stays old new → Steps old new
stays_steps old new stays =
    let size : length new.changes ≡ length old.changes = ap length stays.changes in
    record { same = ap before_own stays.changes; few = omega (arith, size); due = stays.due }

noted_stays : (ask : Asked) (old new : Memory) → Stays (noting ask old) new → Stays old new
noted_stays ask old new h = record { start = h.start; changes = h.changes; due = h.due }

module _ (old : Memory) (alone : old.due ≡ []) (new : Memory) where
  pub listed : {T : Type 0} (dir : Option (List ℕ)) (r : Result T TreeFault) → LeavesListed dir r old new → Stays old new
  listed dir (Ok x) h = as_noted old alone new (an_ask.List dir) h.1
  listed dir (Err a_fault.OutOfMemory) (inl same) =
      record { start = ap (λ (m : Memory). m.start) same; changes = ap (λ (m : Memory). m.changes) same; due = ap (λ (m : Memory). m.due) same ∙ alone }
  listed dir (Err a_fault.OutOfMemory) (inr h) = as_noted old alone new (an_ask.List dir) h.1
  listed dir (Err a_fault.Failed) h = noted_stays (an_ask.List dir) old new (as_failed (noting (an_ask.List dir) old) alone new h)

  pub read : {T : Type 0} (path : List ℕ) (r : Result T Failed) → LeavesRead path r old new → Stays old new
  read path (Ok x) h = as_noted old alone new (an_ask.Read path) h.1
  read path (Err e) (inl h) = noted_stays (an_ask.Read path) old new (as_failed (noting (an_ask.Read path) old) alone new h)
  read path (Err e) (inr (inl h)) = as_failed old alone new h
  read path (Err e) (inr (inr h)) = as_failure old alone new h.1

  pub owned : (what : Own) (r : Result Bool Failed) → LeavesOwn what r old new → Steps old new
  owned what (Ok true) h = own_called old alone what new h.1
  owned what (Ok false) h = stays_steps old new (as_called old alone new h.1)
  owned what (Err e) (inl h) = stays_steps old new (as_failed old alone new h)
  owned what (Err e) (inr h) = stays_steps old new (as_failure old alone new h)

  undone : (what : Own) → new ≡ after_call old → Passes (history_of old) (history_of new) → Passes (tree_alone old) (tree_alone new)
  undone what is gone = stays_passes old new (as_called old alone new is) gone

  pub unlinks : (what : Own) (path : List ℕ) (r : Result Bool Failed) → LeavesOwn what r old new → IfOk r (λ done. Unlinks path done (history_of old) (history_of new))
      → IfOk r (λ done. Unlinks path done (tree_alone old) (tree_alone new))
  unlinks what path (Ok true) h did = let steps = own_called old alone what new h.1 in acts old new steps.same (IsUnlink path) steps.few did
  unlinks what path (Ok false) h did = (undone what h.1 did.0, subst (λ (m : Moment). bytes_at m path ≡ None) (sym (same_now new)) did.1)
  unlinks what path (Err e) h did = tt

  pub puts : (what : Own) (kind : Kind) (exec : Bool) (place : ℕ) (bytes path : List ℕ) (r : Result Bool Failed) → LeavesOwn what r old new
      → IfOk r (λ done. Puts kind exec place bytes path done (history_of old) (history_of new)) → IfOk r (λ done. Puts kind exec place bytes path done (tree_alone old) (tree_alone new))
  puts what kind exec place bytes path (Ok true) h did = let steps = own_called old alone what new h.1 in acts old new steps.same (IsPut kind exec place bytes path) steps.few did
  puts what kind exec place bytes path (Ok false) h did = (undone what h.1 did.0, subst (λ (m : Moment). CannotPut kind exec place bytes path m.things) (sym (same_now new)) did.1)
  puts what kind exec place bytes path (Err e) h did = tt

  pub own_failed : (what : Own) (P : History → History → Type 0) (r : Result Bool Failed) → LeavesOwn what r old new → OnErr r (Passes (history_of old) (history_of new))
      → IfErr r (λ e. Passes (tree_alone old) (tree_alone new) ⊎ P (tree_alone old) (tree_alone new))
  own_failed what P (Ok done) h gone = tt
  own_failed what P (Err e) (inl h) gone = inl (stays_passes old new (as_failed old alone new h) gone)
  own_failed what P (Err e) (inr h) gone = inl (stays_passes old new (as_failure old alone new h) gone)

pub ok_formed : {T E : Type 0} (m : Memory) (r : Result T E) → OnOk r (AreFormed (history_of m)) → OnOk r (AreFormed (tree_alone m))
ok_formed m (Ok x) are = formed m are
ok_formed m (Err e) are = tt

-- what was found stands there at the end
pub found : {T E : Type 0} (old : Memory) → old.due ≡ [] → (new : Memory) (r : Result T E) (P : Moment → T → Type 0) → Stays old new
    → IfOk r (P (now (history_of (after_due old)))) → IfOk r (P (now (tree_alone new)))
found old alone new r P stays h = subst (λ (m : Moment). IfOk r (P m)) (due_now old alone ∙ sym (stays_now old new stays)) h
