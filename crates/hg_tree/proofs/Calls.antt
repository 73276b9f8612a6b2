-- What a call of the tree in memory adds to its history: what was due by others, and a change of the caller's behind it.
use Rattle.std.proofs.Common.{ℕ, zero, suc, ◌≡◌, ◌≤◌, ◌<◌, Bool, true, false, List, [], ◌∷◌, ◌++◌, length, take, Option, Some, None, Result, Ok, Err, inl, inr, refl, sym, ◌∙◌, ap, subst, arith, true≢false}
use Rattle.std.specs.Prelude.{is_some, ◌==◌, if◌then◌else◌, OnErr}
use Rattle.std.proofs.lemmas.List.{take-append-le, take_all, length_push, length-append, append_assoc}
use Rattle.hg_base.specs.declared.fault.Failed.{Failed}
use Rattle.hg_base.specs.declared.stat.Kind.{Kind}
use Rattle.hg_base.specs.declared.time.Time.{Time}
use Rattle.hg_base.specs.Times.{IsAtMost}
use Rattle.hg_tree.specs.declared.asked.Asked.{Asked}
use Rattle.hg_tree.specs.declared.asked.Asked.TheVariants as an_ask
use Rattle.hg_tree.specs.declared.asked.Change.{Change}
use Rattle.hg_tree.specs.declared.asked.Due.{Due}
use Rattle.hg_tree.specs.declared.asked.Own.{Own}
use Rattle.hg_tree.specs.declared.asked.Own.TheVariants as an_own
use Rattle.hg_tree.specs.declared.fault.TreeFault.{TreeFault}
use Rattle.hg_tree.specs.declared.fault.TreeFault.TheVariants as a_fault
use Rattle.hg_tree.specs.Change.{by_others}
use Rattle.hg_tree.specs.History.{Extends, Passes, us, others, now}
use Rattle.hg_tree.specs.Memory.{Memory, Fails, LeavesListed, LeavesOwn, LeavesRead, after_call, after_own_change, by_us, coming, coming_of, history_of, maker_at, noting, own_put, replayed, with_own}
use Rattle.hg_tree.specs.Moment.{Moment, bytes_at, empty_at}
use Rattle.hg_tree.specs.Own.{Acts, CanPut, IsPut, IsUnlink}
use Rattle.hg_tree.proofs.After.{replayed_push}
use Rattle.hg_tree.proofs.Shown.{now_is}
use Rattle.hg_tree.proofs.Spans.{passes_same}

-- others make each of some changes
abbrev pub AreOthers : List Change → Type 0
AreOthers changes = (k : ℕ) → maker_at changes k ≡ others

coming_one : (t : Bool) (change : Change) (more : List Change) → maker_at (change ∷ []) 0 ≡ others → AreOthers more → AreOthers (if t then change ∷ more else more)
coming_one true change more one h zero = one
coming_one true change more one h (suc k) = h k
coming_one false change more one h k = h k

coming_others : (call : ℕ) (due : List Due) → AreOthers (coming_of call due)
coming_others call [] k = refl
coming_others call (d ∷ more) k = coming_one (d.call == call) (by_others d.change) (coming_of call more) refl (λ j. coming_others call more j) k

take_others : (some : ℕ) (changes : List Change) → AreOthers changes → AreOthers (take some changes)
take_others zero changes h k = refl
take_others (suc some) [] h k = refl
take_others (suc some) (change ∷ changes) h zero = h zero
take_others (suc some) (change ∷ changes) h (suc k) = take_others some changes (λ j. h (suc j)) k

maker_front : (changes more : List Change) (k : ℕ) → k < length changes → maker_at (changes ++ more) k ≡ maker_at changes k
maker_front [] more k below = absurd (omega (arith, below))
maker_front (change ∷ changes) more zero below = refl
maker_front (change ∷ changes) more (suc k) below = maker_front changes more k (omega (arith, below))

maker_behind : (changes more : List Change) → AreOthers more → (k : ℕ) → length changes ≤ k → maker_at (changes ++ more) k ≡ others
maker_behind [] more h k from = h k
maker_behind (change ∷ changes) more h zero from = absurd (omega (arith, from))
maker_behind (change ∷ changes) more h (suc k) from = maker_behind changes more h k (omega (arith, from))

maker_last : (changes : List Change) (what : Own) → maker_at (changes ++ by_us what ∷ []) (length changes) ≡ us
maker_last [] what = refl
maker_last (change ∷ changes) what = maker_last changes what

module _ (old new : Memory) (start : new.start ≡ old.start) where
  at_front : (more : List Change) → new.changes ≡ old.changes ++ more → (k : ℕ) → k ≤ length old.changes
      → replayed (take k new.changes) (empty_at new.start) ≡ replayed (take k old.changes) (empty_at old.start)
  at_front more is k upto =
      ap (λ (l : List Change). replayed (take k l) (empty_at new.start)) is
      ∙ ap (λ (l : List Change). replayed l (empty_at new.start)) (take-append-le k old.changes more upto)
      ∙ ap (λ (s : Time). replayed (take k old.changes) (empty_at s)) start

  pub extends_more : (more : List Change) → new.changes ≡ old.changes ++ more → Extends (history_of old) (history_of new)
  extends_more more is = let longer = ap length is in let sum = length-append old.changes more in record {
    told = refl;
    later = omega (arith, longer, sum);
    who = λ k below. ap (λ (l : List Change). maker_at l k) is ∙ maker_front old.changes more k below;
    stay = at_front more is;
  }

  pub passes_more : (more : List Change) → AreOthers more → new.changes ≡ old.changes ++ more → Passes (history_of old) (history_of new)
  passes_more more h is = record {
    past = extends_more more is;
    by_others = λ k from upto. ap (λ (l : List Change). maker_at l k) is ∙ maker_behind old.changes more h k from;
  }

  -- a change of the caller's stands behind those of others
  pub acts_more : (step : Moment → Moment → Type 0) (more : List Change) (what : Own) → AreOthers more → new.changes ≡ (old.changes ++ more) ++ by_us what ∷ []
      → step (replayed (old.changes ++ more) (empty_at old.start)) (after_own_change what (replayed (old.changes ++ more) (empty_at old.start)))
      → Acts step (history_of old) (history_of new)
  acts_more step more what h is made =
      let before = length (old.changes ++ more) in
      let sum = length-append old.changes more in
      let size = ap length is ∙ length_push (old.changes ++ more) (by_us what) in
      let first : replayed (take before new.changes) (empty_at new.start) ≡ replayed (old.changes ++ more) (empty_at old.start) =
      ap (λ (l : List Change). replayed (take before l) (empty_at new.start)) is
      ∙ ap (λ (l : List Change). replayed l (empty_at new.start)) (take-append-le before (old.changes ++ more) (by_us what ∷ []) (omega arith) ∙ take_all before (old.changes ++ more) (omega arith))
      ∙ ap (λ (s : Time). replayed (old.changes ++ more) (empty_at s)) start in
      let second : replayed (take (suc before) new.changes) (empty_at new.start) ≡ after_own_change what (replayed (old.changes ++ more) (empty_at old.start)) =
      ap (λ (l : List Change). replayed l (empty_at new.start)) (take_all (suc before) new.changes (omega (arith, size)) ∙ is)
      ∙ ap (λ (s : Time). replayed ((old.changes ++ more) ++ by_us what ∷ []) (empty_at s)) start
      ∙ replayed_push (old.changes ++ more) (by_us what) (empty_at old.start) in
      record {
        past = extends_more (more ++ by_us what ∷ []) (is ∙ append_assoc old.changes more (by_us what ∷ []));
        before = before;
        last = omega (arith, size);
        later = omega (arith, sum);
        by_others = λ k from upto.
            ap (λ (l : List Change). maker_at l k) is
            ∙ maker_front (old.changes ++ more) (by_us what ∷ []) k upto
            ∙ maker_behind old.changes more h k from;
        by_us = ap (λ (l : List Change). maker_at l before) is ∙ maker_last (old.changes ++ more) what;
        made = subst (λ (m : Moment). step m (replayed (take (suc before) new.changes) (empty_at new.start))) (sym first)
            (subst (step (replayed (old.changes ++ more) (empty_at old.start))) (sym second) made);
      }

pub called_passes : (old new : Memory) → new ≡ after_call old → Passes (history_of old) (history_of new)
called_passes old new is =
    passes_more old new (ap (λ (m : Memory). m.start) is) (coming old) (coming_others old.calls.made old.due) (ap (λ (m : Memory). m.changes) is)

due_passes : (old new : Memory) → new.start ≡ old.start → new.changes ≡ old.changes ++ coming old → Passes (history_of old) (history_of new)
due_passes old new start is = passes_more old new start (coming old) (coming_others old.calls.made old.due) is

pub fails_passes : (old new : Memory) → Fails old new → Passes (history_of old) (history_of new)
fails_passes old new (inl f) = due_passes old new (ap (λ (m : Memory). m.start) f.1) (ap (λ (m : Memory). m.changes) f.1)
fails_passes old new (inr lacks) =
    passes_more old new (ap (λ (m : Memory). m.start) lacks.state) (take lacks.some (coming old))
    (take_others lacks.some (coming old) (coming_others old.calls.made old.due)) (ap (λ (m : Memory). m.changes) lacks.state)

pub noted_passes : (ask : Asked) (old new : Memory) → Fails (noting ask old) new → Passes (history_of old) (history_of new)
noted_passes ask old new (inl f) = due_passes old new (ap (λ (m : Memory). m.start) f.1) (ap (λ (m : Memory). m.changes) f.1)
noted_passes ask old new (inr lacks) =
    passes_more old new (ap (λ (m : Memory). m.start) lacks.state) (take lacks.some (coming old))
    (take_others lacks.some (coming old) (coming_others old.calls.made old.due)) (ap (λ (m : Memory). m.changes) lacks.state)

pub listed_passes : {T : Type 0} (dir : Option (List ℕ)) (result : Result T TreeFault) (old new : Memory) → LeavesListed dir result old new → Passes (history_of old) (history_of new)
listed_passes dir (Ok found) old new s = due_passes old new (ap (λ (m : Memory). m.start) s.1) (ap (λ (m : Memory). m.changes) s.1)
listed_passes dir (Err a_fault.OutOfMemory) old new (inl same) = subst (λ (m : Memory). Passes (history_of old) (history_of m)) (sym same) (passes_same (history_of old))
listed_passes dir (Err a_fault.OutOfMemory) old new (inr s) = due_passes old new (ap (λ (m : Memory). m.start) s.1) (ap (λ (m : Memory). m.changes) s.1)
listed_passes dir (Err a_fault.Failed) old new s = noted_passes (an_ask.List dir) old new s

pub read_passes : {T : Type 0} (path : List ℕ) (result : Result T Failed) (old new : Memory) → LeavesRead path result old new → Passes (history_of old) (history_of new)
read_passes path (Ok got) old new s = due_passes old new (ap (λ (m : Memory). m.start) s.1) (ap (λ (m : Memory). m.changes) s.1)
read_passes path (Err fault) old new (inl s) = noted_passes (an_ask.Read path) old new s
read_passes path (Err fault) old new (inr (inl s)) = fails_passes old new s
read_passes path (Err fault) old new (inr (inr s)) = due_passes old new (ap (λ (m : Memory). m.start) s.1) (ap (λ (m : Memory). m.changes) s.1)

pub own_failed : (what : Own) (fault : Failed) (old new : Memory) → LeavesOwn what (Err fault) old new → Passes (history_of old) (history_of new)
own_failed what fault old new (inl s) = fails_passes old new s
own_failed what fault old new (inr s) = due_passes old new (ap (λ (m : Memory). m.start) s) (ap (λ (m : Memory). m.changes) s)

pub own_failed_on : (what : Own) (result : Result Bool Failed) (old new : Memory) → LeavesOwn what result old new → OnErr result (Passes (history_of old) (history_of new))
own_failed_on what (Ok done) old new s = tt
own_failed_on what (Err fault) old new s = own_failed what fault old new s

pub own_extends : (what : Own) (result : Result Bool Failed) (old new : Memory) → LeavesOwn what result old new → Extends (history_of old) (history_of new)
own_extends what (Ok true) old new s =
    extends_more old new (ap (λ (m : Memory). m.start) s.1) (coming old ++ by_us what ∷ [])
    (ap (λ (m : Memory). m.changes) s.1 ∙ append_assoc old.changes (coming old) (by_us what ∷ []))
own_extends what (Ok false) old new s = (called_passes old new s.1).past
own_extends what (Err fault) old new s = (own_failed what fault old new s).past

at_most_itself : (t : Time) → IsAtMost t t
at_most_itself t = inr (refl, omega arith)

module _ (old mid new : Memory) (called : mid ≡ after_call old) where
  abbrev then_was : Moment
  then_was = replayed (old.changes ++ coming old) (empty_at old.start)

  was_then : now (history_of mid) ≡ then_was
  was_then = now_is mid ∙ ap (λ (m : Memory). replayed m.changes (empty_at m.start)) called

  acts_with : (what : Own) (step : Moment → Moment → Type 0) → new ≡ with_own what mid → step then_was (after_own_change what then_was) → Acts step (history_of old) (history_of new)
  acts_with what step is made =
      let whole : new ≡ with_own what (after_call old) = is ∙ ap (with_own what) called in
      acts_more old new (ap (λ (m : Memory). m.start) whole) step (coming old) what (coming_others old.calls.made old.due) (ap (λ (m : Memory). m.changes) whole) made

  pub unlink_acts : (path : List ℕ) → is_some (bytes_at (now (history_of mid)) path) ≡ true → new ≡ with_own (an_own.Unlink path) mid → Acts (IsUnlink path) (history_of old) (history_of new)
  unlink_acts path there is = acts_with (an_own.Unlink path) (IsUnlink path) is (record {
    there = sym (ap (λ (m : Moment). is_some (bytes_at m path)) was_then) ∙ there;
    clock = at_most_itself then_was.clock;
    things = λ at. refl;
  })

  put_made : (kind : Kind) (exec : Bool) (place : ℕ) (bytes path : List ℕ) (m : Moment) → CanPut kind exec place bytes path m.things
      → IsPut kind exec place bytes path m (after_own_change (own_put kind exec place bytes path) m)
  put_made kind exec zero bytes path m can = record { can = can; clock = at_most_itself m.clock; things = λ at. refl }
  put_made kind exec (suc place) bytes path m can = record { can = can; clock = at_most_itself m.clock; things = λ at. refl }

  pub put_acts : (kind : Kind) (exec : Bool) (place : ℕ) (bytes path : List ℕ) → CanPut kind exec place bytes path (now (history_of mid)).things
      → new ≡ with_own (own_put kind exec place bytes path) mid → Acts (IsPut kind exec place bytes path) (history_of old) (history_of new)
  put_acts kind exec place bytes path can is = acts_with (own_put kind exec place bytes path) (IsPut kind exec place bytes path) is
      (put_made kind exec place bytes path then_was (subst (λ (m : Moment). CanPut kind exec place bytes path m.things) was_then can))

-- what isn't there is none
pub none_is : {A : Type 0} (o : Option A) → is_some o ≡ false → o ≡ None
none_is None h = refl
none_is (Some a) h = absurd (true≢false h)
