-- What a call leaves of a shelf in memory whose changes are all the caller's own: such a one.
use Rattle.std.proofs.Common.{ℕ, zero, suc, ◌≡◌, ◌+◌, ◌++◌, ◌<◌, ◌&&◌, Bool, true, false, cond, List, [], ◌∷◌, length, take, drop, Option, Some, None, Result, Ok, Err, inl, inr, refl, sym, ap, ◌∙◌, subst, arith}
use Rattle.std.specs.Prelude.{IfOk, OnErr, OnOk, min, ◌^◌, ◌-◌}
use Rattle.std.specs.Str.{bytes_eq}
use Rattle.std.proofs.lemmas.Bool.{and_from, and_parts, cond-true}
use Rattle.std.proofs.lemmas.List.{append-nil, take_all}
use Rattle.hg_alone.specs.Alone.{IsOwn, all_own, files_of}
use Rattle.hg_tree.proofs.Planting.{equal_bytes}
use Rattle.hg_shelf.proofs.Replay.{replayed_push, same_maps}
use Rattle.hg_shelf.specs.History.{Files, label, us}
use Rattle.hg_shelf.specs.Images.{Scene}
use Rattle.hg_shelf.specs.Memory.{Fails, FailsAsking, FailsLocking, Lacks, Memory, after_call, after_due, after_own, asking, by_us, coming, coming_of, empty, locking, maker_at, next, replayed, with_file}
use Rattle.hg_shelf.specs.Rules.{content, overwritten, without}
use Rattle.hg_shelf.specs.declared.asked.Asked.{Asked}
use Rattle.hg_shelf.specs.declared.asked.LockAnswer.{LockAnswer}
use Rattle.hg_shelf.specs.declared.asked.LockAnswer.TheVariants as an_answer
use Rattle.hg_shelf.specs.declared.outside.Change.{Change}
use Rattle.hg_shelf.specs.declared.outside.Due.{Due}
use Rattle.hg_shelf.specs.declared.outside.Step.{Step}
use Rattle.hg_shelf.specs.declared.outside.Step.TheVariants as a_step

abbrev no_bytes : List ℕ
no_bytes = []

abbrev no_changes : List Change
no_changes = []

no_more : (n : ℕ) → take n no_changes ≡ no_changes
no_more zero = refl
no_more (suc n) = refl

abbrev AreOwn : List Change → Type 0
AreOwn changes = all_own changes ≡ true

one_more : (changes : List Change) (change : Change) → change.by_us ≡ true → AreOwn changes → AreOwn (changes ++ change ∷ [])
one_more [] change is own = ap (λ (b : Bool). b && true) is
one_more (first ∷ more) change is own =
    let parts = and_parts first.by_us (all_own more) own in
    and_from first.by_us (all_own (more ++ change ∷ [])) parts.0 (one_more more change is parts.1)

-- so each step is the caller's
pub own_steps : (changes : List Change) → AreOwn changes → (k : ℕ) → k < length changes → maker_at changes k ≡ us
own_steps [] own k below = absurd (omega (arith, below))
own_steps (change ∷ changes) own zero below = cond-true change.by_us us (label change.under_lock) (and_parts change.by_us (all_own changes) own).0
own_steps (change ∷ changes) own (suc k) below = own_steps changes (and_parts change.by_us (all_own changes) own).1 k (omega (arith, below))

module _ (old : Memory) (own : IsOwn old) where
  none_coming : coming old ≡ []
  none_coming = ap (λ (l : List Due). coming_of old.calls.made old.ours l) own.due

  same_changes : (n : ℕ) → old.changes ++ take n (coming old) ≡ old.changes
  same_changes n = ap (λ (l : List Change). old.changes ++ l) (ap (take n) none_coming ∙ no_more n) ∙ append-nil old.changes

  due_changes : (after_due old).changes ≡ old.changes
  due_changes = ap (λ (l : List Change). old.changes ++ l) none_coming ∙ append-nil old.changes

  -- what leaves the changes as they were
  pub kept : (new : Memory) → new.changes ≡ old.changes → new.due ≡ old.due → new.calls.failing ≡ old.calls.failing → IsOwn new
  kept new changes due failing = record { due = due ∙ own.due; failing = failing ∙ own.failing; changes = subst AreOwn (sym changes) own.changes }

  lacked : (new : Memory) → Lacks old new → IsOwn new
  lacked new h = kept new (ap (λ (m : Memory). m.changes) h.state ∙ same_changes h.some) (ap (λ (m : Memory). m.due) h.state) (ap (λ (m : Memory). m.calls.failing) h.state)

  pub failing : (new : Memory) → Fails old new → IsOwn new
  failing new (inl due) = kept new (ap (λ (m : Memory). m.changes) due.1 ∙ due_changes) (ap (λ (m : Memory). m.due) due.1) (ap (λ (m : Memory). m.calls.failing) due.1)
  failing new (inr h) = lacked new h

  pub did : (what : Step) (new : Memory) → new ≡ after_own what old → IsOwn new
  did what new is = record {
    due = ap (λ (m : Memory). m.due) is ∙ own.due;
    failing = ap (λ (m : Memory). m.calls.failing) is ∙ own.failing;
    changes =
        subst AreOwn (sym (ap (λ (m : Memory). m.changes) is ∙ ap (λ (l : List Change). l ++ by_us old what ∷ []) due_changes))
        (one_more old.changes (by_us old what) refl own.changes);
  }

  -- a call that does a step
  pub acted : {T E : Type 0} (new : Memory) (what : Step) (r : Result T E) → OnOk r (new ≡ after_own what old) → OnErr r (Fails old new) → IsOwn new
  acted new what (Ok x) is h = did what new is
  acted new what (Err e) is h = failing new h

  locked_noted : (answer : LockAnswer) (behind new : Memory) → IsOwn behind → new ≡ locking answer behind → IsOwn new
  locked_noted answer behind new was is = record {
    due = ap (λ (m : Memory). m.due) is ∙ was.due;
    failing = ap (λ (m : Memory). m.calls.failing) is ∙ was.failing;
    changes = subst AreOwn (sym (ap (λ (m : Memory). m.changes) is)) was.changes;
  }

  locked_failing : (answer : LockAnswer) (new : Memory) → FailsLocking answer old new → IsOwn new
  locked_failing answer new h = elim h.noted [
    | inl noted ↦ locked_noted answer h.behind new (failing h.behind h.failed) noted
    | inr same ↦ subst IsOwn (sym same) (failing h.behind h.failed)
  ]

  pub locked : {E : Type 0} (new : Memory) (r : Result Bool E)
      → IfOk r (λ taken. new ≡ cond taken (record (locking an_answer.Taken (after_call old)) { ours = true }) (record (locking an_answer.Refused (after_call old)) { refusals = min (old.refusals + 1) (2 ^ 64 - 1) }))
      → OnErr r (FailsLocking an_answer.NotTaken old new) → IsOwn new
  locked new (Ok true) is h = kept new (ap (λ (m : Memory). m.changes) is ∙ due_changes) (ap (λ (m : Memory). m.due) is) (ap (λ (m : Memory). m.calls.failing) is)
  locked new (Ok false) is h = kept new (ap (λ (m : Memory). m.changes) is ∙ due_changes) (ap (λ (m : Memory). m.due) is) (ap (λ (m : Memory). m.calls.failing) is)
  locked new (Err e) is h = locked_failing an_answer.NotTaken new h

  pub unlocked : {T E : Type 0} (new : Memory) (r : Result T E) → OnOk r (new ≡ record (locking an_answer.GivenBack (after_call old)) { ours = false }) → OnErr r (FailsLocking an_answer.NotGivenBack old new) → IsOwn new
  unlocked new (Ok x) is h = kept new (ap (λ (m : Memory). m.changes) is ∙ due_changes) (ap (λ (m : Memory). m.due) is) (ap (λ (m : Memory). m.calls.failing) is)
  unlocked new (Err e) is h = locked_failing an_answer.NotGivenBack new h

  -- ---- the files that reads show

  shows_all : (memory : Memory) → files_of memory ≡ (replayed memory.changes empty).files
  shows_all memory = ap (λ (l : List Change). (replayed l empty).files) (take_all (length memory.changes) memory.changes (omega arith))

  files_did : (what : Step) (new : Memory) → new ≡ after_own what old → files_of new ≡ (next what (replayed old.changes empty)).files
  files_did what new is =
      shows_all new
      ∙ ap (λ (l : List Change). (replayed l empty).files) (ap (λ (m : Memory). m.changes) is ∙ ap (λ (l : List Change). l ++ by_us old what ∷ []) due_changes)
      ∙ ap (λ (s : Scene). s.files) (replayed_push old.changes (by_us old what) empty)

  pub cleared : {T E : Type 0} (name : List ℕ) (new : Memory) (r : Result T E) → OnOk r (new ≡ after_own (a_step.Removed name) old) → OnOk r (files_of new ≡ without name (files_of old))
  cleared name new (Ok x) is = files_did (a_step.Removed name) new is ∙ ap (without name) (sym (shows_all old))
  cleared name new (Err e) is = tt

  no_rest : (n : ℕ) → drop n no_bytes ≡ no_bytes
  no_rest zero = refl
  no_rest (suc n) = refl

  over_nothing : (bytes : List ℕ) → overwritten [] 0 bytes ≡ bytes
  over_nothing bytes = ap (λ (l : List ℕ). bytes ++ l) (no_rest (0 + length bytes)) ∙ append-nil bytes

  pub filled : {T E : Type 0} (name bytes : List ℕ) (new : Memory) (r : Result T E) → OnOk r (new ≡ after_own (a_step.Wrote name 0 bytes) old)
      → OnOk r (files_of old name ≡ None → files_of new ≡ with_file name bytes (files_of old))
  filled name bytes new (Ok x) is = λ free.
      files_did (a_step.Wrote name 0 bytes) new is
      ∙ ap (λ (f : Files). with_file name (overwritten (content (f name)) 0 bytes) f) (sym (shows_all old))
      ∙ ap (λ (b : List ℕ). with_file name b (files_of old)) (ap (λ (o : Option (List ℕ)). overwritten (content o) 0 bytes) free ∙ over_nothing bytes)
  filled name bytes new (Err e) is = tt

-- a call that asks
pub asked : {T E : Type 0} (old : Memory) (own : IsOwn old) (new : Memory) (ask : Asked) (r : Result T E) → OnOk r (new ≡ asking ask (after_call old)) → OnErr r (FailsAsking ask old new) → IsOwn new
asked old own new ask (Ok x) is h = kept old own new (ap (λ (m : Memory). m.changes) is ∙ due_changes old own) (ap (λ (m : Memory). m.due) is) (ap (λ (m : Memory). m.calls.failing) is)
asked old own new ask (Err e) is (inl h) = failing (asking ask old) (record { due = own.due; failing = own.failing; changes = own.changes }) new h
asked old own new ask (Err e) is (inr h) = lacked old own new h

-- a file that is put in place of another
put_there : (name bytes : List ℕ) (b : Bool) (o : Option (List ℕ)) → cond b (Some bytes) (cond b None o) ≡ cond b (Some bytes) o
put_there name bytes true o = refl
put_there name bytes false o = refl

pub put_so : (name bytes : List ℕ) (old mid new : Files) → mid ≡ without name old → (mid name ≡ None → new ≡ with_file name bytes mid) → new ≡ with_file name bytes old
put_so name bytes old mid new cleared filled =
    filled (ap (λ (f : Files). f name) cleared ∙ cond-true (bytes_eq name name) None (old name) (equal_bytes name))
    ∙ ap (with_file name bytes) cleared
    ∙ same_maps (with_file name bytes (without name old)) (with_file name bytes old) (λ at. put_there name bytes (bytes_eq name at) (old at))
