-- What taking the lock and giving it back say of a shelf in memory.
use Rattle.std.proofs.Common.{◌≡◌, ◌+◌, ◌-◌, ◌^◌, [], ◌∷◌, ◌++◌, length, ap, sym, ◌∙◌, Bool, true, false, arith, Result, Ok, Err, min, inl, inr, List, refl, ◌⊎◌}
use Rattle.std.specs.Prelude.{if◌then◌else◌, IfOk, OnOk, OnErr}
use Rattle.hg_shelf.specs.Lock.{IsNoted, Locks, NotesLock, NotesUnlock, Unlocks}
use Rattle.hg_shelf.specs.Memory.{Memory, FailsLocking, after_call, history_of, locking}
use Rattle.hg_shelf.specs.declared.asked.LockAnswer.{LockAnswer}
use Rattle.hg_shelf.specs.declared.asked.LockAnswer.TheVariants as an_answer
use Rattle.hg_shelf.specs.declared.asked.LockCall.{LockCall}
use Rattle.hg_shelf.specs.declared.outside.Change.{Change}
use Rattle.hg_shelf.proofs.Asking.{asked_failed}
use Rattle.hg_shelf.proofs.Courses.{Grew, grew_called, went_failed}

-- what a call came to is noted with its last moment, where it made no change behind those of others
is_noted : (answer : LockAnswer) (old behind new : Memory) → new.locks ≡ behind.locks ++ record { answer = answer; moment = length behind.changes } ∷ [] → new.changes ≡ behind.changes → behind.locks ≡ old.locks
    → IsNoted answer (history_of old) (history_of new)
is_noted answer old behind new noted same before =
    noted
    ∙ ap (λ (l : List LockCall). l ++ record { answer = answer; moment = length behind.changes } ∷ []) before
    ∙ ap (λ (l : List Change). old.locks ++ record { answer = answer; moment = length l } ∷ []) (sym same)

-- ---- a call that failed

-- it leaves all but its note as it was
record Failed (answer : LockAnswer) (old new : Memory) : Type 0 where
  grew : Grew old new
  ours : new.ours ≡ old.ours
  refusals : new.refusals ≡ old.refusals
  asked : new.asked ≡ old.asked
  noted : IsNoted answer (history_of old) (history_of new) ⊎ (new.locks ≡ old.locks)

failed : (answer : LockAnswer) (old new : Memory) → FailsLocking answer old new → Failed answer old new
failed answer old new fails =
    let went = went_failed old fails.behind fails.failed in
    elim fails.noted [
      | inl noted ↦ record {
        grew = record { more = went.grew.more; grown = ap (λ (m : Memory). m.changes) noted ∙ went.grew.grown; others = went.grew.others };
        ours = ap (λ (m : Memory). m.ours) noted ∙ went.ours;
        refusals = ap (λ (m : Memory). m.refusals) noted ∙ went.refusals;
        asked = ap (λ (m : Memory). m.asked) noted ∙ asked_failed old fails.behind fails.failed;
        noted = inl (is_noted answer old fails.behind new (ap (λ (m : Memory). m.locks) noted) (ap (λ (m : Memory). m.changes) noted) went.locks);
      }
      | inr same ↦ record {
        grew = record { more = went.grew.more; grown = ap (λ (m : Memory). m.changes) same ∙ went.grew.grown; others = went.grew.others };
        ours = ap (λ (m : Memory). m.ours) same ∙ went.ours;
        refusals = ap (λ (m : Memory). m.refusals) same ∙ went.refusals;
        asked = ap (λ (m : Memory). m.asked) same ∙ asked_failed old fails.behind fails.failed;
        noted = inr (ap (λ (m : Memory). m.locks) same ∙ went.locks);
      }
    ]

-- ---- taking it

-- the memory after a lock that was answered
abbrev pub locked : Bool → Memory → Memory
locked taken old =
    if taken
    then record (locking an_answer.Taken (after_call old)) { ours = true }
    else record (locking an_answer.Refused (after_call old)) { refusals = min (old.refusals + 1) (2 ^ 64 - 1) }

-- what a call of the lock leaves but for the lock
pub record Called (old new : Memory) : Type 0 where
  pub grew : Grew old new
  pub asked : new.asked ≡ old.asked

called_lock : (taken : Bool) (old new : Memory) → new ≡ locked taken old → Called old new
called_lock true old new is = record { grew = grew_called old new (ap (λ (m : Memory). m.changes) is); asked = ap (λ (m : Memory). m.asked) is }
called_lock false old new is = record { grew = grew_called old new (ap (λ (m : Memory). m.changes) is); asked = ap (λ (m : Memory). m.asked) is }

called_failed : (answer : LockAnswer) (old new : Memory) → FailsLocking answer old new → Called old new
called_failed answer old new fails = let is = failed answer old new fails in record { grew = is.grew; asked = is.asked }

module _ {E : Type 0} (old new : Memory) where
  pub calls_lock : (r : Result Bool E) → IfOk r (λ taken. new ≡ locked taken old) → OnErr r (FailsLocking an_answer.NotTaken old new) → Called old new
  calls_lock (Ok taken) is fails = called_lock taken old new is
  calls_lock (Err e) is fails = called_failed an_answer.NotTaken old new fails

  pub locks : (r : Result Bool E) → IfOk r (λ taken. new ≡ locked taken old) → OnErr r (FailsLocking an_answer.NotTaken old new) → Locks old.ours new.ours old.refusals new.refusals r
  locks (Ok true) is fails = (ap (λ (m : Memory). m.ours) is, ap (λ (m : Memory). m.refusals) is)
  locks (Ok false) is fails =
      let count : new.refusals ≡ min (old.refusals + 1) (2 ^ 64 - 1) = ap (λ (m : Memory). m.refusals) is in
      (ap (λ (m : Memory). m.ours) is, omega (arith, count))
  locks (Err e) is fails = let is = failed an_answer.NotTaken old new fails in (is.ours, is.refusals)

  pub notes_lock : (r : Result Bool E) → IfOk r (λ taken. new ≡ locked taken old) → OnErr r (FailsLocking an_answer.NotTaken old new) → NotesLock (history_of old) (history_of new) r
  notes_lock (Ok true) is fails = is_noted an_answer.Taken old (after_call old) new (ap (λ (m : Memory). m.locks) is) (ap (λ (m : Memory). m.changes) is) refl
  notes_lock (Ok false) is fails = is_noted an_answer.Refused old (after_call old) new (ap (λ (m : Memory). m.locks) is) (ap (λ (m : Memory). m.changes) is) refl
  notes_lock (Err e) is fails = (failed an_answer.NotTaken old new fails).noted

-- ---- giving it back

-- the memory after it was given back
abbrev pub unlocked : Memory → Memory
unlocked old = record (locking an_answer.GivenBack (after_call old)) { ours = false }

module _ {T E : Type 0} (old new : Memory) where
  pub calls_unlock : (r : Result T E) → OnOk r (new ≡ unlocked old) → OnErr r (FailsLocking an_answer.NotGivenBack old new) → Called old new
  calls_unlock (Ok x) is fails = record { grew = grew_called old new (ap (λ (m : Memory). m.changes) is); asked = ap (λ (m : Memory). m.asked) is }
  calls_unlock (Err e) is fails = called_failed an_answer.NotGivenBack old new fails

  pub unlocks : (r : Result T E) → OnOk r (new ≡ unlocked old) → OnErr r (FailsLocking an_answer.NotGivenBack old new) → Unlocks old.ours new.ours r
  unlocks (Ok x) is fails = ap (λ (m : Memory). m.ours) is
  unlocks (Err e) is fails = λ ours. sym (failed an_answer.NotGivenBack old new fails).ours ∙ ours

  pub refusals_unlock : (r : Result T E) → OnOk r (new ≡ unlocked old) → OnErr r (FailsLocking an_answer.NotGivenBack old new) → new.refusals ≡ old.refusals
  refusals_unlock (Ok x) is fails = ap (λ (m : Memory). m.refusals) is
  refusals_unlock (Err e) is fails = (failed an_answer.NotGivenBack old new fails).refusals

  pub notes_unlock : (r : Result T E) → OnOk r (new ≡ unlocked old) → OnErr r (FailsLocking an_answer.NotGivenBack old new) → NotesUnlock (history_of old) (history_of new) r
  notes_unlock (Ok x) is fails = is_noted an_answer.GivenBack old (after_call old) new (ap (λ (m : Memory). m.locks) is) (ap (λ (m : Memory). m.changes) is) refl
  notes_unlock (Err e) is fails = (failed an_answer.NotGivenBack old new fails).noted
