-- What the calls of the lock round a change come to, from what each of them notes.
use Rattle.std.proofs.Common.{◌≡◌, ◌⊎◌, Bool, true, false, List, [], ◌∷◌, ◌++◌, Result, Ok, Err, refl, ap, ◌∙◌, inl, inr, arith}
use Rattle.std.proofs.lemmas.List.{append_assoc}
use Rattle.hg_base.specs.declared.fault.Failed.{Failed}
use Rattle.hg_session.specs.Call.{Count, Watched}
use Rattle.hg_session.specs.Change.{LockEnds}
use Rattle.hg_session.specs.Locks.{NotReturned, NotTaken, Refused, Returned, TakenAt, came_to}
use Rattle.hg_shelf.specs.History.{Extends, History}
use Rattle.hg_shelf.specs.Lock.{IsNoted, NotesLock, NotesUnlock}
use Rattle.hg_shelf.specs.declared.asked.LockAnswer.TheVariants as an_answer
use Rattle.hg_shelf.specs.declared.asked.LockCall.{LockCall}

-- ---- taking it

pub noted_taken : (old new : History) (ok : Bool) → ok ≡ true → NotesLock {E = Failed} old new (Ok ok) → IsNoted an_answer.Taken old new
noted_taken old new true is noted = noted
noted_taken old new false is noted = absurd (cc is)

pub refused_by : (old new : History) (ok : Bool) → ok ≡ false → NotesLock {E = Failed} old new (Ok ok) → Refused old new
refused_by old new true is noted = absurd (cc is)
refused_by old new false is noted = record { at = new.last; locks = noted }

pub not_taken_by : (old new : History) → IsNoted an_answer.NotTaken old new ⊎ (new.locks ≡ old.locks) → NotTaken old new
not_taken_by old new noted = record { at = new.last; locks = noted }

-- ---- giving it back, behind a change that doesn't call for it

module _ (a b c d : History) (p : Extends a b) (q : Extends b c) (r : Extends c d) (taken : IsNoted an_answer.Taken a b) (same : c.locks ≡ b.locks) where
  once : d.locks ≡ c.locks → d.locks ≡ a.locks ++ came_to an_answer.Taken b.last ∷ []
  once none = none ∙ same ∙ taken

  twice : (call : LockCall) → d.locks ≡ c.locks ++ call ∷ [] → d.locks ≡ a.locks ++ came_to an_answer.Taken b.last ∷ call ∷ []
  twice call noted =
      noted ∙ ap (λ (l : List LockCall). l ++ call ∷ []) (same ∙ taken)
      ∙ append_assoc a.locks (came_to an_answer.Taken b.last ∷ []) (call ∷ [])

  pub returned_by : IsNoted an_answer.GivenBack c d → Returned a d
  returned_by noted = record { from = b.last; back = d.last; order = omega (arith, q.later, r.later); locks = twice (came_to an_answer.GivenBack d.last) noted }

  pub not_returned_by : IsNoted an_answer.NotGivenBack c d ⊎ (d.locks ≡ c.locks) → NotReturned a d
  not_returned_by noted = record {
    from = b.last;
    back = d.last;
    order = omega (arith, q.later, r.later);
    locks = elim noted [ inl is ↦ inl (twice (came_to an_answer.NotGivenBack d.last) is) | inr none ↦ inr (once none) ];
  }

  taken_once : d.locks ≡ c.locks → TakenAt a d b.last c.last
  taken_once none = record { behind = []; locks = once none; later = tt }

  taken_twice : (call : LockCall) → call.moment ≡ d.last → d.locks ≡ c.locks ++ call ∷ [] → TakenAt a d b.last c.last
  taken_twice call last noted = record { behind = call ∷ []; locks = twice call noted; later = (omega (arith, last, r.later), tt) }

  pub taken_by : {T E : Type 0} (result : Result T E) → NotesUnlock c d result → TakenAt a d b.last c.last
  taken_by (Ok done) noted = taken_twice (came_to an_answer.GivenBack d.last) refl noted
  taken_by (Err fault) (inl noted) = taken_twice (came_to an_answer.NotGivenBack d.last) refl noted
  taken_by (Err fault) (inr none) = taken_once none

-- ---- what is so besides

-- where that is something else, too
pub ends_by : {A B C X Y Z : Type 0} → (A → X) → (B → Y) → (C → Z) → (files : Watched History) (locks : Count) → LockEnds A B C files locks → LockEnds X Y Z files locks
ends_by refused untaken unreturned files locks (inl was) =
    inl (record { told = was.told; ours = was.ours; counted = was.counted; unwritten = was.unwritten; besides = refused was.besides })
ends_by refused untaken unreturned files locks (inr (inl was)) =
    inr (inl (record { told = was.told; ours = was.ours; uncounted = was.uncounted; failed = was.failed; unwritten = was.unwritten; besides = untaken was.besides }))
ends_by refused untaken unreturned files locks (inr (inr (inl was))) = inr (inr (inl was))
ends_by refused untaken unreturned files locks (inr (inr (inr was))) =
    inr (inr (inr (record { told = was.told; uncounted = was.uncounted; failed = was.failed; besides = unreturned was.besides })))
