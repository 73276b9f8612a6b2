-- What a call of a shelf in memory says of what it was asked.
use Rattle.std.proofs.Common.{◌≡◌, [], ◌∷◌, ap, refl, Result, Ok, Err, inl, inr}
use Rattle.std.specs.Prelude.{OnOk, OnErr, is_ok}
use Rattle.hg_shelf.specs.Asks.{Asks, AsksNothing}
use Rattle.hg_shelf.specs.Memory.{Memory, Fails, FailsAsking, after_call, after_own, asking, history_of}
use Rattle.hg_shelf.specs.declared.asked.Asked.{Asked}
use Rattle.hg_shelf.specs.declared.outside.Step.{Step}
use Rattle.hg_shelf.proofs.Courses.{Went, grew_called, went_failed, went_lacks}

-- a call that failed asked nothing by itself
pub asked_failed : (old new : Memory) → Fails old new → new.asked ≡ old.asked
asked_failed old new fails =
    elim fails [
      | inl due ↦ ap (λ (m : Memory). m.asked) due.1
      | inr lacks ↦ ap (λ (m : Memory). m.asked) lacks.state
    ]

-- ---- a call that asks

went_asking : (ask : Asked) (old new : Memory) → Went (asking ask old) new → Went old new
went_asking ask old new went = record {
  grew = record { more = went.grew.more; grown = went.grew.grown; others = went.grew.others };
  ours = went.ours;
  refusals = went.refusals;
  locks = went.locks;
}

pub went : {T E : Type 0} (ask : Asked) (old new : Memory) (r : Result T E) → OnOk r (new ≡ asking ask (after_call old)) → OnErr r (FailsAsking ask old new) → Went old new
went ask old new (Ok x) is fails = record {
  grew = grew_called old new (ap (λ (m : Memory). m.changes) is);
  ours = ap (λ (m : Memory). m.ours) is;
  refusals = ap (λ (m : Memory). m.refusals) is;
  locks = ap (λ (m : Memory). m.locks) is;
}
went ask old new (Err e) is fails =
    elim fails [
      | inl noted ↦ went_asking ask old new (went_failed (asking ask old) new noted)
      | inr lacks ↦ went_lacks old new lacks
    ]

pub asks : {T E : Type 0} (ask : Asked) (old new : Memory) (r : Result T E) → OnOk r (new ≡ asking ask (after_call old)) → OnErr r (FailsAsking ask old new)
    → Asks (is_ok r) (ask ∷ []) (history_of old) (history_of new)
asks ask old new (Ok x) is fails = inl (ap (λ (m : Memory). m.asked) is)
asks ask old new (Err e) is fails =
    elim fails [
      | inl noted ↦ inl (asked_failed (asking ask old) new noted)
      | inr lacks ↦ inr (refl, ap (λ (m : Memory). m.asked) lacks.state)
    ]

-- ---- a call that does a step

pub unasked : {T E : Type 0} (old new : Memory) (what : Step) (r : Result T E) → OnOk r (new ≡ after_own what old) → OnErr r (Fails old new) → AsksNothing (history_of old) (history_of new)
unasked old new what (Ok x) is fails = record { asked = ap (λ (m : Memory). m.asked) is; locks = ap (λ (m : Memory). m.locks) is }
unasked old new what (Err e) is fails = record { asked = asked_failed old new fails; locks = (went_failed old new fails).locks }
