-- Histories over spans: what holds of two spans holds of both.
use Rattle.std.proofs.Common.{◌≡◌, refl, ap, ◌∙◌, arith, inl, inr, Bool, true, false, sym}
use Rattle.std.proofs.lemmas.Bool.{cases_lt}
use Rattle.hg_shelf.specs.History.{History, Moment, Stays, Extends, Passes, Waits, IsOurs, us, label}

pub stays_same : (m : Moment) → Stays m m
stays_same m = record { shown = refl }

pub stays_trans : (a b c : Moment) → Stays a b → Stays b c → Stays a c
stays_trans a b c p q = record { shown = q.shown ∙ p.shown }

pub extends_same : (h : History) → Extends h h
extends_same h = record { told = refl; later = omega arith; who = λ k below. refl; stay = λ k below. stays_same (h.at k) }

pub extends_trans : (a b c : History) → Extends a b → Extends b c → Extends a c
extends_trans a b c p q = record {
  told = q.told ∙ p.told;
  later = omega (arith, p.later, q.later);
  who = λ k below. q.who k (omega (arith, p.later, below)) ∙ p.who k below;
  stay = λ k below. stays_trans _ _ _ (p.stay k below) (q.stay k (omega (arith, p.later, below)));
}

pub passes_same : (h : History) → Passes h h
passes_same h = record { past = extends_same h; ours = refl; locks = refl; by_others = λ k from to. absurd (omega (arith, from, to)) }

pub passes_trans : (a b c : History) → Passes a b → Passes b c → Passes a c
passes_trans a b c p q = record {
  past = extends_trans a b c p.past q.past;
  ours = q.ours ∙ p.ours;
  locks = q.locks ∙ p.locks;
  by_others = λ k from to. elim (cases_lt k b.last) [
    | inl before ↦ q.past.who k before ∙ p.by_others k from before
    | inr behind ↦ q.by_others k behind to ∙ ap label p.ours
  ];
}

pub us_apart : (ours : Bool) → us ≡ label ours → ⊥
us_apart true is = absurd (cc is)
us_apart false is = absurd (cc is)

-- where the caller made no step, its lock may have changed hands too
pub passes_waits : (old new : History) → Passes old new → Waits old new
passes_waits old new passes = record { past = passes.past; none = λ k from to is. us_apart old.ours (sym is ∙ passes.by_others k from to) }

pub waits_same : (h : History) → Waits h h
waits_same h = passes_waits h h (passes_same h)

pub waits_trans : (a b c : History) → Waits a b → Waits b c → Waits a c
waits_trans a b c p q = record {
  past = extends_trans a b c p.past q.past;
  none = λ k from to is. elim (cases_lt k b.last) [
    | inl before ↦ p.none k from before (sym (q.past.who k before) ∙ is)
    | inr behind ↦ q.none k behind to is
  ];
}

-- the caller's part of a call that only asks is nothing, so where nobody else steps no step is made
pub ours_unstepped : (old new : History) → Passes old new → IsOurs old new → new.last ≡ old.last
ours_unstepped old new passes ours =
    elim (cases_lt old.last new.last) [
      | inl less ↦ absurd (us_apart old.ours (sym (ours.ours old.last (omega arith) less) ∙ passes.by_others old.last (omega arith) less))
      | inr most ↦ (omega (arith, most, passes.past.later))
    ]
