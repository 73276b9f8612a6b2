-- Spans in which the caller made no step, one behind another.
use Rattle.std.proofs.Common.{◌≡◌, sym, ap, ◌∙◌, arith, inl, inr}
use Rattle.std.proofs.lemmas.Bool.{cases_lt}
use Rattle.hg_tree.specs.History.{History, Extends, IsOurs, Passes, others, us, now}
use Rattle.hg_tree.proofs.Histories.{extends_same, extends_trans}

pub passes_same : (h : History) → Passes h h
passes_same h = record { past = extends_same h; by_others = λ k from upto. absurd (omega (arith, from, upto)) }

pub passes_trans : (a b c : History) → Passes a b → Passes b c → Passes a c
passes_trans a b c p q = record {
  past = extends_trans a b c p.past q.past;
  by_others = λ k from upto.
      elim (cases_lt k b.last) [
        | inl below ↦ q.past.who k below ∙ p.by_others k from below
        | inr above ↦ q.by_others k above upto
      ];
}

-- where nobody else steps over a span, nobody does over its first part, nor over its second
pub ours_first : (a b c : History) → Extends b c → IsOurs a c → IsOurs a b
ours_first a b c q ours = record { told = ours.told; ours = λ k from upto. sym (q.who k upto) ∙ ours.ours k from (omega (arith, upto, q.later)) }

pub ours_second : (a b c : History) → Extends a b → IsOurs a c → IsOurs b c
ours_second a b c p ours = record { told = p.told ∙ ours.told; ours = λ k from upto. ours.ours k (omega (arith, from, p.later)) upto }

pub who_apart : us ≡ others → ⊥
who_apart is = absurd (cc is)

-- the caller's part of a call that only asks is nothing, so where nobody else steps no step is made
pub ours_unstepped : (old new : History) → Passes old new → IsOurs old new → new.last ≡ old.last
ours_unstepped old new passes ours =
    elim (cases_lt old.last new.last) [
      | inl less ↦ absurd (who_apart (sym (ours.ours old.last (omega arith) less) ∙ passes.by_others old.last (omega arith) less))
      | inr most ↦ (omega (arith, most, passes.past.later))
    ]

-- and the same moment stands behind it
pub now_same : (a b : History) → Passes a b → IsOurs a b → now b ≡ now a
now_same a b passes ours = ap b.at (ours_unstepped a b passes ours) ∙ passes.past.stay a.last (omega arith)
