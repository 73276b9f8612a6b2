-- Spans of a history: what stays from one state of a tree to a later one.
use Rattle.std.proofs.Common.{refl, ◌∙◌, arith}
use Rattle.hg_tree.specs.History.{History, Extends}

pub extends_same : (h : History) → Extends h h
extends_same h = record { told = refl; later = omega arith; who = λ k below. refl; stay = λ k upto. refl }

pub extends_trans : (a b c : History) → Extends a b → Extends b c → Extends a c
extends_trans a b c p q = record {
  told = q.told ∙ p.told;
  later = omega (arith, p.later, q.later);
  who = λ k below. q.who k (omega (arith, below, p.later)) ∙ p.who k below;
  stay = λ k upto. q.stay k (omega (arith, upto, p.later)) ∙ p.stay k upto;
}
