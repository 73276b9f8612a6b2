-- Whose steps keep the bytes that dockets use, over parts of a history.
use Rattle.std.proofs.Common.{ℕ, ◌≡◌, ◌≤◌, ◌<◌, ◌+◌, sym, ◌∙◌, subst, arith, inl, inr, IsTrue}
use Rattle.std.proofs.lemmas.Bool.{cases_lt}
use Rattle.hg_docket.specs.Docket.{docket_of}
use Rattle.hg_save.proofs.Spans.{keep_used, stays_itself}
use Rattle.hg_save.specs.Loads.{files_at}
use Rattle.hg_save.specs.Others.{HasData, KeepData, named_file}
use Rattle.hg_save.specs.Behind.{IsKeepingUsed, KeepsUsed}
use Rattle.hg_shelf.specs.History.{Extends, Files, History, Who, others, readers, us}
use Rattle.hg_shelf.specs.Images.{Course}
use Rattle.hg_shelf.specs.Polite.{OthersOnlyRead}

-- steps that aren't there keep anything
pub used_front : (by : Who) (h : History) (from start : ℕ) → ((k : ℕ) → from ≤ k → k < start → h.who k ≡ by → ⊥) → KeepsUsed by h start → KeepsUsed by h from
used_front by h from start none keep = record {
  each = λ k after before who. elim (cases_lt k start) [
    | inl early ↦ absurd (none k after early who)
    | inr late ↦ keep.each k late before who
  ];
}

-- a longer history whose further steps are by none keeps it as the shorter one does
pub used_longer : (by : Who) (h g : History) (from : ℕ) → Extends h g → ((k : ℕ) → h.last ≤ k → k < g.last → g.who k ≡ by → ⊥) → KeepsUsed by h from → KeepsUsed by g from
used_longer by h g from past none keep = record {
  each = λ k after before who. elim (cases_lt k h.last) [
    | inl early ↦
        subst (λ (f : Files). IsKeepingUsed f (files_at g (k + 1))) (sym (past.stay k (omega (arith, early))).shown)
        (subst (IsKeepingUsed (files_at h k)) (sym (past.stay (k + 1) (omega (arith, early))).shown) (keep.each k after early (sym (past.who k early) ∙ who)))
    | inr late ↦ absurd (none k late before who)
  ];
}

-- and the shorter one as the longer
pub used_shorter : (by : Who) (h g : History) (from : ℕ) → Extends h g → KeepsUsed by g from → KeepsUsed by h from
used_shorter by h g from past keep = record {
  each = λ k after before who.
      subst (λ (f : Files). IsKeepingUsed f (files_at h (k + 1))) (past.stay k (omega (arith, before))).shown
      (subst (IsKeepingUsed (files_at g k)) (past.stay (k + 1) (omega (arith, before))).shown (keep.each k after (omega (arith, before, past.later)) (past.who k before ∙ who)));
}

-- who keeps it from a moment on does from a later one on
pub used_later : (by : Who) (h : History) (from start : ℕ) → from ≤ start → KeepsUsed by h from → KeepsUsed by h start
used_later by h from start order keep = record { each = λ k after before who. keep.each k (omega (arith, order, after)) before who }

-- a step that changes nothing keeps it
pub using_itself : (x : Files) → IsKeepingUsed x x
using_itself x = record { kept = λ docket uses is. stays_itself (docket_of docket).used (named_file docket x); there = λ has. has; beyond = λ docket is. is }

-- steps that keep it up to a call and in it
pub used_both : (by : Who) (a b : History) (from : ℕ) → Extends a b → KeepsUsed by a from → KeepsUsed by b a.last → KeepsUsed by b from
used_both by a b from past first second = record {
  each = λ k after before who. elim (cases_lt k a.last) [
    | inl less ↦
        subst (λ (f : Files). IsKeepingUsed f (files_at b (k + 1))) (sym (past.stay k (omega (arith, less))).shown)
        (subst (λ (f : Files). IsKeepingUsed (files_at a k) f) (sym (past.stay (k + 1) (omega (arith, less))).shown) (first.each k after less (sym (past.who k less) ∙ who)))
    | inr most ↦ second.each k (omega (arith, most)) before who
  ];
}

-- others that only read keep it, too
pub used_beside : (c : Course) (from : ℕ) → IsTrue c.history.told → OthersOnlyRead c from → HasData (files_at c.history from) → KeepsUsed us c.history from → KeepsUsed others c.history from → KeepData c.history from
used_beside c from told only start own theirs = keep_used c.history from told start by_each
  where
    by_each : (by : Who) → KeepsUsed by c.history from
    by_each us = own
    by_each others = theirs
    by_each readers = record {
      each = λ k after before who. subst (IsKeepingUsed (files_at c.history k)) (sym (only.same k after before who).shown) (using_itself (files_at c.history k));
    }
