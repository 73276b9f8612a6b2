-- Who makes the steps while the lock is held.
use Rattle.std.proofs.Common.{◌≡◌, ◌⊎◌, ◌∙◌, true, ap, inl, inr, arith}
use Rattle.std.proofs.lemmas.Bool.{cases_lt}
use Rattle.hg_save.specs.Leads.{IsHeld}
use Rattle.hg_shelf.specs.History.{Extends, History, Passes, label}
use Rattle.hg_shelf.specs.Images.{Acts, Course, Scene}

-- no step was made
pub held_same : (h : History) → IsHeld h h
held_same h = record { each = λ k from to. absurd (omega (arith, from, to)) }

-- a call in which the caller made no step
pub held_passes : (old new : History) → old.ours ≡ true → Passes old new → IsHeld old new
held_passes old new ours passes = record { each = λ k from to. inr (passes.by_others k from to ∙ ap label ours) }

-- one in which it made one
pub held_acts : (rule : Scene → Scene → Type 0) (old new : Course) → old.history.ours ≡ true → Acts rule old new → IsHeld old.history new.history
held_acts rule old new ours acts = record {
  each = λ k from to. elim (cases_lt k acts.place) [
    | inl early ↦ inr (acts.before k from early ∙ ap label ours)
    | inr late ↦ elim (cases_lt acts.place k) [
      | inl behind ↦ inr (acts.behind k (omega (arith, behind)) to ∙ ap label ours)
      | inr here ↦ let at : k ≡ acts.place = omega (arith, late, here) in inl (ap new.history.who at ∙ acts.own)
    ]
  ];
}

-- one that may have made none
pub held_either : (rule : Scene → Scene → Type 0) (old new : Course) → old.history.ours ≡ true → Acts rule old new ⊎ Passes old.history new.history → IsHeld old.history new.history
held_either rule old new ours (inl acts) = held_acts rule old new ours acts
held_either rule old new ours (inr passes) = held_passes old.history new.history ours passes

-- one call behind another
pub held_then : (a b c : History) → Extends b c → IsHeld a b → IsHeld b c → IsHeld a c
held_then a b c past first second = record {
  each = λ k from to. elim (cases_lt k b.last) [
    | inl early ↦ elim (first.each k from early) [ inl own ↦ inl (past.who k early ∙ own) | inr read ↦ inr (past.who k early ∙ read) ]
    | inr late ↦ second.each k late to
  ];
}
