-- What is due at a call, one change after another.
use Rattle.std.proofs.Common.{ℕ, zero, suc, ◌≡◌, ◌+◌, Bool, true, false, List, [], ◌∷◌, ◌++◌, length, take, drop, refl, sym, ◌∙◌, ap, arith}
use Rattle.std.specs.Prelude.{slice_get, ◌==◌, if◌then◌else◌}
use Rattle.std.proofs.lemmas.List.{take_at, take-append-drop, length-append, append_assoc}
use Rattle.hg_tree.specs.declared.asked.Change.{Change}
use Rattle.hg_tree.specs.declared.asked.Due.{Due}
use Rattle.hg_tree.specs.Change.{by_others}
use Rattle.hg_tree.specs.Coming.{due_at}
use Rattle.hg_tree.specs.Memory.{Memory, Stops, coming_of}

module _ (call : ℕ) where
  first : (t : Bool) (d : Due) (xs ys : List Change) → (if t then by_others d.change ∷ (xs ++ ys) else (xs ++ ys)) ≡ (if t then by_others d.change ∷ xs else xs) ++ ys
  first true d xs ys = refl
  first false d xs ys = refl

  coming_append : (some more : List Due) → coming_of call (some ++ more) ≡ coming_of call some ++ coming_of call more
  coming_append [] more = refl
  coming_append (d ∷ some) more =
      ap (λ (l : List Change). if d.call == call then by_others d.change ∷ l else l) (coming_append some more)
      ∙ first (d.call == call) d (coming_of call some) (coming_of call more)

  coming_split : (due : List Due) (k : ℕ) → coming_of call due ≡ coming_of call (take k due) ++ coming_of call (drop k due)
  coming_split due k = ap (coming_of call) (sym (take-append-drop k due)) ∙ coming_append (take k due) (drop k due)

  -- the one at an index, and what comes behind it
  coming_drop : (due : List Due) (k : ℕ) → coming_of call (drop k due) ≡ due_at call (slice_get due k) ++ coming_of call (drop (suc k) due)
  coming_drop [] zero = refl
  coming_drop [] (suc k) = refl
  coming_drop (d ∷ due) zero = first (d.call == call) d [] (coming_of call due)
  coming_drop (d ∷ due) (suc k) = coming_drop due k

  coming_take : (due : List Due) (k : ℕ) → coming_of call (take (suc k) due) ≡ coming_of call (take k due) ++ due_at call (slice_get due k)
  coming_take [] zero = refl
  coming_take [] (suc k) = refl
  coming_take (d ∷ due) zero = refl
  coming_take (d ∷ due) (suc k) =
      ap (λ (l : List Change). if d.call == call then by_others d.change ∷ l else l) (coming_take due k)
      ∙ first (d.call == call) d (coming_of call (take k due)) (due_at call (slice_get due k))

  pub made_more : (old was new : Memory) (k : ℕ) → was ≡ record old { changes = old.changes ++ coming_of call (take k old.due) }
      → new ≡ record was { changes = was.changes ++ due_at call (slice_get was.due k) }
      → new ≡ record old { changes = old.changes ++ coming_of call (take (k + 1) old.due) }
  made_more old was new k before made =
      let one : suc k ≡ k + 1 = omega arith in
      made
      ∙ ap (λ (m : Memory). record m { changes = m.changes ++ due_at call (slice_get m.due k) }) before
      ∙ ap (λ (l : List Change). record old { changes = l })
      (append_assoc old.changes (coming_of call (take k old.due)) (due_at call (slice_get old.due k)) ∙ ap (λ (l : List Change). old.changes ++ l) (sym (coming_take old.due k)))
      ∙ ap (λ (n : ℕ). record old { changes = old.changes ++ coming_of call (take n old.due) }) one

  pub stopped : (old was new : Memory) (k : ℕ) → was ≡ record old { changes = old.changes ++ coming_of call (take k old.due) } → new ≡ was
      → length (due_at call (slice_get was.due k)) ≡ 1 → Stops call old new
  stopped old was new k before same there =
      let whole = coming_split old.due k ∙ ap (λ (l : List Change). coming_of call (take k old.due) ++ l) (coming_drop old.due k) in
      let one : length (due_at call (slice_get old.due k)) ≡ 1 = sym (ap (λ (m : Memory). length (due_at call (slice_get m.due k))) before) ∙ there in
      let size = ap length whole ∙ length-append (coming_of call (take k old.due)) (due_at call (slice_get old.due k) ++ coming_of call (drop (suc k) old.due)) in
      let tail = length-append (due_at call (slice_get old.due k)) (coming_of call (drop (suc k) old.due)) in
      record {
        some = length (coming_of call (take k old.due));
        less = omega (arith, size, tail, one);
        state = same ∙ before ∙ ap (λ (l : List Change). record old { changes = old.changes ++ l })
            (sym (ap (take (length (coming_of call (take k old.due)))) whole ∙ take_at (coming_of call (take k old.due)) _ _ refl));
      }
