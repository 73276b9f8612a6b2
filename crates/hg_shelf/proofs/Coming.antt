-- What is due at a call, one change after another.
use Rattle.std.proofs.Common.{◌≡◌, ◌<◌, ◌+◌, ℕ, List, [], ◌∷◌, ◌++◌, length, take, drop, get_or, refl, ap, sym, ◌∙◌, Bool, true, false, arith}
use Rattle.std.specs.Prelude.{if◌then◌else◌, ◌==◌}
use Rattle.std.proofs.lemmas.List.{append_assoc, drop_more, length-append, take-append-drop, take_at, take_more}
use Rattle.hg_shelf.specs.Memory.{Stops, before_call, coming_of}
use Rattle.hg_shelf.specs.declared.outside.Change.{Change}
use Rattle.hg_shelf.specs.declared.outside.Due.{Due}

module _ (call : ℕ) (ours : Bool) where
  first : (t : Bool) (d : Due) (xs ys : List Change) → (if t then before_call call ours d.change ∷ (xs ++ ys) else (xs ++ ys)) ≡ (if t then before_call call ours d.change ∷ xs else xs) ++ ys
  first true d xs ys = refl
  first false d xs ys = refl

  pub coming_append : (some more : List Due) → coming_of call ours (some ++ more) ≡ coming_of call ours some ++ coming_of call ours more
  coming_append [] more = refl
  coming_append (d ∷ some) more =
      ap (λ (l : List Change). if d.call == call then before_call call ours d.change ∷ l else l) (coming_append some more)
      ∙ first (d.call == call) d (coming_of call ours some) (coming_of call ours more)

  -- one more is made
  pub made_more : (due : List Due) (k : ℕ) (one : Due) (old was new : List Change) → k < length due → one ≡ get_or due k one
      → was ≡ old ++ coming_of call ours (take k due) → new ≡ was ++ coming_of call ours (one ∷ []) → new ≡ old ++ coming_of call ours (take (k + 1) due)
  made_more due k one old was new within is before made =
      made
      ∙ ap (λ (l : List Change). l ++ coming_of call ours (one ∷ [])) before
      ∙ append_assoc old (coming_of call ours (take k due)) (coming_of call ours (one ∷ []))
      ∙ ap (λ (l : List Change). old ++ l) (sym (coming_append (take k due) (one ∷ []))
      ∙ ap (λ (d : Due). coming_of call ours (take k due ++ d ∷ [])) is
      ∙ ap (coming_of call ours) (sym (take_more due k one within)))

  due_here : (one : Due) → (one.call == call) ≡ true → coming_of call ours (one ∷ []) ≡ before_call call ours one.change ∷ []
  due_here one is = ap (λ (t : Bool). if t then before_call call ours one.change ∷ [] else []) is

  -- one can't be made
  pub stopped : (due : List Due) (k : ℕ) (one : Due) (old was new : List Change) → k < length due → one ≡ get_or due k one
      → was ≡ old ++ coming_of call ours (take k due) → new ≡ was → (one.call == call) ≡ true → Stops old (coming_of call ours due) new
  stopped due k one old was new within is before same there =
      let rest : coming_of call ours due ≡ coming_of call ours (take k due) ++ (coming_of call ours (one ∷ []) ++ coming_of call ours (drop (k + 1) due)) =
      ap (coming_of call ours) (sym (take-append-drop k due))
      ∙ coming_append (take k due) (drop k due)
      ∙ ap (λ (l : List Change). coming_of call ours (take k due) ++ l) (ap (coming_of call ours) (drop_more due k one within ∙ ap (λ (d : Due). d ∷ drop (k + 1) due) (sym is)) ∙ coming_append (one ∷ []) (drop (k + 1) due)) in
      let size = length-append (coming_of call ours (take k due)) (coming_of call ours (one ∷ []) ++ coming_of call ours (drop (k + 1) due)) in
      let tail = length-append (coming_of call ours (one ∷ [])) (coming_of call ours (drop (k + 1) due)) in
      let single : length (coming_of call ours (one ∷ [])) ≡ 1 = ap length (due_here one there) in
      let whole : length (coming_of call ours due) ≡ length (coming_of call ours (take k due) ++ (coming_of call ours (one ∷ []) ++ coming_of call ours (drop (k + 1) due))) = ap length rest in
      record {
        some = length (coming_of call ours (take k due));
        less = omega (arith, size, tail, single, whole);
        made = same ∙ before ∙ ap (λ (l : List Change). old ++ l) (sym (ap (take (length (coming_of call ours (take k due)))) rest ∙ take_at (coming_of call ours (take k due)) _ _ refl));
      }
