-- Words that are put one by one.
use Rattle.std.proofs.Common.{ℕ, ◌≡◌, ◌+◌, ◌<◌, List, [], ◌∷◌, ◌++◌, drop, length, map, Some, sym, ap, ◌∙◌, append_assoc}
use Rattle.std.specs.List.{slice_get}
use Rattle.std.proofs.lemmas.List.{at_drop_more}
use Rattle.std.proofs.lemmas.Option.{get_or_from_slice_get}

-- one more is put, and what is left becomes the rest
pub one_on : (f : List ℕ → List ℕ) (words : List (List ℕ)) (i : ℕ) (word : List ℕ) (now new whole : List (List ℕ)) → i < length words → slice_get words i ≡ Some word
    → new ≡ now ++ f word ∷ [] → now ++ map f (drop i words) ≡ whole → new ++ map f (drop (i + 1) words) ≡ whole
one_on f words i word now new whole below is put so =
    ap (λ (l : List (List ℕ)). l ++ map f (drop (i + 1) words)) put ∙ append_assoc now (f word ∷ []) (map f (drop (i + 1) words))
    ∙ ap (λ (w : List ℕ). now ++ f w ∷ map f (drop (i + 1) words)) (sym (get_or_from_slice_get words i word word is))
    ∙ ap (λ (l : List (List ℕ)). now ++ l) (sym (at_drop_more (map f) words i word below)) ∙ so
