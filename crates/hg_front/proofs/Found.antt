-- The first element that meets a test, looked for one by one.
use Rattle.std.proofs.Common.{ℕ, ◌≡◌, ◌+◌, ◌<◌, ◌||◌, Bool, true, false, cond, List, [], ◌∷◌, drop, length, Option, Some, refl, sym, ap, ◌∙◌}
use Rattle.std.specs.Prelude.{is_some}
use Rattle.std.specs.List.{find, list_any, slice_get}
use Rattle.std.proofs.lemmas.List.{at_drop_more}
use Rattle.std.proofs.lemmas.Option.{get_or_from_slice_get}

module _ {X : Type 0} (f : X → Bool) (xs : List X) (i : ℕ) (x : X) (below : i < length xs) (is : slice_get xs i ≡ Some x) where
  find_here : find f (drop i xs) ≡ cond (f x) (Some x) (find f (drop (i + 1) xs))
  find_here = at_drop_more (find f) xs i x below ∙ ap (λ y. cond (f y) (Some y) (find f (drop (i + 1) xs))) (get_or_from_slice_get xs i x x is)

  -- it is this one, or the others are looked at
  pub first_found : (whole : Option X) → whole ≡ find f (drop i xs) → f x ≡ true → Some x ≡ whole
  first_found whole so found = sym (so ∙ find_here ∙ ap (λ (b : Bool). cond b (Some x) (find f (drop (i + 1) xs))) found)

  pub first_on : (whole : Option X) → whole ≡ find f (drop i xs) → f x ≡ false → whole ≡ find f (drop (i + 1) xs)
  first_on whole so other = so ∙ find_here ∙ ap (λ (b : Bool). cond b (Some x) (find f (drop (i + 1) xs))) other

some_in : {X : Type 0} (f : X → Bool) (x : X) (xs : List X) (b : Bool) → is_some (find f xs) ≡ list_any f xs → is_some (cond b (Some x) (find f xs)) ≡ (b || list_any f xs)
some_in f x xs true e = refl
some_in f x xs false e = e

-- one is found where some element meets the test
pub is_some_find : {X : Type 0} (f : X → Bool) (xs : List X) → is_some (find f xs) ≡ list_any f xs
is_some_find f [] = refl
is_some_find f (x ∷ xs) = some_in f x xs (f x) (is_some_find f xs)
