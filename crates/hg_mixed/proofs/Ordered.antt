-- Paths in order: a list that was sorted and has none twice, and one in another order.
use Rattle.std.proofs.Common.{ℕ, suc, ◌≡◌, ◌+◌, Bool, true, false, List, [], ◌∷◌, map, get_or, refl, sym, ap, ◌∙◌, subst, true≢false, nat_cmp, arith}
use Rattle.std.specs.List.{AllByRecursion, IsDistinct}
use Rattle.std.specs.List.Sorted.{IsSortedBy, IsStrictlySortedBy, IsPermutation}
use Rattle.std.specs.Str.{bytes_eq}
use Rattle.std.specs.Cmp.Lexicographic.{slice_cmp, texts_ties, nat_list_eq_equiv}
use Rattle.std.specs.Ordering.{is_eq, is_lt, ordering_reverse}
use Rattle.std.specs.declared.cmp.Ordering.{Ordering}
use Rattle.std.specs.declared.cmp.Ordering.TheVariants.{Less, Equal, Greater}
use Rattle.std.proofs.lemmas.Bool.{both_ways}
use Rattle.std.proofs.lemmas.Cmp.{nat_list_cmp_total}
use Rattle.std.specs.Set.{is_member}
use Rattle.std.proofs.lemmas.List.Sorted.{Contains-permutation, IsPermutation-sym, length_permutation}
use Rattle.std.proofs.lemmas.Map.Made.{IsDistinct-from_count, is_member-Decides, length-from_keys}
use Rattle.std.proofs.lemmas.Slice.Eq.{bytes_eq-Decides}

abbrev cmp : List ℕ → List ℕ → Ordering
cmp = slice_cmp nat_cmp

less_by : (o : Ordering) (same : Bool) → is_lt (ordering_reverse o) ≡ false → same ≡ false → (o ≡ Equal → same ≡ true) → o ≡ Less
less_by Less same not_above apart equal = refl
less_by Equal same not_above apart equal = absurd (both_ways same apart (equal refl))
less_by Greater same not_above apart equal = absurd (true≢false not_above)

bytes_tie : (a b : List ℕ) → cmp a b ≡ Equal → bytes_eq a b ≡ true
bytes_tie a b equal = texts_ties a b ∙ ap is_eq equal

-- ---- a sorted list

less_from : (a b : List ℕ) → is_lt (cmp b a) ≡ false → bytes_eq a b ≡ false → cmp a b ≡ Less
less_from a b not_above apart =
    less_by (cmp a b) (bytes_eq a b) (sym (ap is_lt (nat_list_cmp_total.antisymm b a)) ∙ not_above) apart (λ equal. bytes_tie a b equal)

module _ {X : Type 0} (path : X → List ℕ) where
  sorted_later : (x : X) (xs : List X) → IsSortedBy (λ a b. is_lt (cmp (path a) (path b))) (x ∷ xs) → IsSortedBy (λ a b. is_lt (cmp (path a) (path b))) xs
  sorted_later x xs sorted k d least below =
      let e : suc k + 1 ≡ suc (k + 1) = omega arith in
      subst (λ (n : ℕ). is_lt (cmp (path (get_or (x ∷ xs) n d)) (path (get_or xs k d))) ≡ false) e (sorted (suc k) d (omega arith) (omega (arith, below)))

  all_less : (a b : List ℕ) (ys : List X) → cmp a b ≡ Less → AllByRecursion (λ y. cmp b y ≡ Less) (map path ys) → AllByRecursion (λ y. cmp a y ≡ Less) (map path ys)
  all_less a b [] less all = tt
  all_less a b (y ∷ ys) less all = (nat_list_cmp_total.trans a b (path y) less all.0, all_less a b ys less all.1)

  pub strict : (xs : List X) → IsSortedBy (λ a b. is_lt (cmp (path a) (path b))) xs → IsDistinct bytes_eq (map path xs) → IsStrictlySortedBy cmp (map path xs)
  unfolding IsDistinct IsStrictlySortedBy
  strict [] sorted own = tt
  strict (x ∷ []) sorted own = (tt, tt)
  strict (x ∷ y ∷ ys) sorted own =
      let rest = strict (y ∷ ys) (sorted_later x (y ∷ ys) sorted) own.1 in
      let first : cmp (path x) (path y) ≡ Less = less_from (path x) (path y) (sorted 0 x (omega arith) (omega arith)) own.0.0 in
      ((first, all_less (path x) (path y) ys first rest.0), rest)

-- ---- in another order

pub same_bool : (a b : Bool) → (a ≡ true → b ≡ true) → (b ≡ true → a ≡ true) → a ≡ b
same_bool true b there back = sym (there refl)
same_bool false true there back = back refl
same_bool false false there back = refl

-- no path stands there twice either
pub distinct_moved : (xs ys : List (List ℕ)) → IsPermutation xs ys → IsDistinct bytes_eq xs → IsDistinct bytes_eq ys
distinct_moved xs ys moved own =
    let members : (q : List ℕ) → is_member bytes_eq xs q ≡ is_member bytes_eq ys q =
    λ q.
    same_bool (is_member bytes_eq xs q) (is_member bytes_eq ys q)
    (λ is. (is_member-Decides bytes_eq-Decides ys q).1 (Contains-permutation xs ys q moved ((is_member-Decides bytes_eq-Decides xs q).0 is)))
    (λ is. (is_member-Decides bytes_eq-Decides xs q).1 (Contains-permutation ys xs q (IsPermutation-sym xs ys moved) ((is_member-Decides bytes_eq-Decides ys q).0 is)))
    in IsDistinct-from_count nat_list_eq_equiv ys (sym (length-from_keys nat_list_eq_equiv xs ys own members) ∙ sym (length_permutation xs ys moved))
