-- Two lists of the same paths in order.
use Rattle.std.proofs.Common.{ℕ, ◌≡◌, Bool, true, false, ◌||◌, inl, inr, List, [], ◌∷◌, refl, sym, ap, ◌∙◌, true≢false, nat_cmp}
use Rattle.std.specs.List.{AllByRecursion, list_any}
use Rattle.std.specs.List.Sorted.{IsStrictlySortedBy}
use Rattle.std.specs.Str.{bytes_eq}
use Rattle.std.specs.Cmp.Lexicographic.{slice_cmp}
use Rattle.std.specs.declared.cmp.Ordering.{Ordering}
use Rattle.std.specs.declared.cmp.Ordering.TheVariants.{Less}
use Rattle.std.proofs.lemmas.Bool.{cases_Bool, or_left, false_from_ne_true}
use Rattle.std.proofs.lemmas.Cmp.{nat_list_cmp_total, tied_itself}
use Rattle.hg_base.proofs.Within.{equal_bytes, same_bytes}
use Rattle.hg_report.specs.Debug.{AreAll}

abbrev cmp : List ℕ → List ℕ → Ordering
cmp = slice_cmp nat_cmp

-- ---- two lists of the same paths

never_itself : (a : List ℕ) → cmp a a ≡ Less → ⊥
never_itself a less = absurd (cc (less, tied_itself nat_list_cmp_total a))

less_than : (a b : List ℕ) (ys : List (List ℕ)) → AllByRecursion (λ y. cmp a y ≡ Less) ys → list_any (bytes_eq b) ys ≡ true → cmp a b ≡ Less
less_than a b [] less is = absurd (true≢false (sym is))
less_than a b (y ∷ ys) less is = elim (cases_Bool (bytes_eq b y)) [
  | inl same ↦ ap (cmp a) (same_bytes b y same) ∙ less.0
  | inr other ↦ less_than a b ys less.1 (sym (ap (λ (t : Bool). t || list_any (bytes_eq b) ys) other) ∙ is)
]

first_in : (x : List ℕ) (xs : List (List ℕ)) → list_any (bytes_eq x) (x ∷ xs) ≡ true
first_in x xs = or_left (bytes_eq x x) (list_any (bytes_eq x) xs) (equal_bytes x)

not_later : (x : List ℕ) (xs : List (List ℕ)) → AllByRecursion (λ y. cmp x y ≡ Less) xs → list_any (bytes_eq x) xs ≡ false
not_later x xs less = false_from_ne_true (list_any (bytes_eq x) xs) (λ is. never_itself x (less_than x x xs less is))

heads : (x y : List ℕ) (xs ys : List (List ℕ)) → AllByRecursion (λ z. cmp x z ≡ Less) xs → AllByRecursion (λ z. cmp y z ≡ Less) ys
    → list_any (bytes_eq x) (y ∷ ys) ≡ true → list_any (bytes_eq y) (x ∷ xs) ≡ true → x ≡ y
heads x y xs ys above_x above_y in_ys in_xs = elim (cases_Bool (bytes_eq x y)) [
  | inl same ↦ same_bytes x y same
  | inr other ↦ elim (cases_Bool (bytes_eq y x)) [
    | inl same ↦ sym (same_bytes y x same)
    | inr other_too ↦
        absurd (never_itself x
        (nat_list_cmp_total.trans x y x
        (less_than x y xs above_x (sym (ap (λ (t : Bool). t || list_any (bytes_eq y) xs) other_too) ∙ in_xs))
        (less_than y x ys above_y (sym (ap (λ (t : Bool). t || list_any (bytes_eq x) ys) other) ∙ in_ys))))
  ]
]

one_list : (xs ys : List (List ℕ)) → IsStrictlySortedBy cmp xs → IsStrictlySortedBy cmp ys → ((p : List ℕ) → list_any (bytes_eq p) xs ≡ list_any (bytes_eq p) ys) → xs ≡ ys
unfolding IsStrictlySortedBy
one_list [] [] up_x up_y same = refl
one_list [] (y ∷ ys) up_x up_y same = absurd (true≢false (sym (same y ∙ first_in y ys)))
one_list (x ∷ xs) [] up_x up_y same = absurd (true≢false (sym (first_in x xs) ∙ same x))
one_list (x ∷ xs) (y ∷ ys) up_x up_y same =
    let head : x ≡ y = heads x y xs ys up_x.0 up_y.0 (sym (same x) ∙ first_in x xs) (same y ∙ first_in y ys) in
    let rest : xs ≡ ys = one_list xs ys up_x.1 up_y.1 (λ p. elim (cases_Bool (bytes_eq p x)) [
      | inl here ↦
          let is : p ≡ x = same_bytes p x here in
          ap (λ (q : List ℕ). list_any (bytes_eq q) xs) is ∙ not_later x xs up_x.0 ∙ sym (not_later y ys up_y.0) ∙ ap (λ (q : List ℕ). list_any (bytes_eq q) ys) (sym (is ∙ head))
      | inr other ↦
          sym (ap (λ (t : Bool). t || list_any (bytes_eq p) xs) other) ∙ same p ∙ ap (λ (t : Bool). t || list_any (bytes_eq p) ys) (ap (bytes_eq p) (sym head) ∙ other)
    ]) in
    λ i. head i ∷ rest i

-- the paths that pass a test are one list
pub one_all : (test : List ℕ → Bool) (xs ys : List (List ℕ)) → AreAll test xs → AreAll test ys → xs ≡ ys
one_all test xs ys a b = one_list xs ys a.ascending b.ascending (λ p. a.all p ∙ sym (b.all p))
