-- The order of texts with the same front.
use Rattle.std.proofs.Common.{◌≡◌, ℕ, List, [], ◌∷◌, ◌++◌, refl, ap, ◌∙◌, eqb, cond, le-ltb, le_refl, eq-eqb, Ordering, Less, Equal, Greater, nat_cmp}
use Rattle.std.specs.Ordering.{ordering_then}
use Rattle.std.specs.Cmp.Lexicographic.{slice_cmp}

cmp_same : (x : ℕ) → nat_cmp x x ≡ Equal
cmp_same x =
    ap (λ t. cond t Less (cond (eqb x x) Equal Greater)) (le-ltb x x (le_refl x)) ∙ ap (λ t. cond t Equal Greater) (eq-eqb x x refl)

-- what stands behind the same front decides
pub cmp_front : (front a b : List ℕ) → slice_cmp nat_cmp (front ++ a) (front ++ b) ≡ slice_cmp nat_cmp a b
cmp_front [] a b = refl
cmp_front (x ∷ front) a b = ap (λ (o : Ordering). ordering_then o (slice_cmp nat_cmp (front ++ a) (front ++ b))) (cmp_same x) ∙ cmp_front front a b

-- names in one directory are in the order of their paths
pub cmp_joined : (dir a b : List ℕ) → slice_cmp nat_cmp (dir ++ 47 ∷ a) (dir ++ 47 ∷ b) ≡ slice_cmp nat_cmp a b
cmp_joined dir a b = cmp_front dir (47 ∷ a) (47 ∷ b) ∙ cmp_front (47 ∷ []) a b
