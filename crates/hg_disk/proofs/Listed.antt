-- Names that were read from a directory: each makes a path, and once sorted each stands there once.
use Rattle.std.proofs.Common.{ℕ, ◌≡◌, Bool, List, sym, subst, [], ◌∷◌, ◌++◌, Option, All, bytes_eq}
use Rattle.std.specs.Ordering.{nat_cmp, eq_by_cmp}
use Rattle.std.specs.Cmp.Lexicographic.{slice_cmp, nat_list_cmp_total, texts_ties}
use Rattle.std.specs.List.{IsDistinct, dedup}
use Rattle.std.specs.List.Retain.{IsFiltered, DiffersFromLast}
use Rattle.std.specs.List.Sorted.{IsPermutation}
use Rattle.std.specs.List.Sorted.{IsSorted}
use Rattle.std.proofs.lemmas.List.Elements.{All-push}
use Rattle.std.proofs.lemmas.List.Filters.{dedup_is, All-dedup}
use Rattle.std.proofs.lemmas.List.Kept.{IsStrictlySortedBy-dedup}
use Rattle.std.proofs.lemmas.List.Sorted.{All-permutation}
use Rattle.std.proofs.lemmas.Map.Keys.{IsDistinct-from_sorted}
use Rattle.hg_tree.specs.Moment.{AreFit, IsFit}

pub one_more : (dir : Option (List ℕ)) (names more : List (List ℕ)) (name : List ℕ)
    → All (IsFit dir) names → IsFit dir name → more ≡ names ++ name ∷ [] → All (IsFit dir) more
one_more dir names more name all one is = rw is (All-push (IsFit dir) names name all one)

pub are_fit : (dir : Option (List ℕ)) (read sorted kept : List (List ℕ))
    → All (IsFit dir) read → IsPermutation read sorted → IsSorted (slice_cmp nat_cmp) sorted
    → IsFiltered (DiffersFromLast bytes_eq) [] sorted kept → AreFit dir kept
are_fit dir read sorted kept all moved order filtered =
    let is = dedup_is bytes_eq sorted kept filtered in
    let ties : (x y : List ℕ) → bytes_eq x y ≡ eq_by_cmp (slice_cmp nat_cmp) x y = λ x y i. texts_ties x y i in
    let strict = IsStrictlySortedBy-dedup nat_list_cmp_total ties sorted order in
    let same : bytes_eq ≡ eq_by_cmp (slice_cmp nat_cmp) = λ i x y. texts_ties x y i in
    rw is record {
      distinct = subst (λ (eq : List ℕ → List ℕ → Bool). IsDistinct eq (dedup bytes_eq sorted)) (sym same) (IsDistinct-from_sorted (slice_cmp nat_cmp) (dedup bytes_eq sorted) strict);
      each = All-dedup bytes_eq (IsFit dir) sorted (All-permutation (IsFit dir) read sorted moved all);
    }
