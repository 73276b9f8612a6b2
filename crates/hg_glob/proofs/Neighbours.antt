-- What the ends of two globs have in common, counted part by part, and what is counted of each line of a list.
use Rattle.std.proofs.Common.{◌≡◌, ℕ, ◌+◌, ◌-◌, ◌<◌, ◌≤◌, inl, inr, zero, suc, List, [], ◌∷◌, ◌++◌, length, get_or, take, drop, refl, sym, ap, subst, ◌∙◌, arith, drop-cons}
use Rattle.std.proofs.lemmas.Bool.{cases_lt}
use Rattle.std.proofs.lemmas.List.{drop_all}
use Rattle.hg_glob.specs.Part.{Reading, before, reading}
use Rattle.hg_glob.specs.Many.{SharesEnd, SharedBehind, AreShared, last_parts}
use Rattle.hg_glob.specs.declared.part.Part.{Part}

-- no part at the end of either
none_last : (j : ℕ) (parts : List Part) → j ≤ 0 → last_parts j parts ≡ []
none_last j parts h = drop_all (length parts - j) parts (omega arith)

pub shares_none : (a b : List Part) → SharesEnd 0 a b
shares_none a b = record {
  first = omega arith;
  second = omega arith;
  same = λ j h. ap reading (none_last j a h ∙ sym (none_last j b h));
}

one_more : (k : ℕ) (parts : List Part) (d : Part) → k < length parts → last_parts (k + 1) parts ≡ get_or parts (length parts - 1 - k) d ∷ last_parts k parts
one_more k parts d h =
    let at : length parts - (k + 1) ≡ length parts - 1 - k = omega arith in
    let next : suc (length parts - 1 - k) ≡ length parts - k = omega arith in
    ap (λ n. drop n parts) at ∙ drop-cons parts (length parts - 1 - k) d (omega arith) ∙ ap (λ n. get_or parts (length parts - 1 - k) d ∷ drop n parts) next

-- one part more is alike
pub shares_more : (k : ℕ) (a b : List Part) (d : Part) → k < length a → k < length b → ((behind : Reading) → before (get_or a (length a - 1 - k) d) behind ≡ before (get_or b (length b - 1 - k) d) behind) → SharesEnd k a b → SharesEnd (k + 1) a b
shares_more k a b d in_a in_b alike so_far = record {
  first = omega arith;
  second = omega arith;
  same = λ j h. elim (cases_lt k j) [
    | inr below ↦ so_far.same j below
    | inl above ↦ (
        let is : j ≡ k + 1 = omega arith in
        let x : Part = get_or a (length a - 1 - k) d in
        ap (λ n. reading (last_parts n a)) is ∙ ap reading (one_more k a d in_a) ∙ ap (before x) (so_far.same k (omega arith)) ∙ alike (reading (last_parts k b)) ∙ sym (ap reading (one_more k b d in_b))
        ∙ sym (ap (λ n. reading (last_parts n b)) is)
        )
  ];
}

-- what stands before a list that isn't the first is the list before it
before_at : (before : List Part) (row : List (List Part)) (i : ℕ) → (i ≡ 0 → ⊥) → get_or row (i - 1) [] ≡ get_or (before ∷ row) i []
before_at before row zero later = absurd (later refl)
before_at before row (suc i) later =
    let same : suc i - 1 ≡ i = omega arith in
    ap (λ n. get_or row n []) same

pub at_later : (row : List (List Part)) (i count : ℕ) (a b : List Part) → (i ≡ 0 → ⊥) → a ≡ get_or row (i - 1) [] → b ≡ get_or row i [] → SharesEnd count a b → SharesEnd count (get_or ([] ∷ row) i []) (get_or row i [])
at_later row i count a b later is_a is_b shares =
    subst (λ v. SharesEnd count v (get_or row i [])) (is_a ∙ before_at [] row i later) (subst (λ v. SharesEnd count a v) is_b shares)

-- the count of one list more
one_behind : (before : List Part) (row : List (List Part)) (i count : ℕ) (shared : List ℕ) → i < length row → SharedBehind before (take i row) shared → SharesEnd count (get_or (before ∷ row) i []) (get_or row i []) → SharedBehind before (take (suc i) row) (shared ++ count ∷ [])
one_behind before [] i count shared inside so_far shares = absurd (omega arith)
one_behind before (parts ∷ row) zero count shared inside is shares =
    let P : List ℕ → Type 0 = λ v. SharedBehind before (parts ∷ []) (v ++ count ∷ []) in
    subst P (sym is) (shares, refl)
one_behind before (parts ∷ row) (suc i) count [] inside none shares = absurd none
one_behind before (parts ∷ row) (suc i) count (first ∷ shared) inside so_far shares = (so_far.0, one_behind parts row i count shared (omega arith) so_far.1 shares)

pub are_more : (row : List (List Part)) (i count : ℕ) (shared more : List ℕ) → i < length row → more ≡ shared ++ count ∷ [] → AreShared (take i row) shared → SharesEnd count (get_or ([] ∷ row) i []) (get_or row i []) → AreShared (take (i + 1) row) more
are_more row i count shared more inside is so_far shares =
    let P : List ℕ → Type 0 = λ v. AreShared (take (i + 1) row) v in
    let Q : ℕ → Type 0 = λ n. AreShared (take n row) (shared ++ count ∷ []) in
    let e : suc i ≡ i + 1 = omega arith in
    subst P (sym is) (subst Q e (one_behind [] row i count shared inside so_far shares))
