-- Which paths the lists that are lent cover.
use Rattle.std.proofs.Common.{ℕ, ◌≡◌, Bool, true, false, cond, ◌||◌, ◌⊎◌, inl, inr, List, [], ◌∷◌, Option, Some, None, refl, sym, ap, ◌∙◌, true≢false}
use Rattle.std.specs.Prelude.{is_some}
use Rattle.std.specs.Str.{bytes_eq}
use Rattle.std.proofs.lemmas.Bool.{cases_Bool, cond-true, cond-false, or_left, or_right, both_ways, false_from_ne_true}
use Rattle.hg_base.specs.PathText.{is_below, is_path, parent_of}
use Rattle.hg_base.specs.Within.{is_above, is_within}
use Rattle.hg_base.proofs.Below.{below_trans}
use Rattle.hg_base.proofs.Children.{below_by_parent}
use Rattle.hg_base.proofs.Within.{equal_bytes, same_bytes, within_split}
use Rattle.hg_image.specs.Rows.{Row}
use Rattle.hg_mixed.specs.Lent.{as_dir, covers, lent_at}
use Rattle.hg_mixed.specs.Parted.{IsFree}

above_more : (d : Option (List ℕ)) (dir at : List ℕ) → is_above d dir ≡ true → is_below dir at ≡ true → is_above d at ≡ true
above_more None dir at p q = refl
above_more (Some d) dir at p q = below_trans d dir at p q

dir_above : (dir at : List ℕ) → is_below dir at ≡ true → is_above (as_dir dir) at ≡ true
dir_above [] at h = refl
dir_above (b ∷ dir) at h = h

-- what stands below a covered path is covered
pub covers_below : (left : List (List ℕ × List Row)) (dir at : List ℕ) → is_below dir at ≡ true → covers left dir ≡ true → covers left at ≡ true
covers_below [] dir at below h = absurd (true≢false (sym h))
covers_below (l ∷ left) dir at below h = elim (cases_Bool (is_above (as_dir l.0) dir)) [
  | inl here ↦ or_left (is_above (as_dir l.0) at) (covers left at) (above_more (as_dir l.0) dir at here below)
  | inr other ↦
      or_right (is_above (as_dir l.0) at) (covers left at) (covers_below left dir at below (sym (ap (λ (b : Bool). b || covers left dir) other) ∙ h))
]

-- what stands below the directory of a list that is lent is covered
pub covers_listed : (left : List (List ℕ × List Row)) (dir at : List ℕ) → is_some (lent_at left dir) ≡ true → is_below dir at ≡ true → covers left at ≡ true
covers_listed [] dir at some below = absurd (true≢false (sym some))
covers_listed (l ∷ left) dir at some below = elim (cases_Bool (bytes_eq dir l.0)) [
  | inl here ↦
      or_left (is_above (as_dir l.0) at) (covers left at) (dir_above l.0 at (ap (λ (d : List ℕ). is_below d at) (sym (same_bytes dir l.0 here)) ∙ below))
  | inr other ↦
      or_right (is_above (as_dir l.0) at) (covers left at)
      (covers_listed left dir at (sym (ap is_some (cond-false (bytes_eq dir l.0) (Some l.1) (lent_at left dir) other)) ∙ some) below)
]

some_or : {X : Type 0} (b : Bool) (x : X) (o : Option X) → is_some o ≡ true → is_some (cond b (Some x) o) ≡ true
some_or true x o h = refl
some_or false x o h = h

above_kid : (d dir kid : List ℕ) → is_path kid ≡ true → parent_of kid ≡ Some dir → is_above (as_dir d) kid ≡ true → (is_above (as_dir d) dir ≡ true) ⊎ (d ≡ dir)
above_kid [] dir kid good parent h = inl refl
above_kid (b ∷ d) dir kid good parent h = elim (below_by_parent (b ∷ d) dir kid good parent h) [
  | inl e ↦ inr e
  | inr up ↦ inl up
]

-- a covered path stands in a covered directory, or in one whose list is lent
pub kid_covered : (left : List (List ℕ × List Row)) (dir kid : List ℕ) → is_path kid ≡ true → parent_of kid ≡ Some dir → covers left kid ≡ true
    → (covers left dir ≡ true) ⊎ (is_some (lent_at left dir) ≡ true)
kid_covered [] dir kid good parent h = absurd (true≢false (sym h))
kid_covered (l ∷ left) dir kid good parent h = elim (cases_Bool (is_above (as_dir l.0) kid)) [
  | inl here ↦ elim (above_kid l.0 dir kid good parent here) [
    | inl up ↦ inl (or_left (is_above (as_dir l.0) dir) (covers left dir) up)
    | inr e ↦ inr (ap is_some (cond-true (bytes_eq dir l.0) (Some l.1) (lent_at left dir) (ap (bytes_eq dir) e ∙ equal_bytes dir)))
  ]
  | inr other ↦ elim (kid_covered left dir kid good parent (sym (ap (λ (b : Bool). b || covers left kid) other) ∙ h)) [
    | inl up ↦ inl (or_right (is_above (as_dir l.0) dir) (covers left dir) up)
    | inr some ↦ inr (some_or (bytes_eq dir l.0) l.1 (lent_at left dir) some)
  ]
]

-- nothing on the way to a path that isn't covered is
pub way_free : (left : List (List ℕ × List Row)) (path : List ℕ) → covers left path ≡ false → (at : List ℕ) → is_within at path ≡ true → covers left at ≡ false
way_free left path free at way = elim (within_split at path way) [
  | inl e ↦ sym (ap (covers left) e) ∙ free
  | inr up ↦ false_from_ne_true (covers left at) (λ c. both_ways (covers left path) free (covers_below left at path up c))
]

module _ (left : List (List ℕ × List Row)) (path : List ℕ) (free : IsFree left path) where
  not_lent : (at : List ℕ) → is_within at path ≡ true → is_some (lent_at left at) ≡ true → ⊥
  not_lent at way some = elim (within_split at path way) [
    | inl e ↦ true≢false (sym some ∙ ap is_some (sym (ap (lent_at left) e) ∙ free.own))
    | inr up ↦ both_ways (covers left path) free.above (covers_listed left at path some up)
  ]

  -- nor is what stands right in a directory on the way
  pub kid_free : (dir kid : List ℕ) → is_within dir path ≡ true → is_path kid ≡ true → parent_of kid ≡ Some dir → covers left kid ≡ false
  kid_free dir kid way good parent = false_from_ne_true (covers left kid) (λ c. elim (kid_covered left dir kid good parent c) [
    | inl up ↦ both_ways (covers left dir) (way_free left path free.above dir way) up
    | inr some ↦ not_lent dir way some
  ])
