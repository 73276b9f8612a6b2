-- What is on the way from the root to a path.
use Rattle.std.proofs.Common.{◌≡◌, ℕ, Bool, true, false, ◌||◌, ◌⊎◌, inl, inr, List, ◌∷◌, ◌++◌, Option, Some, None, refl, sym, ap, ◌∙◌}
use Rattle.std.specs.Str.{bytes_eq}
use Rattle.std.proofs.lemmas.Bool.{cases_Bool, both_ways, or_left, or_right, or_from, false_from_ne_true}
use Rattle.std.proofs.lemmas.Slice.Eq.{bytes_eq-Decides}
use Rattle.hg_base.specs.PathText.{is_below, is_path, parent_of, base_of, has_slash, joined}
use Rattle.hg_base.specs.Within.{is_within}
use Rattle.hg_base.proofs.Below.{below_trans, below_itself, below_joined, below_longer, below_of_joined, below_name}
use Rattle.hg_base.proofs.Components.{joined_parent}
use Rattle.hg_base.proofs.Paths.{path_base_plain, path_above}

-- what is equal by bytes is the same
pub same_bytes : (a b : List ℕ) → bytes_eq a b ≡ true → a ≡ b
same_bytes a b h = (bytes_eq-Decides a b).0 h

pub equal_bytes : (a : List ℕ) → bytes_eq a a ≡ true
equal_bytes a = (bytes_eq-Decides a a).1 refl

-- what stands below another is another
pub apart_below : (dir path : List ℕ) → is_below dir path ≡ true → bytes_eq dir path ≡ false
apart_below dir path below = false_from_ne_true (bytes_eq dir path)
    (λ h. both_ways (is_below path path) (below_itself path) (sym (ap (λ (p : List ℕ). is_below p path) (same_bytes dir path h)) ∙ below))

pub apart_above : (dir path : List ℕ) → is_below dir path ≡ true → bytes_eq path dir ≡ false
apart_above dir path below = false_from_ne_true (bytes_eq path dir)
    (λ h. both_ways (is_below path path) (below_itself path) (ap (λ (p : List ℕ). is_below p path) (same_bytes path dir h) ∙ below))

-- each path is on the way to itself
pub within_itself : (path : List ℕ) → is_within path path ≡ true
within_itself path = or_left (bytes_eq path path) (is_below path path) (equal_bytes path)

-- what stands above is on the way
pub within_below : (at path : List ℕ) → is_below at path ≡ true → is_within at path ≡ true
within_below at path h = or_right (bytes_eq path at) (is_below at path) h

-- what is on the way is the path or stands above it
pub within_split : (at path : List ℕ) → is_within at path ≡ true → (path ≡ at) ⊎ (is_below at path ≡ true)
within_split at path h = elim (cases_Bool (bytes_eq path at)) [
  | inl same ↦ inl (same_bytes path at same)
  | inr apart ↦ inr (sym (ap (λ (t : Bool). t || is_below at path) apart) ∙ h)
]

-- what is on the way to what is on the way
pub within_trans : (a b c : List ℕ) → is_within a b ≡ true → is_within b c ≡ true → is_within a c ≡ true
within_trans a b c p q = elim (within_split a b p) [
  | inl e ↦ sym (ap (λ (x : List ℕ). is_within x c) e) ∙ q
  | inr below ↦ elim (within_split b c q) [
    | inl e ↦ within_below a c (ap (is_below a) e ∙ below)
    | inr more ↦ within_below a c (below_trans a b c below more)
  ]
]

-- a path on the way is a path
pub within_path : (at path : List ℕ) → is_within at path ≡ true → is_path path ≡ true → is_path at ≡ true
within_path at path h good = elim (within_split at path h) [
  | inl e ↦ sym (ap is_path e) ∙ good
  | inr below ↦ path_above at path below good
]

above_joined : (dir name : List ℕ) → has_slash name ≡ false → (at : List ℕ) → is_below at (dir ++ 47 ∷ name) ≡ is_within at dir
above_joined dir name plain at = elim (cases_Bool (bytes_eq dir at)) [
  | inl same ↦
      ap (λ (p : List ℕ). is_below p (dir ++ 47 ∷ name)) (sym (same_bytes dir at same))
      ∙ below_joined dir name
      ∙ sym (or_left (bytes_eq dir at) (is_below at dir) same)
  | inr apart ↦ elim (cases_Bool (is_below at dir)) [
    | inl up ↦ below_longer at dir name up ∙ sym (or_right (bytes_eq dir at) (is_below at dir) up)
    | inr not_up ↦
        false_from_ne_true (is_below at (dir ++ 47 ∷ name)) (λ h. elim (below_of_joined at dir name plain h) [
          | inl e ↦ both_ways (bytes_eq dir at) apart (ap (bytes_eq dir) e ∙ equal_bytes dir)
          | inr e ↦ both_ways (is_below at dir) not_up e
        ])
        ∙ sym (or_from (bytes_eq dir at) (is_below at dir) apart not_up)
  ]
]

-- what stands above a path is on the way to its directory
pub above_is : (dir path : List ℕ) → is_path path ≡ true → parent_of path ≡ Some dir → (at : List ℕ) → is_below at path ≡ is_within at dir
above_is dir path good parent at =
    let whole : path ≡ dir ++ 47 ∷ base_of path = sym (joined_parent path) ∙ ap (λ (o : Option (List ℕ)). joined o (base_of path)) parent in
    ap (is_below at) whole ∙ above_joined dir (base_of path) (path_base_plain path good) at

-- nothing stands above a path at the root
pub above_none : (path : List ℕ) → is_path path ≡ true → parent_of path ≡ None → (at : List ℕ) → is_below at path ≡ false
above_none path good parent at =
    let whole : path ≡ base_of path = sym (joined_parent path) ∙ ap (λ (o : Option (List ℕ)). joined o (base_of path)) parent in
    ap (is_below at) whole ∙ below_name at (base_of path) (path_base_plain path good)
