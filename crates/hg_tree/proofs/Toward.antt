-- What stands right in a directory on the way to a path below it.
use Rattle.std.proofs.Common.{ℕ, ◌≡◌, true, false, ◌⊎◌, cond, inl, inr, List, [], ◌∷◌, ◌++◌, refl, sym, ap, ◌∙◌, eqb, eq-eqb, true≢false}
use Rattle.std.proofs.lemmas.Bool.{cases_Bool, and_parts, and_from, or_parts, cond-true, cond-false}
use Rattle.hg_base.specs.PathText.{is_below, has_slash}
use Rattle.hg_tree.specs.Own.{first_part, toward}

-- a text without a slash is its first part
first_whole : (name : List ℕ) → has_slash name ≡ false → first_part name ≡ name
first_whole [] h = refl
first_whole (b ∷ name) h =
    let parts = or_parts (eqb b 47) (has_slash name) h in
    cond-false (eqb b 47) [] (b ∷ first_part name) parts.0 ∙ ap (λ (l : List ℕ). b ∷ l) (first_whole name parts.1)

-- what stands behind a slash doesn't matter
first_front : (text rest : List ℕ) → first_part (text ++ 47 ∷ rest) ≡ first_part text
first_front [] rest = cond-true (eqb 47 47) [] (47 ∷ first_part rest) (eq-eqb 47 47 refl)
first_front (b ∷ text) rest = ap (λ (l : List ℕ). cond (eqb b 47) [] (b ∷ l)) (first_front text rest)

-- what is below the first part, or is it
first_reaches : (text : List ℕ) → (first_part text ≡ text) ⊎ (is_below (first_part text) text ≡ true)
first_reaches [] = inl refl
first_reaches (b ∷ text) = elim (cases_Bool (eqb b 47)) [
  | inl slash ↦ inr (ap (λ (l : List ℕ). is_below l (b ∷ text)) (cond-true (eqb b 47) [] (b ∷ first_part text) slash) ∙ slash)
  | inr plain ↦
      let is = cond-false (eqb b 47) [] (b ∷ first_part text) plain in
      elim (first_reaches text) [
        | inl same ↦ inl (is ∙ ap (λ (l : List ℕ). b ∷ l) same)
        | inr below ↦ inr (ap (λ (l : List ℕ). is_below l (b ∷ text)) is ∙ and_from (eqb b b) (is_below (first_part text) text) (eq-eqb b b refl) below)
      ]
]

-- a name in a directory is what stands in it on the way to itself
pub toward_child : (dir name : List ℕ) → has_slash name ≡ false → toward dir (dir ++ 47 ∷ name) ≡ dir ++ 47 ∷ name
toward_child [] name plain = ap (λ (l : List ℕ). 47 ∷ l) (first_whole name plain)
toward_child (a ∷ dir) name plain = ap (λ (l : List ℕ). a ∷ l) (toward_child dir name plain)

-- on the way to a name in a directory below, one goes toward that directory
pub toward_front : (at dir name : List ℕ) → is_below at dir ≡ true → toward at (dir ++ 47 ∷ name) ≡ toward at dir
toward_front [] [] name h = absurd (true≢false (sym h))
toward_front [] (b ∷ dir) name h = ap (λ (l : List ℕ). b ∷ l) (first_front dir name)
toward_front (a ∷ at) [] name h = absurd (true≢false (sym h))
toward_front (a ∷ at) (b ∷ dir) name h = ap (λ (l : List ℕ). b ∷ l) (toward_front at dir name (and_parts (eqb a b) (is_below at dir) h).1)

-- it is the path, or a directory above it
pub toward_reaches : (at path : List ℕ) → is_below at path ≡ true → (toward at path ≡ path) ⊎ (is_below (toward at path) path ≡ true)
toward_reaches [] [] h = absurd (true≢false (sym h))
toward_reaches [] (b ∷ path) h = elim (first_reaches path) [
  | inl same ↦ inl (ap (λ (l : List ℕ). b ∷ l) same)
  | inr below ↦ inr (and_from (eqb b b) (is_below (first_part path) path) (eq-eqb b b refl) below)
]
toward_reaches (a ∷ at) [] h = absurd (true≢false (sym h))
toward_reaches (a ∷ at) (b ∷ path) h = elim (toward_reaches at path (and_parts (eqb a b) (is_below at path) h).1) [
  | inl same ↦ inl (ap (λ (l : List ℕ). b ∷ l) same)
  | inr below ↦ inr (and_from (eqb b b) (is_below (toward at path) path) (eq-eqb b b refl) below)
]

-- and stands below the directory
pub toward_below : (at path : List ℕ) → is_below at path ≡ true → is_below at (toward at path) ≡ true
toward_below [] [] h = absurd (true≢false (sym h))
toward_below [] (b ∷ path) h = h
toward_below (a ∷ at) [] h = absurd (true≢false (sym h))
toward_below (a ∷ at) (b ∷ path) h =
    let parts = and_parts (eqb a b) (is_below at path) h in
    and_from (eqb a b) (is_below at (toward at path)) parts.0 (toward_below at path parts.1)
