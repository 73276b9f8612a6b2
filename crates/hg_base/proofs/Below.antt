-- What stands below a directory.
use Rattle.std.proofs.Common.{◌≡◌, ℕ, ◌<◌, ◌≤◌, Bool, true, false, ◌&&◌, ◌⊎◌, inl, inr, List, [], ◌∷◌, ◌++◌, length, get_or, refl, sym, ap, ◌∙◌, ◌≢◌, arith, eqb, eq-eqb, eqb-true, true≢false}
use Rattle.std.specs.List.{starts_with}
use Rattle.std.proofs.lemmas.Bool.{and_parts, and_from, and_right, or_parts, false_from_ne_true, both_ways, ne_eqb}
use Rattle.hg_base.specs.PathText.{is_below, has_slash}

-- a name in a directory stands below it
pub below_joined : (dir name : List ℕ) → is_below dir (dir ++ 47 ∷ name) ≡ true
below_joined [] name = refl
below_joined (a ∷ dir) name = and_from (eqb a a) (is_below dir (dir ++ 47 ∷ name)) (eq-eqb a a refl) (below_joined dir name)

-- what stands below a directory is the directory, a slash and a rest
pub below_split : (dir path : List ℕ) → is_below dir path ≡ true → (rest : List ℕ) × (path ≡ dir ++ 47 ∷ rest)
below_split [] [] h = absurd (true≢false (sym h))
below_split [] (b ∷ path) h = (path, ap (λ (x : ℕ). x ∷ path) (eqb-true b 47 h))
below_split (a ∷ dir) [] h = absurd (true≢false (sym h))
below_split (a ∷ dir) (b ∷ path) h =
    let parts = and_parts (eqb a b) (is_below dir path) h in
    let more = below_split dir path parts.1 in
    (more.0, ap (λ (x : ℕ). x ∷ path) (sym (eqb-true a b parts.0)) ∙ ap (λ (l : List ℕ). a ∷ l) more.1)

-- what stands below a directory is longer
pub below_length : (dir path : List ℕ) → is_below dir path ≡ true → length dir < length path
below_length [] [] h = absurd (true≢false (sym h))
below_length [] (b ∷ path) h = omega arith
below_length (a ∷ dir) [] h = absurd (true≢false (sym h))
below_length (a ∷ dir) (b ∷ path) h =
    let shorter : length dir < length path = below_length dir path (and_parts (eqb a b) (is_below dir path) h).1 in
    omega arith

-- nothing stands below itself
pub below_itself : (path : List ℕ) → is_below path path ≡ false
below_itself path = false_from_ne_true (is_below path path) (λ h. let longer : length path < length path = below_length path path h in absurd (omega arith))

-- no directory stands below what stands below it
pub below_not_back : (dir path : List ℕ) → is_below dir path ≡ true → is_below path dir ≡ false
below_not_back dir path h = false_from_ne_true (is_below path dir)
    (λ back. let longer : length dir < length path = below_length dir path h in let shorter : length path < length dir = below_length path dir back in absurd (omega arith))

-- below what stands below
pub below_trans : (a b c : List ℕ) → is_below a b ≡ true → is_below b c ≡ true → is_below a c ≡ true
below_trans [] [] c p q = absurd (true≢false (sym p))
below_trans [] (x ∷ b) [] p q = absurd (true≢false (sym q))
below_trans [] (x ∷ b) (y ∷ c) p q = ap (λ (z : ℕ). eqb z 47) (sym (eqb-true x y (and_parts (eqb x y) (is_below b c) q).0)) ∙ p
below_trans (w ∷ a) [] c p q = absurd (true≢false (sym p))
below_trans (w ∷ a) (x ∷ b) [] p q = absurd (true≢false (sym q))
below_trans (w ∷ a) (x ∷ b) (y ∷ c) p q =
    let first = and_parts (eqb w x) (is_below a b) p in
    let second = and_parts (eqb x y) (is_below b c) q in
    and_from (eqb w y) (is_below a c) (eq-eqb w y (eqb-true w x first.0 ∙ eqb-true x y second.0)) (below_trans a b c first.1 second.1)

-- two directories above one path are the same, or one stands below the other
pub below_compared : (a b path : List ℕ) → is_below a path ≡ true → is_below b path ≡ true → (a ≡ b) ⊎ ((is_below a b ≡ true) ⊎ (is_below b a ≡ true))
below_compared a b [] p q = absurd (let longer : length a < 0 = below_length a [] p in omega arith)
below_compared [] [] (z ∷ path) p q = inl refl
below_compared [] (y ∷ b) (z ∷ path) p q = inr (inl (ap (λ (x : ℕ). eqb x 47) (eqb-true y z (and_parts (eqb y z) (is_below b path) q).0) ∙ p))
below_compared (x ∷ a) [] (z ∷ path) p q = inr (inr (ap (λ (y : ℕ). eqb y 47) (eqb-true x z (and_parts (eqb x z) (is_below a path) p).0) ∙ q))
below_compared (x ∷ a) (y ∷ b) (z ∷ path) p q =
    let first = and_parts (eqb x z) (is_below a path) p in
    let second = and_parts (eqb y z) (is_below b path) q in
    let same : x ≡ y = eqb-true x z first.0 ∙ sym (eqb-true y z second.0) in
    elim (below_compared a b path first.1 second.1) [
      | inl e ↦ inl (ap (λ (h : ℕ). h ∷ a) same ∙ ap (λ (l : List ℕ). y ∷ l) e)
      | inr (inl e) ↦ inr (inl (and_from (eqb x y) (is_below a b) (eq-eqb x y same) e))
      | inr (inr e) ↦ inr (inr (and_from (eqb y x) (is_below b a) (eq-eqb y x (sym same)) e))
    ]

-- a text without a slash stands below nothing
pub below_name : (dir name : List ℕ) → has_slash name ≡ false → is_below dir name ≡ false
below_name [] [] h = refl
below_name [] (b ∷ name) h = (or_parts (eqb b 47) (has_slash name) h).0
below_name (a ∷ dir) [] h = refl
below_name (a ∷ dir) (b ∷ name) h = and_right (eqb a b) (is_below dir name) (below_name dir name (or_parts (eqb b 47) (has_slash name) h).1)

-- what a name in a directory stands below is the directory, or what the directory stands below
pub below_of_joined : (above dir name : List ℕ) → has_slash name ≡ false → is_below above (dir ++ 47 ∷ name) ≡ true → (above ≡ dir) ⊎ (is_below above dir ≡ true)
below_of_joined [] [] name plain h = inl refl
below_of_joined [] (b ∷ dir) name plain h = inr h
below_of_joined (a ∷ above) [] name plain h =
    absurd (both_ways (is_below above name) (below_name above name plain) (and_parts (eqb a 47) (is_below above name) h).1)
below_of_joined (a ∷ above) (b ∷ dir) name plain h =
    let parts = and_parts (eqb a b) (is_below above (dir ++ 47 ∷ name)) h in
    let same : a ≡ b = eqb-true a b parts.0 in
    elim (below_of_joined above dir name plain parts.1) [
      | inl e ↦ inl (ap (λ (x : ℕ). x ∷ above) same ∙ ap (λ (l : List ℕ). b ∷ l) e)
      | inr e ↦ inr (and_from (eqb a b) (is_below above dir) parts.0 e)
    ]

-- what stands below a directory stays below it with a name behind it
pub below_longer : (above dir name : List ℕ) → is_below above dir ≡ true → is_below above (dir ++ 47 ∷ name) ≡ true
below_longer above dir name h = below_trans above dir (dir ++ 47 ∷ name) h (below_joined dir name)

-- a test of it by the byte behind the directory
pub below_short : (dir path : List ℕ) → length path ≤ length dir → is_below dir path ≡ false
below_short dir path h = false_from_ne_true (is_below dir path) (λ t. let longer : length dir < length path = below_length dir path t in absurd (omega arith))

pub below_other : (dir path : List ℕ) → get_or path (length dir) 0 ≢ 47 → is_below dir path ≡ false
below_other [] [] h = refl
below_other [] (b ∷ path) h = ne_eqb b 47 h
below_other (a ∷ dir) [] h = refl
below_other (a ∷ dir) (b ∷ path) h = and_right (eqb a b) (is_below dir path) (below_other dir path h)

pub below_at : (dir path : List ℕ) → get_or path (length dir) 0 ≡ 47 → is_below dir path ≡ starts_with eqb path dir
below_at [] [] h = absurd (omega arith)
below_at [] (b ∷ path) h = eq-eqb b 47 h
below_at (a ∷ dir) [] h = refl
below_at (a ∷ dir) (b ∷ path) h = ap (λ (t : Bool). eqb a b && t) (below_at dir path h)
