-- Words of the ends whose first character is below a number, and the ranges that they give.
use Rattle.std.proofs.Common.{◌≡◌, ◌≢◌, inl, inr, ℕ, zero, suc, ◌+◌, ◌<◌, ◌≤◌, min, Bool, true, false, not, ◌&&◌, ◌||◌, ◌==◌, nat_le, nat_lt, List, set, length, length-set, get_or, replicate, ◌∷◌, [], ◌-◌, ◌*◌, ◌^◌, ◌%◌, refl, sym, ap, subst, ◌∙◌, arith, add-one, eqb-true, eq-eqb, le-leb, leb-true, get_or-set_same, get_or-set_other}
use Rattle.std.specs.Int.{bit_not, trailing_zeros, w64}
use Rattle.std.specs.Int.Bits.{bit_and, bit_or}
use Rattle.std.proofs.lemmas.Nat.{and_le_l}
use Rattle.std.proofs.lemmas.Nat.Bits.{bit_at-trailing_zeros, bit_at_clear_same, bit_at_clear_other}
use Rattle.std.proofs.lemmas.Bool.{false≢true, ne_eqb, or_cases, or_left, or_right, and_from, and_left, and_right, not_from_true, not_from_false, lt-ltb, le-ltb, lt-leb, ltb-true, ltb-false, leb-false}
use Rattle.std.specs.Cmp.{both_ways}
use Rattle.std.proofs.lemmas.List.{get_or-replicate}
use Rattle.hg_glob.specs.Column.{bit, marked, passes, IsMask, IsWord, IsSums, AreEach}
use Rattle.hg_glob.proofs.Bits.{bit_of_none, bit_of_and, bit_of_or, or_false}
use Rattle.hg_glob.proofs.Masks.{word_of_mask, passes_at, and_true, and_false, pinned}

-- the sums up to a number
pub record SumsTo (table sums : List ℕ) (x : ℕ) : Type 0 where
  pub room : length sums ≡ 129
  pub at : (xs : List ℕ) → AreEach xs table → (y : ℕ) → y ≤ x → IsWord xs (λ c. nat_lt c y) (get_or sums y 0)

none_below : (xs : List ℕ) (y word : ℕ) → y ≡ 0 → word ≡ 0 → IsWord xs (λ c. nat_lt c y) word
none_below xs y word none is = subst (λ w. IsWord xs (λ c. nat_lt c y) w) (sym is) (record {
  front = bit_of_none 0;
  at = λ i _. bit_of_none (suc i) ∙ sym (le-ltb (get_or xs i 0) y (omega (arith, none)));
})

pub sums_first : (table sums : List ℕ) (x : ℕ) → sums ≡ replicate 129 0 → length sums ≡ 129 → x ≡ 0 → SumsTo table sums x
sums_first table sums x sums_is room none = record {
  room = room;
  at = λ xs _ y few. none_below xs y (get_or sums y 0) (omega (arith, few, none)) (ap (λ s. get_or s y 0) sums_is ∙ get_or-replicate 129 y 0 0 (omega (arith, few, none)));
}

below_test : (c x : ℕ) → (nat_lt c x || c == x) ≡ nat_lt c (x + 1)
below_test c x = both_ways (nat_lt c x || c == x) (nat_lt c (x + 1)) there back
  where
    there : (nat_lt c x || c == x) ≡ true → nat_lt c (x + 1) ≡ true
    there h = lt-ltb c (x + 1) (elim (or_cases (nat_lt c x) (c == x) h) [
      | inl less ↦ let h = ltb-true c x less in omega arith
      | inr same ↦ let h = eqb-true c x same in omega arith
    ])

    back_by : (b : Bool) → (c == x) ≡ b → c < x + 1 → (nat_lt c x || c == x) ≡ true
    back_by true same h = or_right (nat_lt c x) (c == x) same
    back_by false other h = or_left (nat_lt c x) (c == x) (lt-ltb c x (omega (arith, h, (λ (e : c ≡ x). false≢true (sym other ∙ eq-eqb c x e)))))

    back : nat_lt c (x + 1) ≡ true → (nat_lt c x || c == x) ≡ true
    back h = back_by (c == x) refl (ltb-true c (x + 1) h)

one_below : (xs : List ℕ) (x a b : ℕ) → IsWord xs (λ c. nat_lt c x) a → IsWord xs (λ c. c == x) b → IsWord xs (λ c. nat_lt c (x + 1)) (bit_or a b)
one_below xs x a b h k = record {
  front = bit_of_or a b 0 ∙ ap (λ v. v || bit b 0) h.front ∙ k.front;
  at = λ i below. bit_of_or a b (suc i) ∙ ap (λ v. v || bit b (suc i)) (h.at i below) ∙ ap (λ v. nat_lt (get_or xs i 0) x || v) (k.at i below) ∙ below_test (get_or xs i 0) x;
}

sum_at : (table sums : List ℕ) (x : ℕ) (xs : List ℕ) (y : ℕ) (b : Bool) → (y == x + 1) ≡ b → x < 128 → SumsTo table sums x → AreEach xs table → y ≤ x + 1
    → IsWord xs (λ c. nat_lt c y) (get_or (set sums (x + 1) (bit_or (get_or sums x 0) (get_or table x 0))) y 0)
sum_at table sums x xs y true same below h each few =
    let word : ℕ = bit_or (get_or sums x 0) (get_or table x 0) in
    subst (λ z. IsWord xs (λ c. nat_lt c z) (get_or (set sums (x + 1) word) z 0)) (sym (eqb-true y (x + 1) same))
    (subst (λ w. IsWord xs (λ c. nat_lt c (x + 1)) w) (sym (get_or-set_same sums (x + 1) word 0 (omega (arith, h.room, below))))
    (one_below xs x (get_or sums x 0) (get_or table x 0) (h.at xs each x (omega arith)) (word_of_mask xs (λ c. c == x) (get_or table x 0) (each x below))))
sum_at table sums x xs y false other below h each few =
    let apart : y ≢ x + 1 = λ e. false≢true (sym other ∙ eq-eqb y (x + 1) e) in
    subst (λ w. IsWord xs (λ c. nat_lt c y) w) (sym (get_or-set_other sums (x + 1) y (bit_or (get_or sums x 0) (get_or table x 0)) 0 apart))
    (h.at xs each y (omega (arith, few, apart)))

pub sums_more : (table sums : List ℕ) (x : ℕ) → x < 128 → SumsTo table sums x → SumsTo table (set sums (x + 1) (bit_or (get_or sums x 0) (get_or table x 0))) (x + 1)
sums_more table sums x below h = record { room = length-set sums (x + 1) (bit_or (get_or sums x 0) (get_or table x 0)) ∙ h.room; at = λ xs each y few. sum_at table sums x xs y (y == x + 1) refl below h each few }

-- a range by the sums
span_by : (c low high first last : ℕ) (a b : Bool) → first ≡ min low 128 → last ≡ min high 127 → nat_le low c ≡ a → nat_le c high ≡ b → (nat_lt c (last + 1) && not (nat_lt c first)) ≡ (nat_lt c 128 && (a && b))
span_by c low high first last true true f l p q =
    let over : low ≤ c = leb-true low c p in
    let under : c ≤ high = leb-true c high q in
    small (nat_lt c 128) refl over under
  where
    small : (v : Bool) → nat_lt c 128 ≡ v → low ≤ c → c ≤ high → (nat_lt c (last + 1) && not (nat_lt c first)) ≡ (v && true)
    small true few over under =
        let near : c < 128 = ltb-true c 128 few in
        and_from (nat_lt c (last + 1)) (not (nat_lt c first)) (lt-ltb c (last + 1) (omega (arith, near, under, l))) (not_from_false (nat_lt c first) (le-ltb c first (omega (arith, over, f))))
    small false many over under =
        let far : 128 ≤ c = ltb-false c 128 many in
        and_left (nat_lt c (last + 1)) (not (nat_lt c first)) (le-ltb c (last + 1) (omega (arith, far, l)))
span_by c low high first last true false f l p q =
    let beyond : high < c = leb-false c high q in
    and_left (nat_lt c (last + 1)) (not (nat_lt c first)) (le-ltb c (last + 1) (omega (arith, beyond, l))) ∙ sym (and_false (nat_lt c 128))
span_by c low high first last false b f l p q = before (nat_lt c 128) refl
  where
    under : c < low
    under = leb-false low c p

    before : (v : Bool) → nat_lt c 128 ≡ v → (nat_lt c (last + 1) && not (nat_lt c first)) ≡ (v && false)
    before true small =
        let few : c < 128 = ltb-true c 128 small in
        and_right (nat_lt c (last + 1)) (not (nat_lt c first)) (not_from_true (nat_lt c first) (lt-ltb c first (omega (arith, few, under, f))))
    before false large =
        let many : 128 ≤ c = ltb-false c 128 large in
        and_left (nat_lt c (last + 1)) (not (nat_lt c first)) (le-ltb c (last + 1) (omega (arith, many, l)))

pub span_word : (xs sums : List ℕ) (low high first last over : ℕ) → first ≡ min low 128 → last ≡ min high 127 → IsSums xs sums → length xs ≤ 63 → bit over 0 ≡ false
    → ((i : ℕ) → i + 1 < 64 → bit over (i + 1) ≡ not (bit (get_or sums first 0) (i + 1))) → IsWord xs (λ c. nat_lt c 128 && (nat_le low c && nat_le c high)) (bit_and (get_or sums (last + 1) 0) over)
span_word xs sums low high first last over f l h few front more =
    let top = h.at (last + 1) (omega (arith, l)) in
    let bottom = h.at first (omega (arith, f)) in
    record {
      front = bit_of_and (get_or sums (last + 1) 0) over 0 ∙ and_right (bit (get_or sums (last + 1) 0) 0) (bit over 0) front;
      at = λ i below.
          bit_of_and (get_or sums (last + 1) 0) over (suc i) ∙ ap (λ v. v && bit over (suc i)) (top.at i below)
          ∙ ap (λ v. nat_lt (get_or xs i 0) (last + 1) && v) (subst (λ n. bit over n ≡ not (bit (get_or sums first 0) n)) (add-one i) (more i (omega (arith, few, below))) ∙ ap not (bottom.at i below))
          ∙ span_by (get_or xs i 0) low high first last (nat_le low (get_or xs i 0)) (nat_le (get_or xs i 0) high) f l refl refl;
    }

-- the ends of characters beyond ASCII that were looked at, those that are left taken away one by one
pub record FarTo (xs : List ℕ) (test : ℕ → Bool) (wide left word : ℕ) : Type 0 where
  pub front : bit word 0 ≡ false
  pub within : (i : ℕ) → bit left i ≡ true → bit wide i ≡ true
  pub at : (i : ℕ) → i < length xs → bit word (suc i) ≡ ((bit wide (suc i) && not (bit left (suc i))) && test (get_or xs i 0))

not_both : (v w : Bool) → ((v && not v) && w) ≡ false
not_both true w = refl
not_both false w = refl

pub far_first : (xs : List ℕ) (test : ℕ → Bool) (wide : ℕ) → FarTo xs test wide wide 0
far_first xs test wide = record {
  front = bit_of_none 0;
  within = λ i h. h;
  at = λ i _. bit_of_none (suc i) ∙ sym (not_both (bit wide (suc i)) (test (get_or xs i 0)));
}

pub lowest : (left : ℕ) → left ≢ 0 → left < 2 ^ 64 → (trailing_zeros w64 left < 64) × (bit left (trailing_zeros w64 left) ≡ true)
unfolding bit
lowest left some fits =
    let place = bit_at-trailing_zeros w64 left (omega (arith, some)) fits in
    (place.0, ap (λ v. v == 1) place.1)

-- the place of an end that is left
pub far_place : (xs : List ℕ) (test : ℕ → Bool) (wide left word at : ℕ) → IsMask xs (λ c. nat_le 128 c) wide → FarTo xs test wide left word → bit left at ≡ true → (1 ≤ at) × (at - 1 < length xs)
far_place xs test wide left word at h so here = place at (sym (h.at at) ∙ so.within at here)
  where
    inside : (ys : List ℕ) (i : ℕ) → passes (λ c. nat_le 128 c) ys i ≡ true → i < length ys
    inside [] i e = absurd (false≢true e)
    inside (y ∷ ys) zero e = omega arith
    inside (y ∷ ys) (suc i) e = let below = inside ys i e in omega arith

    place : (n : ℕ) → marked (λ c. nat_le 128 c) xs n ≡ true → (1 ≤ n) × (n - 1 < length xs)
    place zero e = absurd (false≢true e)
    place (suc i) e = let below = inside xs i e in (omega arith, omega arith)

cleared : (left at i : ℕ) → at < 64 → i < 64 → i ≢ at → bit (bit_and left (bit_not w64 (1 * 2 ^ at % 2 ^ 64))) i ≡ bit left i
unfolding bit
cleared left at i below few other = ap (λ v. v == 1) (bit_at_clear_other w64 left at below i few other)

gone : (left at : ℕ) → at < 64 → bit (bit_and left (bit_not w64 (1 * 2 ^ at % 2 ^ 64))) at ≡ false
unfolding bit
gone left at below = ap (λ v. v == 1) (bit_at_clear_same w64 left at below)

pub fewer_left : (left at : ℕ) → at < 64 → bit left at ≡ true → bit_and left (bit_not w64 (1 * 2 ^ at % 2 ^ 64)) < left
fewer_left left at below here =
    let most = and_le_l left (bit_not w64 (1 * 2 ^ at % 2 ^ 64)) in
    let other : bit_and left (bit_not w64 (1 * 2 ^ at % 2 ^ 64)) ≢ left = λ e. false≢true (sym (gone left at below) ∙ ap (λ w. bit w at) e ∙ here) in
    omega (arith, most, other)

look : (w l v : Bool) → w ≡ true → l ≡ true → (((w && not l) && v) || (v && true)) ≡ v
look true true true p q = refl
look true true false p q = refl
look true false v p q = absurd (false≢true q)
look false l v p q = absurd (false≢true p)

far_at : (xs : List ℕ) (test : ℕ → Bool) (wide left word at i : ℕ) (hit b : Bool) → (suc i == at - 1 + 1) ≡ b → FarTo xs test wide left word → length xs ≤ 63 → 1 ≤ at → at < 64 → bit left at ≡ true → hit ≡ test (get_or xs (at - 1) 0) → i < length xs
    → (bit word (suc i) || (hit && b)) ≡ ((bit wide (suc i) && not (bit (bit_and left (bit_not w64 (1 * 2 ^ at % 2 ^ 64))) (suc i))) && test (get_or xs i 0))
far_at xs test wide left word at i hit true same h few some below here found inside =
    let e : at ≡ suc i = omega (arith, eqb-true (suc i) (at - 1 + 1) same, some) in
    let n : at - 1 ≡ i = omega (arith, e) in
    let there : bit left (suc i) ≡ true = ap (λ k. bit left k) (sym e) ∙ here in
    let off : bit (bit_and left (bit_not w64 (1 * 2 ^ at % 2 ^ 64))) (suc i) ≡ false = ap (λ k. bit (bit_and left (bit_not w64 (1 * 2 ^ at % 2 ^ 64))) k) (sym e) ∙ gone left at below in
    ap (λ v. v || (hit && true)) (h.at i inside) ∙ ap (λ v. ((bit wide (suc i) && not (bit left (suc i))) && test (get_or xs i 0)) || (v && true)) (found ∙ ap (λ k. test (get_or xs k 0)) n)
    ∙ look (bit wide (suc i)) (bit left (suc i)) (test (get_or xs i 0)) (h.within (suc i) there) there
    ∙ ap (λ v. v && test (get_or xs i 0)) (sym (ap (λ v. v && not (bit (bit_and left (bit_not w64 (1 * 2 ^ at % 2 ^ 64))) (suc i))) (h.within (suc i) there) ∙ ap not off))
far_at xs test wide left word at i hit false other h few some below here found inside =
    let apart : suc i ≢ at = λ e. false≢true (sym other ∙ eq-eqb (suc i) (at - 1 + 1) (omega (arith, e, some))) in
    ap (λ v. bit word (suc i) || v) (and_false hit) ∙ or_false (bit word (suc i)) ∙ h.at i inside ∙ ap (λ v. (bit wide (suc i) && not v) && test (get_or xs i 0)) (sym (cleared left at (suc i) below (omega (arith, few, inside)) apart))

pub far_more : (xs : List ℕ) (test : ℕ → Bool) (wide left word at on : ℕ) (hit : Bool) → FarTo xs test wide left word → length xs ≤ 63 → 1 ≤ at → at < 64 → bit left at ≡ true → hit ≡ test (get_or xs (at - 1) 0) → ((i : ℕ) → bit on i ≡ (bit word i || (hit && i == at - 1 + 1)))
    → FarTo xs test wide (bit_and left (bit_not w64 (1 * 2 ^ at % 2 ^ 64))) on
far_more xs test wide left word at on hit h few some below here found put = record {
  front = put 0 ∙ ap (λ v. v || (hit && 0 == at - 1 + 1)) h.front ∙ ap (λ v. hit && v) (ne_eqb 0 (at - 1 + 1) (λ e. omega (arith, e))) ∙ and_false hit;
  within = λ i e. h.within i (left_of (bit left i) (bit (bit_not w64 (1 * 2 ^ at % 2 ^ 64)) i) (sym (bit_of_and left (bit_not w64 (1 * 2 ^ at % 2 ^ 64)) i) ∙ e));
  at = λ i inside. put (suc i) ∙ far_at xs test wide left word at i hit (suc i == at - 1 + 1) refl h few some below here found inside;
}
  where
    left_of : (v w : Bool) → (v && w) ≡ true → v ≡ true
    left_of true w e = refl
    left_of false w e = e

pub far_word : (xs : List ℕ) (test : ℕ → Bool) (wide left word : ℕ) → IsMask xs (λ c. nat_le 128 c) wide → FarTo xs test wide left word → left ≡ 0 → IsWord xs (λ c. nat_le 128 c && test c) word
far_word xs test wide left word m h none = record {
  front = h.front;
  at = λ i below.
      h.at i below ∙ ap (λ v. (bit wide (suc i) && not v) && test (get_or xs i 0)) (ap (λ w. bit w (suc i)) none ∙ bit_of_none (suc i))
      ∙ ap (λ v. v && test (get_or xs i 0)) (sym (and_true (bit wide (suc i))) ∙ m.at (suc i) ∙ passes_at (λ c. nat_le 128 c) xs i below);
}

-- the whole range
whole : (c : ℕ) (v : Bool) → ((nat_lt c 128 && v) || (nat_le 128 c && v)) ≡ v
whole c v = by (nat_lt c 128) refl
  where
    by : (b : Bool) → nat_lt c 128 ≡ b → ((b && v) || (nat_le 128 c && v)) ≡ v
    by true few = ap (λ w. v || (w && v)) (lt-leb 128 c (ltb-true c 128 few)) ∙ or_false v
    by false many = ap (λ w. w && v) (le-leb 128 c (ltb-false c 128 many))

pub both_words : (xs : List ℕ) (test : ℕ → Bool) (near far : ℕ) → IsWord xs (λ c. nat_lt c 128 && test c) near → IsWord xs (λ c. nat_le 128 c && test c) far → IsWord xs test (bit_or near far)
both_words xs test near far h k = record {
  front = bit_of_or near far 0 ∙ ap (λ v. v || bit far 0) h.front ∙ k.front;
  at = λ i below.
      bit_of_or near far (suc i) ∙ ap (λ v. v || bit far (suc i)) (h.at i below) ∙ ap (λ v. (nat_lt (get_or xs i 0) 128 && test (get_or xs i 0)) || v) (k.at i below) ∙ whole (get_or xs i 0) (test (get_or xs i 0));
}

-- no character beyond ASCII is there
pub only_near : (xs : List ℕ) (test : ℕ → Bool) (wide near : ℕ) → IsMask xs (λ c. nat_le 128 c) wide → wide ≡ 0 → IsWord xs (λ c. nat_lt c 128 && test c) near → IsWord xs test near
only_near xs test wide near m none h = record {
  front = h.front;
  at = λ i below.
      let less : nat_le 128 (get_or xs i 0) ≡ false = sym (passes_at (λ c. nat_le 128 c) xs i below) ∙ sym (m.at (suc i)) ∙ ap (λ w. bit w (suc i)) none ∙ bit_of_none (suc i) in
      h.at i below ∙ ap (λ v. v && test (get_or xs i 0)) (lt-ltb (get_or xs i 0) 128 (leb-false 128 (get_or xs i 0) less));
}

-- one character beyond ASCII
pub far_one : (xs : List ℕ) (x word : ℕ) → 128 ≤ x → IsWord xs (λ c. nat_le 128 c && (nat_le x c && nat_le c x)) word → IsWord xs (λ c. c == x) word
far_one xs x word far h = record { front = h.front; at = λ i below. h.at i below ∙ ap (λ v. nat_le 128 (get_or xs i 0) && v) (pinned x (get_or xs i 0)) ∙ same (get_or xs i 0) (get_or xs i 0 == x) refl }
  where
    same : (c : ℕ) (b : Bool) → (c == x) ≡ b → (nat_le 128 c && b) ≡ b
    same c true e = and_from (nat_le 128 c) true (le-leb 128 c (omega (arith, eqb-true c x e, far))) refl
    same c false e = and_false (nat_le 128 c)
