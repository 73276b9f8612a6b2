-- Bits of words: of `&`, `|`, `^`, a shift by one, and a sum whose carry smears.
use Rattle.std.proofs.Common.{◌≡◌, ℕ, zero, suc, ◌+◌, ◌-◌, ◌*◌, ◌/◌, ◌%◌, ◌^◌, ◌<◌, min, max, Bool, true, false, not, cond, ◌&&◌, ◌||◌, ◌==◌, refl, sym, ap, ◌∙◌, arith, add-one, eqb-true, eq-eqb}
use Rattle.std.specs.Int.{bit_at, w64}
use Rattle.std.specs.Int.Bits.{bit_and, bit_or, bit_xor}
use Rattle.std.proofs.lemmas.Nat.Bits.{bit_at_and, bit_at_or, bit_at_xor, bit_at-lt, bit_at-suc, bit_at_lowest, bit_at-zero, bit_at_cat_low, bit_at_ones, bit_at_set_same, bit_at_set_other}
use Rattle.std.proofs.lemmas.Bool.{false≢true}
use Rattle.hg_glob.specs.Column.{bit, IsUp, IsSmeared}

min_bit : (x y : ℕ) → x < 2 → y < 2 → (min x y == 1) ≡ (x == 1 && y == 1)
min_bit zero zero h k = refl
min_bit zero (suc zero) h k = refl
min_bit (suc zero) zero h k = refl
min_bit (suc zero) (suc zero) h k = refl
min_bit (suc (suc x)) y h k = absurd (omega arith)
min_bit x (suc (suc y)) h k = absurd (omega arith)

max_bit : (x y : ℕ) → x < 2 → y < 2 → (max x y == 1) ≡ (x == 1 || y == 1)
max_bit zero zero h k = refl
max_bit zero (suc zero) h k = refl
max_bit (suc zero) zero h k = refl
max_bit (suc zero) (suc zero) h k = refl
max_bit (suc (suc x)) y h k = absurd (omega arith)
max_bit x (suc (suc y)) h k = absurd (omega arith)

abbrev pub differ : Bool → Bool → Bool
differ true b = not b
differ false b = b

xor_bit : (x y : ℕ) → x < 2 → y < 2 → ((x + y) % 2 == 1) ≡ differ (x == 1) (y == 1)
xor_bit zero zero h k = refl
xor_bit zero (suc zero) h k = refl
xor_bit (suc zero) zero h k = refl
xor_bit (suc zero) (suc zero) h k = refl
xor_bit (suc (suc x)) y h k = absurd (omega arith)
xor_bit x (suc (suc y)) h k = absurd (omega arith)

pub bit_of_and : (a b i : ℕ) → bit (bit_and a b) i ≡ (bit a i && bit b i)
unfolding bit
bit_of_and a b i = ap (λ v. v == 1) (bit_at_and a b i) ∙ min_bit (bit_at a i) (bit_at b i) (bit_at-lt a i) (bit_at-lt b i)

pub bit_of_or : (a b i : ℕ) → bit (bit_or a b) i ≡ (bit a i || bit b i)
unfolding bit
bit_of_or a b i = ap (λ v. v == 1) (bit_at_or a b i) ∙ max_bit (bit_at a i) (bit_at b i) (bit_at-lt a i) (bit_at-lt b i)

pub bit_of_xor : (a b i : ℕ) → bit (bit_xor a b) i ≡ differ (bit a i) (bit b i)
unfolding bit
bit_of_xor a b i = ap (λ v. v == 1) (bit_at_xor a b i) ∙ xor_bit (bit_at a i) (bit_at b i) (bit_at-lt a i) (bit_at-lt b i)

pub bit_of_none : (i : ℕ) → bit 0 i ≡ false
unfolding bit
bit_of_none i = ap (λ v. v == 1) (bit_at-zero i)

at_mod : (n k i : ℕ) → i < k → bit_at (n % 2 ^ k) i ≡ bit_at n i
at_mod n k i below = sym (bit_at_cat_low (n / 2 ^ k) k (n % 2 ^ k) i below) ∙ ap (λ v. bit_at v i) (whole n (2 ^ k))
  where
    whole : (n m : ℕ) → n / m * m + n % m ≡ n
    whole n m = omega arith

pub bit_of_mod : (n k i : ℕ) → i < k → bit (n % 2 ^ k) i ≡ bit n i
unfolding bit
bit_of_mod n k i below = ap (λ v. v == 1) (at_mod n k i below)

half_double : (n : ℕ) → n * 2 / 2 ≡ n
half_double n = omega arith

even_double : (n : ℕ) → n * 2 % 2 ≡ 0
even_double n = omega arith

double_front : (n : ℕ) → bit (n * 2) 0 ≡ false
unfolding bit
double_front n = ap (λ v. v == 1) (bit_at_lowest (n * 2) ∙ even_double n)

double_more : (n i : ℕ) → bit (n * 2) (suc i) ≡ bit n i
unfolding bit
double_more n i = ap (λ v. v == 1) (bit_at-suc (n * 2) i ∙ ap (λ v. bit_at v i) (half_double n))

pub shifted_up : (w k : ℕ) → 0 < k → (bit (w * 2 % 2 ^ k) 0 ≡ false) × ((i : ℕ) → suc i < k → bit (w * 2 % 2 ^ k) (suc i) ≡ bit w i)
shifted_up w k some = (bit_of_mod (w * 2) k 0 some ∙ double_front w, λ i below. bit_of_mod (w * 2) k (suc i) below ∙ double_more w i)

-- the carry into place i of the sum of two numbers and a carry
over : ℕ → ℕ → ℕ → ℕ → ℕ
over m s c zero = c
over m s c (suc i) = over (m / 2) (s / 2) ((m % 2 + s % 2 + c) / 2) i

half_sum : (m s c : ℕ) → (m + s + c) / 2 ≡ m / 2 + s / 2 + (m % 2 + s % 2 + c) / 2
half_sum m s c = omega arith

low_sum : (m s c : ℕ) → (m + s + c) % 2 ≡ (m % 2 + s % 2 + c) % 2
low_sum m s c = omega arith

carry_small : (m s c : ℕ) → c < 2 → (m % 2 + s % 2 + c) / 2 < 2
carry_small m s c h = omega arith

over_small : (m s c i : ℕ) → c < 2 → over m s c i < 2
unfolding over
over_small m s c zero h = h
over_small m s c (suc i) h = over_small (m / 2) (s / 2) ((m % 2 + s % 2 + c) / 2) i (carry_small m s c h)

sum_at : (m s c i : ℕ) → bit_at (m + s + c) i ≡ (bit_at m i + bit_at s i + over m s c i) % 2
unfolding over
sum_at m s c zero = bit_at_lowest (m + s + c) ∙ low_sum m s c ∙ ap (λ v. (v + s % 2 + c) % 2) (sym (bit_at_lowest m)) ∙ ap (λ v. (bit_at m 0 + v + c) % 2) (sym (bit_at_lowest s))
sum_at m s c (suc i) =
    bit_at-suc (m + s + c) i ∙ ap (λ v. bit_at v i) (half_sum m s c) ∙ sum_at (m / 2) (s / 2) ((m % 2 + s % 2 + c) / 2) i
    ∙ ap (λ v. (v + bit_at (s / 2) i + over m s c (suc i)) % 2) (sym (bit_at-suc m i)) ∙ ap (λ v. (bit_at m (suc i) + v + over m s c (suc i)) % 2) (sym (bit_at-suc s i))

over_more : (m s c i : ℕ) → over m s c (suc i) ≡ (bit_at m i + bit_at s i + over m s c i) / 2
unfolding over
over_more m s c zero = ap (λ v. (v + s % 2 + c) / 2) (sym (bit_at_lowest m)) ∙ ap (λ v. (bit_at m 0 + v + c) / 2) (sym (bit_at_lowest s))
over_more m s c (suc i) =
    over_more (m / 2) (s / 2) ((m % 2 + s % 2 + c) / 2) i
    ∙ ap (λ v. (v + bit_at (s / 2) i + over m s c (suc i)) / 2) (sym (bit_at-suc m i)) ∙ ap (λ v. (bit_at m (suc i) + v + over m s c (suc i)) / 2) (sym (bit_at-suc s i))

abbrev pub most : Bool → Bool → Bool → Bool
most true b c = b || c
most false b c = b && c

odd_three : (x y z : ℕ) → x < 2 → y < 2 → z < 2 → ((x + y + z) % 2 == 1) ≡ differ (x == 1) (differ (y == 1) (z == 1))
odd_three zero zero zero h k l = refl
odd_three zero zero (suc zero) h k l = refl
odd_three zero (suc zero) zero h k l = refl
odd_three zero (suc zero) (suc zero) h k l = refl
odd_three (suc zero) zero zero h k l = refl
odd_three (suc zero) zero (suc zero) h k l = refl
odd_three (suc zero) (suc zero) zero h k l = refl
odd_three (suc zero) (suc zero) (suc zero) h k l = refl
odd_three (suc (suc x)) y z h k l = absurd (omega arith)
odd_three x (suc (suc y)) z h k l = absurd (omega arith)
odd_three x y (suc (suc z)) h k l = absurd (omega arith)

two_of_three : (x y z : ℕ) → x < 2 → y < 2 → z < 2 → ((x + y + z) / 2 == 1) ≡ most (x == 1) (y == 1) (z == 1)
two_of_three zero zero zero h k l = refl
two_of_three zero zero (suc zero) h k l = refl
two_of_three zero (suc zero) zero h k l = refl
two_of_three zero (suc zero) (suc zero) h k l = refl
two_of_three (suc zero) zero zero h k l = refl
two_of_three (suc zero) zero (suc zero) h k l = refl
two_of_three (suc zero) (suc zero) zero h k l = refl
two_of_three (suc zero) (suc zero) (suc zero) h k l = refl
two_of_three (suc (suc x)) y z h k l = absurd (omega arith)
two_of_three x (suc (suc y)) z h k l = absurd (omega arith)
two_of_three x y (suc (suc z)) h k l = absurd (omega arith)

-- whether a carry comes into the place
carries : ℕ → ℕ → ℕ → Bool
carries m s i = over m s 0 i == 1

add_none : (a : ℕ) → a + 0 ≡ a
add_none a = omega arith

bit_of_sum : (m s i : ℕ) → bit (m + s) i ≡ differ (bit m i) (differ (bit s i) (carries m s i))
unfolding bit carries
bit_of_sum m s i =
    ap (λ v. bit_at v i == 1) (sym (add_none (m + s))) ∙ ap (λ v. v == 1) (sum_at m s 0 i)
    ∙ odd_three (bit_at m i) (bit_at s i) (over m s 0 i) (bit_at-lt m i) (bit_at-lt s i) (over_small m s 0 i (omega arith))

carries_more : (m s i : ℕ) → carries m s (suc i) ≡ most (bit m i) (bit s i) (carries m s i)
unfolding bit carries
carries_more m s i = ap (λ v. v == 1) (over_more m s 0 i) ∙ two_of_three (bit_at m i) (bit_at s i) (over m s 0 i) (bit_at-lt m i) (bit_at-lt s i) (over_small m s 0 i (omega arith))

-- the bit of a smeared word, by those of the word, the mask, the word shifted up and the carry
abbrev pub smeared : Bool → Bool → Bool → Bool → Bool
smeared w m u c = (w || (m && u)) || (m && differ m (differ m (differ (m && u) c)))

smear_front : (w u c : Bool) → smeared w false u c ≡ w
smear_front true u c = refl
smear_front false u c = refl

smear_step : (w m u c v n : Bool) → smeared v n w (most m (m && u) c) ≡ (v || (n && smeared w m u c))
smear_step w m u c true n = refl
smear_step w m u c false false = refl
smear_step true m u c false true = refl
smear_step false false u c false true = refl
smear_step false true true c false true = refl
smear_step false true false true false true = refl
smear_step false true false false false true = refl

-- the word that the code makes
abbrev pub smear_word : ℕ → ℕ → ℕ → ℕ → ℕ
smear_word w m s sum = bit_or (bit_or w s) (bit_and m (bit_xor m sum))

smear_bit : (k w m u i : ℕ) → i < k → bit (smear_word w m (bit_and m u) ((m + bit_and m u) % 2 ^ k)) i ≡ smeared (bit w i) (bit m i) (bit u i) (carries m (bit_and m u) i)
smear_bit k w m u i below =
    let s : ℕ = bit_and m u in
    let sum : ℕ = (m + s) % 2 ^ k in
    let seeds : bit s i ≡ (bit m i && bit u i) = bit_of_and m u i in
    let sums : bit sum i ≡ differ (bit m i) (differ (bit m i && bit u i) (carries m s i)) =
    bit_of_mod (m + s) k i below ∙ bit_of_sum m s i ∙ ap (λ v. differ (bit m i) (differ v (carries m s i))) seeds in
    bit_of_or (bit_or w s) (bit_and m (bit_xor m sum)) i
    ∙ ap (λ v. v || bit (bit_and m (bit_xor m sum)) i) (bit_of_or w s i ∙ ap (λ v. bit w i || v) seeds)
    ∙ ap (λ v. (bit w i || (bit m i && bit u i)) || v) (bit_of_and m (bit_xor m sum) i ∙ ap (λ v. bit m i && v) (bit_of_xor m sum i ∙ ap (λ v. differ (bit m i) v) sums))

pub smears : (w m u : ℕ) → bit m 0 ≡ false → IsUp w u → IsSmeared w m (smear_word w m (bit_and m u) ((m + bit_and m u) % 2 ^ 64))
smears w m u off shifted = record {
  front = smear_bit 64 w m u 0 (omega arith) ∙ ap (λ v. smeared (bit w 0) v (bit u 0) (carries m (bit_and m u) 0)) off ∙ smear_front (bit w 0) (bit u 0) (carries m (bit_and m u) 0);
  more = λ i below.
      smear_bit 64 w m u (suc i) below
      ∙ ap (λ v. smeared (bit w (suc i)) (bit m (suc i)) v (carries m (bit_and m u) (suc i))) (shifted.more i below)
      ∙ ap (λ v. smeared (bit w (suc i)) (bit m (suc i)) (bit w i) v) (carries_more m (bit_and m u) i ∙ ap (λ v. most (bit m i) v (carries m (bit_and m u) i)) (bit_of_and m u i))
      ∙ smear_step (bit w i) (bit m i) (bit u i) (carries m (bit_and m u) i) (bit w (suc i)) (bit m (suc i))
      ∙ ap (λ v. bit w (suc i) || (bit m (suc i) && v)) (sym (smear_bit 64 w m u i (omega arith)));
}

pub bit_of_ones : (i : ℕ) → i < 64 → bit 18446744073709551615 i ≡ true
unfolding bit
bit_of_ones i below = ap (λ v. v == 1) (bit_at_ones 64 i below)

-- all ones but the lowest
longer_more : (k i : ℕ) → i < k → bit ((2 ^ k - 1) * 2) (suc i) ≡ true
unfolding bit
longer_more k i below = double_more (2 ^ k - 1) i ∙ ap (λ v. v == 1) (bit_at_ones k i below)

pub bit_of_longer : (i : ℕ) → i + 1 < 64 → bit 18446744073709551614 (i + 1) ≡ true
bit_of_longer i below = rw add-one (longer_more 63 i (omega arith))

set_at : (word k i : ℕ) (b : Bool) → k < 64 → (i == k) ≡ b → bit_at (bit_or word (1 * 2 ^ k % 2 ^ 64)) i ≡ cond b 1 (bit_at word i)
set_at word k i true below same = ap (bit_at (bit_or word (1 * 2 ^ k % 2 ^ 64))) (eqb-true i k same) ∙ bit_at_set_same w64 word k below
set_at word k i false below other = bit_at_set_other w64 word k below i (λ e. absurd (false≢true (sym other ∙ eq-eqb i k e)))

or_set : (b : Bool) (x : ℕ) → (cond b 1 x == 1) ≡ ((x == 1) || b)
or_set true x = sym (or_true (x == 1))
  where
    or_true : (v : Bool) → (v || true) ≡ true
    or_true true = refl
    or_true false = refl
or_set false x = sym (or_false (x == 1))
  where
    or_false : (v : Bool) → (v || false) ≡ v
    or_false true = refl
    or_false false = refl

-- one place more
pub bit_of_set : (word k i : ℕ) → k < 64 → bit (bit_or word (1 * 2 ^ k % 2 ^ 64)) i ≡ (bit word i || i == k)
unfolding bit
bit_of_set word k i below = ap (λ v. v == 1) (set_at word k i (i == k) below refl) ∙ or_set (i == k) (bit_at word i)

pub or_false : (v : Bool) → (v || false) ≡ v
or_false true = refl
or_false false = refl

pub bit_of_longer_front : bit 18446744073709551614 0 ≡ false
bit_of_longer_front = double_front 9223372036854775807
