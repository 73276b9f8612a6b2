-- Hexadecimal digits and the numbers that they spell.
use Rattle.std.proofs.Common.{◌≡◌, ℕ, zero, suc, ◌+◌, ◌*◌, ◌/◌, ◌%◌, ◌^◌, ◌<◌, ◌≤◌, true, List, [], ◌∷◌, ◌++◌, length, take, drop, set, get_or, refl, sym, ap, ◌∙◌, arith, Some, append_assoc}
use Rattle.std.specs.List.{list_all}
use Rattle.std.proofs.Math.Nat.{pow-suc, mul-le-mul_right, pow-le-pow_right}
use Rattle.std.proofs.lemmas.List.{length_push, length-take-le, take_more}
use Rattle.std.proofs.lemmas.List.Folds.{list_all-append}
use Rattle.std.proofs.lemmas.Bool.Decides.{nat_tests}
use Rattle.hg_docket.specs.Name.{is_name_byte}
use Rattle.hg_docket.specs.Number.{is_digit, digit_value, digit_of, hex_value, hex_text, number_of, is_number}
use Rattle.hg_docket.proofs.Branches.{both_hold}

more_digits : (n : ℕ) → 16 ^ (n + 1) ≡ 16 ^ n * 16
more_digits n = let next : n + 1 ≡ suc n = omega arith in rw next (pow-suc 16 n)

-- a digit more
pub hex_push : (digits : List ℕ) (b : ℕ) → hex_value (digits ++ b ∷ []) ≡ hex_value digits * 16 + digit_value b
hex_push [] b = omega arith
hex_push (x ∷ digits) b =
    let more : 16 ^ length (digits ++ b ∷ []) ≡ 16 ^ length digits * 16 = ap (λ n. 16 ^ n) (length_push digits b) ∙ more_digits (length digits) in
    rw (more, hex_push digits b) (omega arith)

digit_small : (b : ℕ) → is_digit b ≡ true → digit_value b < 16
digit_small b h = grind (arith, nat_tests, h)

pub hex_bound : (digits : List ℕ) → list_all is_digit digits ≡ true → hex_value digits < 16 ^ length digits
hex_bound [] h = omega arith
hex_bound (b ∷ digits) h =
    let parts = both_hold (is_digit b) (list_all is_digit digits) h in
    let small : digit_value b ≤ 15 = omega (arith, digit_small b parts.0) in
    let rest : hex_value digits < 16 ^ length digits = hex_bound digits parts.1 in
    let first : digit_value b * 16 ^ length digits ≤ 15 * 16 ^ length digits = mul-le-mul_right (16 ^ length digits) small in
    let more : 16 ^ suc (length digits) ≡ 16 ^ length digits * 16 = pow-suc 16 (length digits) in
    omega (arith, first, rest, more)

pub digits_taken : (digits : List ℕ) (i : ℕ) → list_all is_digit digits ≡ true → list_all is_digit (take i digits) ≡ true
digits_taken [] zero h = refl
digits_taken [] (suc i) h = refl
digits_taken (b ∷ digits) zero h = refl
digits_taken (b ∷ digits) (suc i) h =
    let parts = both_hold (is_digit b) (list_all is_digit digits) h in rw (parts.0, digits_taken digits i parts.1) refl

pub digit_at : (digits : List ℕ) (i : ℕ) → i < length digits → list_all is_digit digits ≡ true → is_digit (get_or digits i 0) ≡ true
digit_at [] i lt h = absurd (omega arith)
digit_at (b ∷ digits) zero lt h = (both_hold (is_digit b) (list_all is_digit digits) h).0
digit_at (b ∷ digits) (suc i) lt h = digit_at digits i (omega arith) (both_hold (is_digit b) (list_all is_digit digits) h).1

-- before the last of at most sixteen digits there is room for one more
pub has_room : (digits : List ℕ) (i : ℕ) → i < length digits → length digits ≤ 16 → list_all is_digit digits ≡ true → hex_value (take i digits) < 2 ^ 60
has_room digits i lt few h =
    let bound : hex_value (take i digits) < 16 ^ length (take i digits) = hex_bound (take i digits) (digits_taken digits i h) in
    let len : length (take i digits) ≡ i = length-take-le i digits (omega arith) in
    let below : i ≤ 15 = omega arith in
    let most : 16 ^ i ≤ 16 ^ 15 = pow-le-pow_right (omega arith) below in
    omega (arith, (rw len at bound), most)

-- one digit further
pub hex_step : (digits : List ℕ) (i : ℕ) → i < length digits → hex_value (take (i + 1) digits) ≡ hex_value (take i digits) * 16 + digit_value (get_or digits i 0)
hex_step digits i lt = ap hex_value (take_more digits i 0 lt) ∙ hex_push (take i digits) (get_or digits i 0)

drop_written : (xs : List ℕ) (i y : ℕ) → i < length xs → drop i (set xs i y) ≡ y ∷ drop (suc i) xs
drop_written [] i y lt = absurd (omega arith)
drop_written (x ∷ xs) zero y lt = refl
drop_written (x ∷ xs) (suc i) y lt = drop_written xs i y (omega arith)

pub text_len : (count n : ℕ) → length (hex_text count n) ≡ count
unfolding hex_text
text_len zero n = refl
text_len (suc count) n = length_push (hex_text count (n / 16)) (digit_of (n % 16)) ∙ ap (λ k. k + 1) (text_len count (n / 16)) ∙ (omega arith)

digit_is_digit : (n : ℕ) → n < 16 → is_digit (digit_of n) ≡ true
digit_is_digit n h = grind (arith, nat_tests)

value_of_digit : (n : ℕ) → n < 16 → digit_value (digit_of n) ≡ n
value_of_digit n h = grind (arith, nat_tests)

pub digit_names : (b : ℕ) → is_digit b ≡ true → is_name_byte b ≡ true
digit_names b h = grind (arith, nat_tests, h)

pub text_digits : (count n : ℕ) → list_all is_digit (hex_text count n) ≡ true
unfolding hex_text
text_digits zero n = refl
text_digits (suc count) n =
    let low : n % 16 < 16 = omega arith in
    list_all-append is_digit (hex_text count (n / 16)) (digit_of (n % 16) ∷ []) ∙ rw (text_digits count (n / 16), digit_is_digit (n % 16) low) refl

pub names_of_digits : (bs : List ℕ) → list_all is_digit bs ≡ true → list_all is_name_byte bs ≡ true
names_of_digits [] h = refl
names_of_digits (b ∷ bs) h =
    let parts = both_hold (is_digit b) (list_all is_digit bs) h in rw (digit_names b parts.0, names_of_digits bs parts.1) refl

pub text_value : (count n : ℕ) → n < 16 ^ count → hex_value (hex_text count n) ≡ n
unfolding hex_text
text_value zero n h = omega arith
text_value (suc count) n h =
    let more : 16 ^ suc count ≡ 16 ^ count * 16 = pow-suc 16 count in
    let less : n / 16 < 16 ^ count = omega (arith, h, more) in
    let low : n % 16 < 16 = omega arith in
    hex_push (hex_text count (n / 16)) (digit_of (n % 16)) ∙ rw (text_value count (n / 16) less, value_of_digit (n % 16) low) (omega arith)

-- one digit more is written, from the last one to the first
pub text_step : (whole digits : List ℕ) (at next n : ℕ) → next + 1 ≡ at → at ≤ length digits → whole ≡ hex_text at n ++ drop at digits
    → whole ≡ hex_text next (n / 16) ++ drop next (set digits next (digit_of (n % 16)))
unfolding hex_text
text_step whole digits at next n e le so_far =
    let suc_is : at ≡ suc next = omega arith in
    let lt : next < length digits = omega arith in
    so_far
    ∙ rw suc_is refl
    ∙ append_assoc (hex_text next (n / 16)) (digit_of (n % 16) ∷ []) (drop (suc next) digits)
    ∙ ap (λ tail. hex_text next (n / 16) ++ tail) (sym (drop_written digits next (digit_of (n % 16)) lt))

-- all digits are written
pub text_done : (whole digits : List ℕ) (at n : ℕ) → at ≤ 0 → whole ≡ hex_text at n ++ drop at digits → digits ≡ whole
unfolding hex_text
text_done whole digits zero n le so_far = sym so_far
text_done whole digits (suc at) n le so_far = absurd (omega arith)

-- sixteen digits are read as their number
pub text_number : (n : ℕ) → n < 2 ^ 64 → number_of (hex_text 16 n) ≡ Some n
text_number n h =
    let len : length (hex_text 16 n) ≡ 16 = text_len 16 n in
    let test : is_number (hex_text 16 n) ≡ true = rw (len, text_digits 16 n) refl in
    let value : hex_value (hex_text 16 n) ≡ n = text_value 16 n h in
    rw (test, value) refl
