-- Words of the ends whose first character passes a test, and the table of them.
use Rattle.std.proofs.Common.{◌≡◌, ℕ, zero, suc, ◌+◌, ◌<◌, ◌≤◌, Bool, true, false, not, ◌&&◌, ◌||◌, ◌==◌, nat_le, List, [], ◌∷◌, ◌++◌, take, set, length, get_or, replicate, reverse, chars, encode_utf8, encode_utf8_all, IsUtf8, refl, sym, ap, subst, ◌∙◌, arith, add-one, eqb-true, eq-eqb, le-leb, leb-true, append-nil, get_or-set_same, get_or-set_other}
use Rattle.std.specs.Char.{IsScalar}
use lib.Utf8.{scalars}
use Rattle.std.proofs.lemmas.Bool.{false≢true, ne_eqb}
use Rattle.std.proofs.lemmas.List.{take_more, take_more_set, length-take, length-set}
use Rattle.std.proofs.lemmas.Str.{chars-nil}
use Rattle.std.specs.Int.Bits.{bit_or}
use Rattle.std.proofs.lemmas.Nat.Bits.{bit_at-suc, bit_at-zero}
use Rattle.hg_glob.specs.Column.{bit, marked, passes, IsMask, IsWord, IsTable, IsEnd}
use Rattle.hg_glob.proofs.Bits.{bit_of_none, bit_of_or, or_false}
use Rattle.hg_glob.proofs.Ends.{back_text, back_chars, reverse_more, both_true, none_left}

same_by : (a b c d : ℕ) (v : Bool) → (a == b) ≡ v → (a ≡ b → c ≡ d) → (c ≡ d → a ≡ b) → v ≡ (c == d)
same_by a b c d true h there back = sym (eq-eqb c d (there (eqb-true a b h)))
same_by a b c d false h there back = sym (ne_eqb c d (λ e. false≢true (sym h ∙ eq-eqb a b (back e))))

same_test : (a b c d : ℕ) → (a ≡ b → c ≡ d) → (c ≡ d → a ≡ b) → (a == b) ≡ (c == d)
same_test a b c d there back = same_by a b c d (a == b) refl there back

pub and_true : (v : Bool) → v ≡ (v && true)
and_true true = refl
and_true false = refl

pub and_false : (v : Bool) → (v && false) ≡ false
and_false true = refl
and_false false = refl

passes_more : (test : ℕ → Bool) (xs : List ℕ) (c i : ℕ) → passes test (xs ++ c ∷ []) i ≡ (passes test xs i || (test c && i == length xs))
passes_more test [] c zero = and_true (test c) ∙ ap (λ v. test c && v) (sym (eq-eqb 0 0 refl))
passes_more test [] c (suc i) = sym (and_false (test c)) ∙ ap (λ v. test c && v) (sym (ne_eqb (suc i) 0 (λ e. omega arith)))
passes_more test (x ∷ xs) c zero = sym (or_false (test x)) ∙ ap (λ v. test x || v) (sym (and_false (test c)) ∙ ap (λ v. test c && v) (sym (ne_eqb 0 (suc (length xs)) (λ e. omega arith))))
passes_more test (x ∷ xs) c (suc i) = passes_more test xs c i ∙ ap (λ v. passes test xs i || (test c && v)) (same_test i (length xs) (suc i) (suc (length xs)) (λ e. omega arith) (λ e. omega arith))

marked_more : (test : ℕ → Bool) (xs : List ℕ) (c i : ℕ) → marked test (xs ++ c ∷ []) i ≡ (marked test xs i || (test c && i == length xs + 1))
marked_more test xs c zero = sym (and_false (test c)) ∙ ap (λ v. test c && v) (sym (ne_eqb 0 (length xs + 1) (λ e. omega arith)))
marked_more test xs c (suc i) = passes_more test xs c i ∙ ap (λ v. passes test xs i || (test c && v)) (same_test i (length xs) (suc i) (length xs + 1) (λ e. omega arith) (λ e. omega arith))

pub passes_at : (test : ℕ → Bool) (xs : List ℕ) (i : ℕ) → i < length xs → passes test xs i ≡ test (get_or xs i 0)
passes_at test [] i h = absurd (omega arith)
passes_at test (x ∷ xs) zero h = refl
passes_at test (x ∷ xs) (suc i) h = passes_at test xs i (omega arith)

pub word_of_mask : (xs : List ℕ) (test : ℕ → Bool) (word : ℕ) → IsMask xs test word → IsWord xs test word
word_of_mask xs test word h = record { front = h.at 0; at = λ i below. h.at (suc i) ∙ passes_at test xs i below }

pub word_like : (xs : List ℕ) (test other : ℕ → Bool) (word : ℕ) → ((c : ℕ) → test c ≡ other c) → IsWord xs test word → IsWord xs other word
word_like xs test other word same h = record { front = h.front; at = λ i below. h.at i below ∙ same (get_or xs i 0) }

pub mask_none : (test : ℕ → Bool) → IsMask [] test 0
mask_none test = record { at = none }
  where
    none : (i : ℕ) → bit 0 i ≡ marked test [] i
    none zero = bit_of_none 0
    none (suc i) = bit_of_none (suc i)

over_by : (a b : ℕ) (v : Bool) → b < a → nat_le a b ≡ v → v ≡ false
over_by a b true h e =
    let le : a ≤ b = leb-true a b e in
    absurd (omega arith)
over_by a b false h e = refl

over_le : (a b : ℕ) → b < a → nat_le a b ≡ false
over_le a b h = over_by a b (nat_le a b) h refl

-- one character more
pub mask_more : (xs more : List ℕ) (test : ℕ → Bool) (c word on : ℕ) → IsMask xs test word → more ≡ xs ++ c ∷ [] → ((i : ℕ) → bit on i ≡ (bit word i || (test c && i == length xs + 1))) → IsMask more test on
mask_more xs more test c word on h more_is put =
    record { at = λ i. put i ∙ ap (λ v. v || (test c && i == length xs + 1)) (h.at i) ∙ sym (marked_more test xs c i) ∙ ap (λ ys. marked test ys i) (sym more_is) }

pub spread_more : (items : List ℕ) (j : ℕ) (test : ℕ → Bool) (word on : ℕ) → j < length items → IsMask (take j items) test word → ((i : ℕ) → bit on i ≡ (bit word i || (test (get_or items j 0) && i == j + 1))) → IsMask (take (j + 1) items) test on
spread_more items j test word on below h put =
    let few : length (take j items) ≡ j = omega (arith, length-take j items) in
    mask_more (take j items) (take (j + 1) items) test (get_or items j 0) word on h (take_more items j 0 below) (λ i. put i ∙ ap (λ n. bit word i || (test (get_or items j 0) && i == n + 1)) (sym few))

-- a span of one character
pinned_by : (x c : ℕ) (v : Bool) → (c == x) ≡ v → (nat_le x c && nat_le c x) ≡ v
pinned_by x c true h =
    let e : c ≡ x = eqb-true c x h in
    both_true (nat_le x c) (nat_le c x) (le-leb x c (omega arith)) (le-leb c x (omega arith))
pinned_by x c false h = apart (nat_le x c) (nat_le c x) refl refl
  where
    apart : (a b : Bool) → nat_le x c ≡ a → nat_le c x ≡ b → (a && b) ≡ false
    apart false b p q = refl
    apart true false p q = refl
    apart true true p q =
        let low = leb-true x c p in
        let high = leb-true c x q in
        absurd (false≢true (sym h ∙ eq-eqb c x (omega arith)))

pub pinned : (x c : ℕ) → (nat_le x c && nat_le c x) ≡ (c == x)
pinned x c = pinned_by x c (c == x) refl

zeros : (n x : ℕ) → get_or {A = ℕ} (replicate n 0) x 0 ≡ 0
zeros zero x = refl
zeros (suc n) zero = refl
zeros (suc n) (suc x) = zeros n x

pub table_first : (items table below : List ℕ) → length items ≡ 64 → table ≡ replicate 128 0 → length table ≡ 128 → IsTable items 0 table 0 below false
table_first items table below room table_is words = record {
  few = omega arith;
  room = room;
  words = words;
  at = λ x _. subst (IsMask [] (λ c. c == x)) (sym (ap (λ t. get_or t x 0) table_is ∙ zeros 128 x)) (mask_none (λ c. c == x));
  beyond = mask_none (λ c. nat_le 128 c);
  sums = λ e. absurd (false≢true e);
}

pub table_more : (items : List ℕ) (count c : ℕ) (table on : List ℕ) (wide on_wide : ℕ) (below : List ℕ) (is_ready : Bool) → IsTable items count table wide below is_ready → count < 63 → length on ≡ 128
    → ((i : ℕ) → bit on_wide i ≡ (bit wide i || (nat_le 128 c && i == count + 1))) → ((x : ℕ) → x < 128 → (i : ℕ) → bit (get_or on x 0) i ≡ (bit (get_or table x 0) i || ((c == x) && i == count + 1))) → IsTable (set items count c) (count + 1) on on_wide below false
table_more items count c table on wide on_wide below is_ready h some words far put =
    let inside : count < length items = omega (arith, h.room) in
    let few : length (take count items) ≡ count = omega (arith, length-take count items) in
    record {
      few = omega arith;
      room = length-set items count c ∙ h.room;
      words = words;
      at = λ x below.
          mask_more (take count items) (take (count + 1) (set items count c)) (λ d. d == x) c (get_or table x 0) (get_or on x 0) (h.at x below) (take_more_set items count c inside)
          (λ i. put x below i ∙ ap (λ n. bit (get_or table x 0) i || ((c == x) && i == n + 1)) (sym few));
      beyond = mask_more (take count items) (take (count + 1) (set items count c)) (λ d. nat_le 128 d) c wide on_wide h.beyond (take_more_set items count c inside)
          (λ i. far i ∙ ap (λ n. bit wide i || (nat_le 128 c && i == n + 1)) (sym few));
      sums = λ e. absurd (false≢true e);
    }

-- the word of the others, at an ASCII character and at another
pub wide_same : (c wide count : ℕ) → c < 128 → (i : ℕ) → bit wide i ≡ (bit wide i || (nat_le 128 c && i == count + 1))
wide_same c wide count near i = sym (or_false (bit wide i)) ∙ ap (λ v. bit wide i || (v && i == count + 1)) (sym (over_le 128 c near))

pub wide_more : (c wide on count : ℕ) → 128 ≤ c → ((i : ℕ) → bit on i ≡ (bit wide i || (true && i == count + 1))) → (i : ℕ) → bit on i ≡ (bit wide i || (nat_le 128 c && i == count + 1))
wide_more c wide on count far put i = put i ∙ ap (λ v. bit wide i || (v && i == count + 1)) (sym (le-leb 128 c far))

-- no character beyond ASCII is there
pub none_beyond : (xs : List ℕ) (x wide : ℕ) → 128 ≤ x → IsMask xs (λ c. nat_le 128 c) wide → wide ≡ 0 → IsWord xs (λ c. c == x) 0
none_beyond xs x wide far h none = record {
  front = bit_of_none 0;
  at = λ i below.
      let near : nat_le 128 (get_or xs i 0) ≡ false = sym (passes_at (λ c. nat_le 128 c) xs i below) ∙ sym (h.at (suc i)) ∙ ap (λ w. bit w (suc i)) none ∙ bit_of_none (suc i) in
      bit_of_none (suc i) ∙ sym (ne_eqb (get_or xs i 0) x (λ e. absurd (false≢true (sym near ∙ le-leb 128 (get_or xs i 0) (omega arith)))));
}

put_by : (table : List ℕ) (c word count x i : ℕ) (v : Bool) → (c == x) ≡ v → c < length table → bit word i ≡ (bit (get_or table c 0) i || (true && i == count + 1)) → bit (get_or (set table c word) x 0) i ≡ (bit (get_or table x 0) i || (v && i == count + 1))
put_by table c word count x i true h below put =
    let e : c ≡ x = eqb-true c x h in
    ap (λ y. bit (get_or (set table c word) y 0) i) (sym e) ∙ ap (λ w. bit w i) (get_or-set_same table c word 0 below) ∙ put ∙ ap (λ y. bit (get_or table y 0) i || i == count + 1) e
put_by table c word count x i false h below put =
    ap (λ w. bit w i) (get_or-set_other table c x word 0 (λ e. absurd (false≢true (sym h ∙ eq-eqb c x (sym e))))) ∙ sym (or_false (bit (get_or table x 0) i))

pub put_there : (table : List ℕ) (c word count : ℕ) → c < length table → ((i : ℕ) → bit word i ≡ (bit (get_or table c 0) i || (true && i == count + 1)))
    → (x : ℕ) → x < 128 → (i : ℕ) → bit (get_or (set table c word) x 0) i ≡ (bit (get_or table x 0) i || ((c == x) && i == count + 1))
put_there table c word count below put x _ i = put_by table c word count x i (c == x) refl below (put i)

pub put_nowhere : (table : List ℕ) (c count : ℕ) → 128 ≤ c → (x : ℕ) → x < 128 → (i : ℕ) → bit (get_or table x 0) i ≡ (bit (get_or table x 0) i || ((c == x) && i == count + 1))
put_nowhere table c count far x below i = sym (or_false (bit (get_or table x 0) i)) ∙ ap (λ v. bit (get_or table x 0) i || (v && i == count + 1)) (sym (ne_eqb c x (λ e. omega arith)))

-- the characters of a text, read from its end
pub record CharsBack (text rest read : List ℕ) : Type 0 where
  pub text_is : rest ++ encode_utf8_all (reverse read) ≡ text
  pub scalars_are : scalars (reverse read) ≡ true

pub chars_first : (text rest : List ℕ) → rest ≡ text → CharsBack text rest []
chars_first text rest whole = record { text_is = append-nil rest ∙ whole; scalars_are = refl }

pub chars_more : (text before rest read : List ℕ) (c : ℕ) → CharsBack text before read → before ≡ rest ++ encode_utf8 c → IsScalar c → CharsBack text rest (read ++ c ∷ [])
chars_more text before rest read c h split scalar = record {
  text_is = ap (λ t. rest ++ encode_utf8_all t) (reverse_more read c) ∙ back_text text before rest (reverse read) c h.text_is split;
  scalars_are = ap scalars (reverse_more read c) ∙ both_true _ (scalars (reverse read)) scalar h.scalars_are;
}

pub chars_all : (text rest read : List ℕ) → CharsBack text rest read → IsUtf8 text → length rest ≡ 0 → chars text ≡ reverse read
chars_all text rest read h utf8 none =
    back_chars text rest (reverse read) utf8 h.text_is h.scalars_are ∙ ap (λ v. chars v ++ reverse read) (none_left rest none) ∙ ap (λ v. v ++ reverse read) chars-nil

pub chars_last : (text rest read : List ℕ) → CharsBack text rest read → IsUtf8 text → (front : List ℕ) × (chars text ≡ front ++ reverse read)
chars_last text rest read h utf8 = (chars rest, back_chars text rest (reverse read) utf8 h.text_is h.scalars_are)

-- the other ends
pub word_not : (xs : List ℕ) (test : ℕ → Bool) (word on : ℕ) → length xs ≤ 63 → IsWord xs test word → bit on 0 ≡ false → ((i : ℕ) → i + 1 < 64 → bit on (i + 1) ≡ not (bit word (i + 1))) → IsWord xs (λ c. not (test c)) on
word_not xs test word on few h front more = record {
  front = front;
  at = λ i below. subst (λ n. bit on n ≡ not (bit word n)) (add-one i) (more i (omega arith)) ∙ ap not (h.at i below);
}

-- the ends at which a match may end
one_more : (i : ℕ) → bit 1 (suc i) ≡ false
unfolding bit
one_more i = ap (λ v. v == 1) (bit_at-suc 1 i ∙ bit_at-zero i)

one_front : bit 1 0 ≡ true
unfolding bit
one_front = refl

or_true : (v : Bool) → (v || true) ≡ true
or_true true = refl
or_true false = refl

pub end_inside : (xs : List ℕ) (slash : ℕ) → IsWord xs (λ c. c == 47) slash → IsEnd true xs (bit_or slash 1)
end_inside xs slash t = record {
  front = bit_of_or slash 1 0 ∙ ap (λ v. bit slash 0 || v) one_front ∙ or_true (bit slash 0);
  at = λ i below. bit_of_or slash 1 (suc i) ∙ ap (λ v. bit slash (suc i) || v) (one_more i) ∙ or_false (bit slash (suc i)) ∙ t.at i below;
}

pub end_alone : (xs : List ℕ) → IsEnd false xs 1
end_alone xs = record { front = one_front; at = λ i below. one_more i }
