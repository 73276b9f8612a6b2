-- Forty bytes that are looked at sixteen at a time, the last sixteen from the twenty-fourth on.
use Rattle.std.proofs.Common.{◌≡◌, ℕ, ◌+◌, ◌-◌, ◌<◌, inl, inr, Bool, true, false, ◌&&◌, List, length, get_or, refl, sym, ◌∙◌, subst, arith}
use Rattle.std.specs.List.{list_all}
use Rattle.std.proofs.lemmas.Bool.{and_parts, cases_lt}
use Rattle.std.proofs.lemmas.List.Elements.{All-from_get_or}
use Rattle.std.proofs.lemmas.List.Folds.{list_all_at}
use Rattle.std.proofs.lemmas.List.Sums.{list_all-from_AllPass}
use Rattle.hex.specs.Hex.{is_hex_digit}

-- whether the three bytes at a place are digits
abbrev pub three : List ℕ → ℕ → Bool
three bytes i = (is_hex_digit (get_or bytes i 0) && is_hex_digit (get_or bytes (i + 16) 0)) && is_hex_digit (get_or bytes (i + 24) 0)

-- what is known once the places before `i` were looked at
pub record Looked (bytes : List ℕ) (i : ℕ) (all : Bool) : Type 0 where
  pub good : all ≡ true → (k : ℕ) → k < i → three bytes k ≡ true
  pub bad : all ≡ false → list_all is_hex_digit bytes ≡ false

pub none_looked : (bytes : List ℕ) → Looked bytes 0 true
none_looked bytes = record { good = λ all k less. absurd (omega (arith, less)); bad = λ none. absurd (cc none) }

-- one of three that is no digit
one_bad : (bytes : List ℕ) (i : ℕ) (a b c : Bool) → length bytes ≡ 40 → i < 16 → is_hex_digit (get_or bytes i 0) ≡ a → is_hex_digit (get_or bytes (i + 16) 0) ≡ b → is_hex_digit (get_or bytes (i + 24) 0) ≡ c
    → ((a && b) && c) ≡ false → list_all is_hex_digit bytes ≡ false
one_bad bytes i false b c len less first second third bad = list_all_at is_hex_digit bytes i 0 (omega (arith, len, less)) first
one_bad bytes i true false c len less first second third bad = list_all_at is_hex_digit bytes (i + 16) 0 (omega (arith, len, less)) second
one_bad bytes i true true false len less first second third bad = list_all_at is_hex_digit bytes (i + 24) 0 (omega (arith, len, less)) third
one_bad bytes i true true true len less first second third bad = absurd (cc bad)

pub one_more : (bytes : List ℕ) (i : ℕ) (all now : Bool) → length bytes ≡ 40 → i < 16 → Looked bytes i all → now ≡ three bytes i → Looked bytes (i + 1) (all && now)
one_more bytes i false now len less s is = record { good = λ all. absurd (cc all); bad = λ none. s.bad refl }
one_more bytes i true now len less s is = record { good = good; bad = λ none. one_bad bytes i _ _ _ len less refl refl refl (sym is ∙ none) }
  where
    good : now ≡ true → (k : ℕ) → k < i + 1 → three bytes k ≡ true
    good yet k below = elim (cases_lt k i) [
      | inl before ↦ s.good refl k before
      | inr behind ↦ subst (λ (n : ℕ). three bytes n ≡ true) (omega (arith, below, behind)) (sym is ∙ yet)
    ]

-- each byte is one of three
each : (bytes : List ℕ) (k : ℕ) → ((i : ℕ) → i < 16 → three bytes i ≡ true) → k < 40 → is_hex_digit (get_or bytes k 0) ≡ true
each bytes k good less = elim (cases_lt k 16) [
  | inl low ↦ (and_parts _ _ (and_parts _ _ (good k low)).0).0
  | inr past ↦ elim (cases_lt k 32) [
    | inl middle ↦ let at : (k - 16) + 16 ≡ k = omega (arith, past) in subst (λ (n : ℕ). is_hex_digit (get_or bytes n 0) ≡ true) at (and_parts _ _ (and_parts _ _ (good (k - 16) (omega (arith, middle)))).0).1
    | inr high ↦ let at : (k - 24) + 24 ≡ k = omega (arith, high) in subst (λ (n : ℕ). is_hex_digit (get_or bytes n 0) ≡ true) at (and_parts _ _ (good (k - 24) (omega (arith, less, high)))).1
  ]
]

pub all_looked : (bytes : List ℕ) (all : Bool) → length bytes ≡ 40 → Looked bytes 16 all → all ≡ list_all is_hex_digit bytes
all_looked bytes true len s = sym (list_all-from_AllPass is_hex_digit bytes (All-from_get_or (λ b. is_hex_digit b ≡ true) bytes 0 (λ k less. each bytes k (s.good refl) (omega (arith, less, len)))))
all_looked bytes false len s = sym (s.bad refl)
