-- The name of contents is ASCII, and so it is text.
use Rattle.std.proofs.Common.{◌≡◌, ℕ, ◌+◌, ◌<◌, Bool, true, List, [], ◌∷◌, ◌++◌, refl, sym, ap, ◌∙◌, arith, zero, suc, get_or, codes, length, nat_lt, take}
use Rattle.std.proofs.lemmas.List.{take_all}
use Rattle.std.specs.List.{list_all}
use Rattle.std.specs.Str.{IsUtf8}
use Rattle.std.proofs.lemmas.Bool.Decides.{nat_tests}
use Rattle.std.proofs.lemmas.Str.{IsUtf8-from_ascii}
use Rattle.hex.specs.Hex.{encode_lower, lower_digits}
use Rattle.hex.proofs.HexLemmas.{IsAscii-encode_with}
use Rattle.hg_compare.specs.Alike.{contents_name}

abbrev small : ℕ → Bool
small b = nat_lt b 128

small_at : (bs : List ℕ) → list_all small bs ≡ true → (i : ℕ) → get_or bs i 0 < 128
small_at [] h i = omega arith
small_at (b ∷ bs) h zero = grind (arith, nat_tests, h)
small_at (b ∷ bs) h (suc i) = small_at bs (grind (arith, h)) i

small_front : (xs bs : List ℕ) → list_all small xs ≡ true → ((i : ℕ) → get_or bs i 0 < 128) → (i : ℕ) → get_or (xs ++ bs) i 0 < 128
small_front [] bs front rest i = rest i
small_front (a ∷ xs) bs front rest zero = grind (arith, nat_tests, front)
small_front (a ∷ xs) bs front rest (suc i) = small_front xs bs (grind (arith, front)) rest i

pub text_of_name : (id : List ℕ) → IsUtf8 (contents_name id)
text_of_name id =
    IsUtf8-from_ascii (contents_name id) (small_front (codes "plain/f-") (encode_lower id) refl (IsAscii-encode_with lower_digits id (small_at lower_digits refl)))

-- the front and the digits are all of it
pub name_is : (first second digits id : List ℕ) (at end : ℕ) → at ≡ 8 → take at first ≡ codes "plain/f-" → length digits ≡ 40 → digits ≡ encode_lower id → end ≡ at + length digits → length second ≡ 48
    → take end second ≡ take at first ++ digits → second ≡ contents_name id
name_is first second digits id at end is_eight front forty same is_end long rest =
    sym (take_all end second (omega (arith, is_eight, forty, is_end, long))) ∙ rest ∙ ap (λ (xs : List ℕ). xs ++ digits) front ∙ ap (λ (xs : List ℕ). codes "plain/f-" ++ xs) same
