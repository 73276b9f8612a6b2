-- The name of a plain file is ASCII, and so it is text; it isn't that of the new file.
use Rattle.std.proofs.Common.{◌≡◌, ℕ, ◌+◌, ◌<◌, Bool, true, List, [], ◌∷◌, ◌++◌, refl, sym, ap, ◌∙◌, arith, zero, suc, get_or, length, nat_lt, take}
use Rattle.std.proofs.lemmas.List.{take_all}
use Rattle.std.specs.List.{list_all}
use Rattle.std.specs.Str.{IsUtf8}
use Rattle.std.proofs.lemmas.Bool.Decides.{nat_tests}
use Rattle.std.proofs.lemmas.Str.{IsUtf8-from_ascii}
use Rattle.hex.specs.Hex.{encode_lower, lower_digits}
use Rattle.hex.proofs.HexLemmas.{IsAscii-encode_with}
use Rattle.hg_store.specs.Names.{front_of, plain_file}
use Rattle.hg_store.specs.Storing.{new_name}
use Rattle.hg_store.specs.declared.names.Plain.{Plain}
use Rattle.hg_store.specs.declared.names.Plain.TheVariants as a_plain

abbrev small : ℕ → Bool
small b = nat_lt b 128

small_at : (bs : List ℕ) → list_all small bs ≡ true → (i : ℕ) → get_or bs i 0 < 128
small_at [] h i = omega arith
small_at (b ∷ bs) h zero = grind (arith, nat_tests, h)
small_at (b ∷ bs) h (suc i) = small_at bs (grind (arith, h)) i

small_front : (xs bs : List ℕ) → list_all small xs ≡ true → ((i : ℕ) → get_or bs i 0 < 128) → (i : ℕ) → get_or (xs ++ bs) i 0 < 128
small_front [] bs front rest i = rest i
small_front (a ∷ xs) bs front rest zero = grind (arith, nat_tests, front)
small_front (a ∷ xs) bs front rest (suc i) = small_front xs bs (grind (arith, front)) rest i

front_small : (plain : Plain) → list_all small (front_of plain) ≡ true
front_small a_plain.Contents = refl
front_small a_plain.Manifest = refl

front_long : (plain : Plain) → length (front_of plain) ≡ 8
front_long a_plain.Contents = refl
front_long a_plain.Manifest = refl

pub text_of_name : (plain : Plain) (id : List ℕ) → IsUtf8 (plain_file plain id)
text_of_name plain id =
    IsUtf8-from_ascii (plain_file plain id) (small_front (front_of plain) (encode_lower id) (front_small plain) (IsAscii-encode_with lower_digits id (small_at lower_digits refl)))

-- the front and the digits are all of it
pub name_is : (plain : Plain) (first second front digits id : List ℕ) (at end : ℕ) → at ≡ 0 + length front → take at first ≡ front → front ≡ front_of plain → length digits ≡ 40 → digits ≡ encode_lower id → end ≡ at + length digits → length second ≡ 48
    → take end second ≡ take at first ++ digits → second ≡ plain_file plain id
name_is plain first second front digits id at end is_at taken is_front forty same is_end long rest =
    let eight : length front ≡ 8 = ap length is_front ∙ front_long plain in
    sym (take_all end second (omega (arith, is_at, eight, forty, is_end, long))) ∙ rest ∙ ap (λ (xs : List ℕ). xs ++ digits) (taken ∙ is_front) ∙ ap (λ (xs : List ℕ). front_of plain ++ xs) same

-- it isn't the name of the new file: their seventh bytes differ
pub name_apart : (plain : Plain) (id : List ℕ) → plain_file plain id ≡ new_name → ⊥
name_apart a_plain.Contents id same = let byte : 102 ≡ 110 = ap (λ (xs : List ℕ). get_or xs 6 0) same in absurd (omega (arith, byte))
name_apart a_plain.Manifest id same = let byte : 109 ≡ 110 = ap (λ (xs : List ℕ). get_or xs 6 0) same in absurd (omega (arith, byte))
