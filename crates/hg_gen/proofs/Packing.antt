-- Forty digits are the text of twenty bytes.
use Rattle.std.proofs.Common.{ℕ, zero, suc, ◌≡◌, ◌+◌, ◌-◌, ◌*◌, ◌/◌, ◌%◌, ◌<◌, ◌≤◌, List, [], ◌∷◌, ◌++◌, length, slice_index, Some, refl, sym, ap, ◌∙◌, arith}
use Rattle.std.specs.Prelude.{replicate}
use Rattle.std.specs.Fmt.{decimal}
use Rattle.std.specs.Str.Parse.{AllDigits}
use Rattle.std.proofs.lemmas.Fmt.{decimal_is_IsNumeral, length-decimal-le}
use Rattle.std.proofs.lemmas.List.{length-append, length-replicate}
use Rattle.std.proofs.lemmas.Str.Parse.{digit_from_value}
use Rattle.hex.proofs.HexLemmas.{decode_sized-encode_lower}
use Rattle.hex.specs.Hex.{IsBytes, decode_sized, encode_lower, encode_with, lower_digits}
use Rattle.hg_gen.specs.Copy.{contents_of}
use Rattle.hg_manifest.specs.Line.{id_of, some_id}

-- each is a digit from 0 to 9
abbrev AreTen : List ℕ → Type 0
AreTen [] = Unit {0}
AreTen (d ∷ ds) = (48 ≤ d) × (d < 58) × AreTen ds

are_ten : (ds : List ℕ) → AllDigits 10 ds → AreTen ds
are_ten [] h = tt
are_ten (d ∷ ds) h = let r = digit_from_value d h.0 in (omega (arith, r), omega (arith, r), are_ten ds h.1)

zeros_ten : (n : ℕ) (ds : List ℕ) → AreTen ds → AreTen (replicate n 48 ++ ds)
zeros_ten zero ds h = h
zeros_ten (suc n) ds h = (omega arith, omega arith, zeros_ten n ds h)

pub forty_ten : (file : ℕ) → file < 32000 → AreTen (contents_of file)
forty_ten file small = zeros_ten (40 - length (decimal (file + 1))) (decimal (file + 1)) (are_ten (decimal (file + 1)) (decimal_is_IsNumeral (file + 1) (omega (arith, small))).0.1)

pub forty_long : (file : ℕ) → file < 32000 → length (contents_of file) ≡ 40
forty_long file small =
    let few : length (decimal (file + 1)) ≤ 5 = length-decimal-le 5 (file + 1) (omega arith) (omega (arith, small)) (omega (arith, small)) in
    let all : length (contents_of file) ≡ length {A = ℕ} (replicate (40 - length (decimal (file + 1))) 48) + length (decimal (file + 1)) = length-append (replicate (40 - length (decimal (file + 1))) 48) (decimal (file + 1)) in
    let zeros : length {A = ℕ} (replicate (40 - length (decimal (file + 1))) 48) ≡ 40 - length (decimal (file + 1)) = length-replicate {A = ℕ} (40 - length (decimal (file + 1))) 48 in
    omega (arith, few, all, zeros)

-- the bytes of digits, two a byte
abbrev pub pack : List ℕ → List ℕ
pack [] = []
pack (high ∷ []) = []
pack (high ∷ low ∷ ds) = ((high - 48) * 16 + (low - 48)) ∷ pack ds

digit : (k : ℕ) → k < 10 → slice_index lower_digits k ≡ 48 + k
digit zero less = refl
digit (suc zero) less = refl
digit (suc (suc zero)) less = refl
digit (suc (suc (suc zero))) less = refl
digit (suc (suc (suc (suc zero)))) less = refl
digit (suc (suc (suc (suc (suc zero))))) less = refl
digit (suc (suc (suc (suc (suc (suc zero)))))) less = refl
digit (suc (suc (suc (suc (suc (suc (suc zero))))))) less = refl
digit (suc (suc (suc (suc (suc (suc (suc (suc zero)))))))) less = refl
digit (suc (suc (suc (suc (suc (suc (suc (suc (suc zero))))))))) less = refl
digit (suc (suc (suc (suc (suc (suc (suc (suc (suc (suc k)))))))))) less = absurd (omega (arith, less))

high_of : (h l : ℕ) → 48 ≤ h → h < 58 → 48 ≤ l → l < 58 → slice_index lower_digits (((h - 48) * 16 + (l - 48)) / 16) ≡ h
high_of h l h_least h_most l_least l_most =
    let e : ((h - 48) * 16 + (l - 48)) / 16 ≡ h - 48 = omega (arith, h_least, h_most, l_least, l_most) in
    let sum : 48 + (h - 48) ≡ h = omega (arith, h_least) in
    ap (slice_index lower_digits) e ∙ digit (h - 48) (omega (arith, h_least, h_most)) ∙ sum

low_of : (h l : ℕ) → 48 ≤ h → h < 58 → 48 ≤ l → l < 58 → slice_index lower_digits (((h - 48) * 16 + (l - 48)) % 16) ≡ l
low_of h l h_least h_most l_least l_most =
    let e : ((h - 48) * 16 + (l - 48)) % 16 ≡ l - 48 = omega (arith, h_least, h_most, l_least, l_most) in
    let sum : 48 + (l - 48) ≡ l = omega (arith, l_least) in
    ap (slice_index lower_digits) e ∙ digit (l - 48) (omega (arith, l_least, l_most)) ∙ sum

unpacked : (n : ℕ) (ds : List ℕ) → length ds ≡ 2 * n → AreTen ds → encode_lower (pack ds) ≡ ds
unfolding encode_with
unpacked n [] even h = refl
unpacked n (high ∷ []) even h = absurd (omega (arith, even))
unpacked zero (high ∷ low ∷ ds) even h = absurd (omega (arith, even))
unpacked (suc n) (high ∷ low ∷ ds) even h =
    let rest = unpacked n ds (omega (arith, even)) h.2.2 in
    let first = high_of high low h.0 h.1 h.2.0 h.2.1 in
    let second = low_of high low h.0 h.1 h.2.0 h.2.1 in
    λ i. first i ∷ second i ∷ rest i

packed_long : (n : ℕ) (ds : List ℕ) → length ds ≡ 2 * n → length (pack ds) ≡ n
packed_long n [] even = omega (arith, even)
packed_long n (high ∷ []) even = absurd (omega (arith, even))
packed_long zero (high ∷ low ∷ ds) even = absurd (omega (arith, even))
packed_long (suc n) (high ∷ low ∷ ds) even = let rest = packed_long n ds (omega (arith, even)) in omega (arith, rest)

packed_bytes : (ds : List ℕ) → AreTen ds → IsBytes (pack ds)
packed_bytes [] h i = omega arith
packed_bytes (high ∷ []) h i = omega arith
packed_bytes (high ∷ low ∷ ds) h zero = omega (arith, h.0, h.1, h.2.0, h.2.1)
packed_bytes (high ∷ low ∷ ds) h (suc i) = packed_bytes ds h.2.2 i

pub name_of_id : (file : ℕ) → file < 32000 → encode_lower (pack (contents_of file)) ≡ contents_of file
name_of_id file small = unpacked 20 (contents_of file) (omega (arith, forty_long file small)) (forty_ten file small)

-- the name of a file's contents spells an identifier
pub id_spelled : (file : ℕ) → file < 32000 → id_of (contents_of file) ≡ Some (record { 0 = pack (contents_of file) })
id_spelled file small =
    ap (λ (text : List ℕ). some_id (decode_sized text 20)) (sym (name_of_id file small))
    ∙ ap some_id (decode_sized-encode_lower (pack (contents_of file)) 20 (packed_long 20 (contents_of file) (omega (arith, forty_long file small))) (packed_bytes (contents_of file) (forty_ten file small)))
