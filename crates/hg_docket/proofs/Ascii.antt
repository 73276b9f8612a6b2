-- Identifiers and names of data files are ASCII, and so they are text.
use Rattle.std.proofs.Common.{◌≡◌, ℕ, ◌<◌, ◌≤◌, Bool, true, List, [], ◌∷◌, ◌++◌, length, refl, arith, zero, suc, get_or, codes}
use Rattle.std.specs.List.{list_all}
use Rattle.std.specs.Str.{IsUtf8}
use Rattle.std.proofs.lemmas.Bool.Decides.{nat_tests}
use Rattle.std.proofs.lemmas.Str.{IsUtf8-from_ascii}
use Rattle.hg_docket.specs.Name.{is_name_byte, is_ascii, is_name}

pub ascii_byte : (b : ℕ) → is_name_byte b ≡ true → is_ascii b ≡ true
ascii_byte b h = grind (arith, nat_tests, h)

all_head : (p : ℕ → Bool) (b : ℕ) (bs : List ℕ) → list_all p (b ∷ bs) ≡ true → (p b ≡ true) × (list_all p bs ≡ true)
all_head p b bs h = grind (arith, h)

all_both : (p : ℕ → Bool) (b : ℕ) (bs : List ℕ) → p b ≡ true → list_all p bs ≡ true → list_all p (b ∷ bs) ≡ true
all_both p b bs here rest = grind (arith, here, rest)

pub ascii_name : (bs : List ℕ) → list_all is_name_byte bs ≡ true → list_all is_ascii bs ≡ true
ascii_name [] h = refl
ascii_name (b ∷ bs) h =
    let parts = all_head is_name_byte b bs h in
    all_both is_ascii b bs (ascii_byte b parts.0) (ascii_name bs parts.1)

ascii_at : (bs : List ℕ) → list_all is_ascii bs ≡ true → (i : ℕ) → get_or bs i 0 < 128
ascii_at [] h i = omega arith
ascii_at (b ∷ bs) h zero = let parts = all_head is_ascii b bs h in grind (arith, nat_tests, parts.0)
ascii_at (b ∷ bs) h (suc i) = let parts = all_head is_ascii b bs h in ascii_at bs parts.1 i

-- ASCII is text
pub text_of_ascii : (bs : List ℕ) → list_all is_ascii bs ≡ true → IsUtf8 bs
text_of_ascii bs h = IsUtf8-from_ascii bs (ascii_at bs h)

-- the name of a data file is ASCII where its identifier is
pub ascii_file_name : (id : List ℕ) → list_all is_name_byte id ≡ true → list_all is_ascii (codes "dirstate." ++ id) ≡ true
ascii_file_name id h = ascii_name id h

-- what an identifier is
pub name_parts : (id : List ℕ) → is_name id ≡ true → (length id ≤ 255) × (list_all is_name_byte id ≡ true)
name_parts id h = (grind (arith, nat_tests, h), grind (arith, h))
