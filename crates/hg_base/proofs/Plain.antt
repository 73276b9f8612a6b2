-- A name of ASCII characters alone is a text and a component.
use Rattle.std.proofs.Common.{◌≡◌, ℕ, ◌<◌, Bool, true, false, List, [], ◌∷◌, length, get_or, refl, arith, zero, suc}
use Rattle.std.specs.List.{list_all}
use Rattle.std.specs.Str.{IsUtf8, is_utf8}
use Rattle.std.proofs.lemmas.Bool.Decides.{nat_tests}
use Rattle.std.proofs.lemmas.Str.{IsUtf8-from_ascii, IsUtf8-from_is_utf8, is_utf8-from_IsUtf8}
use Rattle.std.proofs.lemmas.Bool.{false_from_ne_true}
use Rattle.hg_base.specs.PathText.{is_component, has_nul, has_slash}
use Rattle.hg_base.specs.Plain.{is_plain, is_plain_byte}

all_head : (p : ℕ → Bool) (b : ℕ) (bs : List ℕ) → list_all p (b ∷ bs) ≡ true → (p b ≡ true) × (list_all p bs ≡ true)
all_head p b bs h = grind (arith, h)

plain_parts : (name : List ℕ) → is_plain name ≡ true → ((length name ≡ 0 → ⊥) × (get_or name 0 0 ≡ 46 → ⊥)) × (list_all is_plain_byte name ≡ true)
plain_parts name h = grind (arith, nat_tests, h)

ascii_at : (bs : List ℕ) → list_all is_plain_byte bs ≡ true → (i : ℕ) → get_or bs i 0 < 128
ascii_at [] h i = omega arith
ascii_at (b ∷ bs) h zero = let parts = all_head is_plain_byte b bs h in grind (arith, nat_tests, parts.0)
ascii_at (b ∷ bs) h (suc i) = let parts = all_head is_plain_byte b bs h in ascii_at bs parts.1 i

pub plain_text : (name : List ℕ) → is_plain name ≡ true → IsUtf8 name
plain_text name h = IsUtf8-from_ascii name (ascii_at name (plain_parts name h).1)

pub plain_utf8 : (name : List ℕ) → is_plain name ≡ true → is_utf8 name ≡ true
plain_utf8 name h = is_utf8-from_IsUtf8 name (plain_text name h)

no_nul : (bs : List ℕ) → list_all is_plain_byte bs ≡ true → has_nul bs ≡ false
no_nul [] h = refl
no_nul (b ∷ bs) h =
    let parts = all_head is_plain_byte b bs h in
    let rest = no_nul bs parts.1 in
    grind (arith, nat_tests, parts.0, rest)

no_slash : (bs : List ℕ) → list_all is_plain_byte bs ≡ true → has_slash bs ≡ false
no_slash [] h = refl
no_slash (b ∷ bs) h =
    let parts = all_head is_plain_byte b bs h in
    let rest = no_slash bs parts.1 in
    grind (arith, nat_tests, parts.0, rest)

pub plain_component : (name : List ℕ) → is_plain name ≡ true → is_component name ≡ true
plain_component [] h = absurd ((plain_parts [] h).0.0 refl)
plain_component (b ∷ bs) h =
    let parts = plain_parts (b ∷ bs) h in
    let first : b ≡ 46 → ⊥ = parts.0.1 in
    let nul = no_nul (b ∷ bs) parts.1 in
    let slash = no_slash (b ∷ bs) parts.1 in
    grind (arith, nat_tests, first, nul, slash)

pub text_utf8 : (bytes : List ℕ) → IsUtf8 bytes → is_utf8 bytes ≡ true
text_utf8 bytes h = is_utf8-from_IsUtf8 bytes h

pub no_text : (bytes : List ℕ) → (IsUtf8 bytes → ⊥) → is_utf8 bytes ≡ false
no_text bytes h = false_from_ne_true (is_utf8 bytes) (λ t. h (IsUtf8-from_is_utf8 bytes t))
