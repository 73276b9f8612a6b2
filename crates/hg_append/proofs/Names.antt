-- What is no identifier is no number either.
use Rattle.std.proofs.Common.{◌≡◌, ℕ, Bool, true, false, ◌∙◌, sym, ap, cond, List, [], ◌∷◌, length, Option, Some, None, inl, inr, ◌^◌, refl, leb, eqb, arith, true≢false}
use Rattle.std.specs.List.{list_all}
use Rattle.std.proofs.lemmas.Bool.{and_parts, and_from, cases_Bool}
use Rattle.std.proofs.lemmas.Bool.Decides.{nat_tests}
use Rattle.hg_docket.specs.Name.{is_name, is_name_byte}
use Rattle.hg_docket.specs.Number.{hex_text, hex_value, is_digit, is_number, next_name, number_after, number_of}

-- a digit may stand in an identifier
digit_named : (b : ℕ) → is_digit b ≡ true → is_name_byte b ≡ true
digit_named b h = grind (arith, nat_tests, h)

digits_named : (text : List ℕ) → list_all is_digit text ≡ true → list_all is_name_byte text ≡ true
digits_named [] h = refl
digits_named (b ∷ text) h =
    let parts = and_parts (is_digit b) (list_all is_digit text) h in
    and_from (is_name_byte b) (list_all is_name_byte text) (digit_named b parts.0) (digits_named text parts.1)

number_named : (text : List ℕ) → is_number text ≡ true → is_name text ≡ true
number_named text h =
    let outer = and_parts _ (list_all is_digit text) h in
    let inner = and_parts _ (leb (length text) 16) outer.0 in
    let short : leb (length text) 255 ≡ true = grind (arith, nat_tests, inner.1) in
    and_from (leb (length text) 255) (list_all is_name_byte text) short (digits_named text outer.1)

not_name : (b : Bool) (text : List ℕ) → cond b (Some text) None ≡ None → b ≡ false
not_name true text h = absurd (cc)
not_name false text h = refl

no_number : (text : List ℕ) → is_name text ≡ false → number_of text ≡ None
no_number text none = elim (cases_Bool (is_number text)) [
  | inl is ↦ absurd (true≢false (sym (number_named text is) ∙ none))
  | inr not ↦ ap (λ (b : Bool). cond b (Some (hex_value text)) None) not
]

-- so the next one is that behind no identifier
pub next_of_none : (text other : List ℕ) → other ≡ [] → cond (is_name text) (Some text) None ≡ None → next_name other ≡ next_name text
next_of_none text other e h =
    ap next_name e ∙ sym (ap (λ (o : Option ℕ). cond (eqb (number_after o) (2 ^ 64)) None (Some (hex_text 16 (number_after o)))) (no_number text (not_name (is_name text) text h)))
