-- Where a text is cut at its first NUL, and when digits spell an identifier.
use Rattle.std.proofs.Common.{◌≡◌, ◌≢◌, ℕ, ◌+◌, ◌<◌, ◌≤◌, Bool, true, false, cond, not, List, [], length, take, Option, Some, None, Result, Ok, Err, is_some, refl, sym, ap, ◌∙◌, arith, ltb, le-ltb}
use Rattle.std.specs.List.{list_all, position_or_len, before_first, after_first}
use Rattle.std.proofs.lemmas.List.{take_all, drop_all, length-take-le}
use Rattle.std.proofs.lemmas.List.Sums.{prefix_len-le-length, AllPass-from_list_all, list_all-from_AllPass, position_or_len_is}
use Rattle.std.proofs.lemmas.Bool.{false_from_ne_true, lt-ltb, ltb-true, ltb-false}
use Rattle.memchr.specs.Find.{IsFirstByte, is_byte}
use Rattle.std.specs.Result.{IsOk}
use Rattle.hex.specs.Hex.{decode_sized, is_hex_digit}
use Rattle.hex.specs.declared.error.FromHexError.{FromHexError}
use Rattle.hex.proofs.HexLemmas.{IsOk-decode_sized}
use Rattle.hg_manifest.specs.Line.{id_of, some_id, is_nul}
use Rattle.hg_manifest.specs.Front.{nul_place}

at_first : (k n at : ℕ) (t : Bool) → ltb k n ≡ t → cond t (Some k) None ≡ Some at → (at ≡ k) × (k < n)
at_first k n at true less is = (sym (cc is), ltb-true k n less)
at_first k n at false less is = absurd (cc is)

no_first : (k n : ℕ) (t : Bool) → ltb k n ≡ t → cond t (Some k) None ≡ None → n ≤ k
no_first k n true less is = absurd (cc is)
no_first k n false less is = ltb-false k n less

-- what a search for the first NUL answers
pub nul_first : (text : List ℕ) (r : Option ℕ) → IsFirstByte (is_byte 0) text r → r ≡ nul_place text
nul_first text None none =
    let at : position_or_len is_nul text ≡ length text = position_or_len_is is_nul text (length text) 0 (omega arith) (λ k less. false_from_ne_true _ (none k (omega arith) less)) (λ less. absurd (omega (arith, less))) in
    sym (ap (λ (t : Bool). cond t (Some (position_or_len is_nul text)) None) (le-ltb (position_or_len is_nul text) (length text) (omega (arith, at))))
nul_first text (Some k) first =
    let at : position_or_len is_nul text ≡ k = position_or_len_is is_nul text k 0 (omega (arith, first.0.high)) (λ j less. false_from_ne_true _ (first.0.before j (omega arith) less)) (λ less. first.1) in
    sym (
    ap (λ (t : Bool). cond t (Some (position_or_len is_nul text)) None) (lt-ltb (position_or_len is_nul text) (length text) (omega (arith, at, first.0.high)))
    ∙ ap Some at
    )

pub nul_found : (text : List ℕ) (at : ℕ) → nul_place text ≡ Some at → (at ≡ position_or_len is_nul text) × (at < length text)
nul_found text at is =
    let found = at_first (position_or_len is_nul text) (length text) at (ltb (position_or_len is_nul text) (length text)) refl is in
    (found.0, omega (arith, found.0, found.1))

pub nul_missing : (text : List ℕ) → nul_place text ≡ None → (before_first is_nul text ≡ text) × (after_first is_nul text ≡ [])
nul_missing text is =
    let far = no_first (position_or_len is_nul text) (length text) (ltb (position_or_len is_nul text) (length text)) refl is in
    (take_all (position_or_len is_nul text) text far, drop_all (position_or_len is_nul text + 1) text (omega (arith, far)))

-- what stands before the first NUL is what the text begins with
pub front_there : (text : List ℕ) → take (length (before_first is_nul text)) text ≡ before_first is_nul text
front_there text =
    ap (λ (n : ℕ). take n text) (length-take-le (position_or_len is_nul text) text (prefix_len-le-length (λ b. not (is_nul b)) text))

some_of_ok : (r : Result (List ℕ) FromHexError) → IsOk r → is_some (some_id r) ≡ true
some_of_ok (Ok bytes) is = refl
some_of_ok (Err fault) is = absurd (cc is)

ok_of_some : (r : Result (List ℕ) FromHexError) → is_some (some_id r) ≡ true → IsOk r
ok_of_some (Ok bytes) is = refl
ok_of_some (Err fault) is = absurd (cc is)

pub other_length : (digits : List ℕ) → length digits ≢ 40 → is_some (id_of digits) ≡ false
other_length digits other =
    false_from_ne_true (is_some (id_of digits)) (λ some. other (omega (arith, ((IsOk-decode_sized digits 20).0 (ok_of_some (decode_sized digits 20) some)).0)))

both : (a b : Bool) → (a ≡ true → b ≡ true) → (b ≡ true → a ≡ true) → a ≡ b
both true b to from = sym (to refl)
both false true to from = from refl
both false false to from = refl

pub forty : (digits : List ℕ) → length digits ≡ 40 → list_all is_hex_digit digits ≡ is_some (id_of digits)
forty digits len =
    both (list_all is_hex_digit digits) (is_some (id_of digits))
    (λ all. some_of_ok (decode_sized digits 20) ((IsOk-decode_sized digits 20).1 (omega (arith, len), AllPass-from_list_all is_hex_digit digits all)))
    (λ some. list_all-from_AllPass is_hex_digit digits ((IsOk-decode_sized digits 20).0 (ok_of_some (decode_sized digits 20) some)).1)
