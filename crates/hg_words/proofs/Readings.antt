-- What is read of the answer of `clap`, and of single words.
use Rattle.std.proofs.Common.{ℕ, ◌≡◌, ◌+◌, ◌<◌, ◌≤◌, ⊎_elim, Bool, true, false, cond, ◌&&◌, List, [], ◌∷◌, ◌++◌, map, drop, length, zero, suc, get_or, Option, Some, None, Ok, Err, refl, sym, ap, ◌∙◌, arith, IsUtf8, subst, append-nil, append_assoc}
use Rattle.std.specs.Prelude.{nat_le, nat_lt, slice_get}
use Rattle.std.specs.List.{list_all}
use Rattle.std.specs.Option.{option_map}
use Rattle.std.specs.Char.{digit_value}
use Rattle.std.specs.Str.Parse.{AllDigits, IsNumeral, without_leading_plus}
use Rattle.std.proofs.lemmas.Bool.{and_parts, cases_lt, leb-true, le-leb, lt-ltb, ltb-true}
use Rattle.std.proofs.lemmas.List.{at_drop_more, drop_all}
use Rattle.std.proofs.lemmas.Option.{get_or_from_slice_get}
use Rattle.hg_words.specs.Clapped.{AreTexts, given, values_of_row, word_id}
use Rattle.hg_words.specs.Command.{is_number, load_of, number_of}
use Rattle.hg_words.specs.declared.fault.WordsFault.TheVariants as a_fault
use Rattle.hg_words.specs.declared.given.Command.TheVariants as a_command
use Rattle.clap.specs.Words.{Row, Text, matched_of, raw_values, rows_of}
use Rattle.clap.specs.declared.parser.matches.Found.{Found}
use Rattle.clap.proofs.WalkLemmas.{raw_values-rows}

-- ---- the words of the answer

some_values : (o : Option Row) (values : List Text) → Some values ≡ option_map (λ (r : Row). r.values) o → values ≡ values_of_row o
some_values None values e = absurd (cc)
some_values (Some r) values e = some_same values r.values e
  where
    some_same : (a b : List Text) → Some a ≡ Some b → a ≡ b
    some_same a b e = cc

no_values : (o : Option Row) → None ≡ option_map (λ (r : Row). r.values) o → [] ≡ values_of_row o
no_values None e = refl
no_values (Some r) e = absurd (cc)

pub given_some : (f : Found) (values : List Text) → Some values ≡ option_map raw_values (matched_of f word_id) → values ≡ given (rows_of f)
given_some f values is = some_values _ values (is ∙ raw_values-rows f word_id)

pub given_none : (f : Found) → None ≡ option_map raw_values (matched_of f word_id) → [] ≡ given (rows_of f)
given_none f is = no_values _ (is ∙ raw_values-rows f word_id)

-- nothing is left
pub all_put : {X : Type 0} (f : X → Text) (xs : List X) (i : ℕ) (all whole : List Text) → all ++ map f (drop i xs) ≡ whole → length xs ≤ i → all ≡ whole
all_put {X = X} f xs i all whole so past = sym (ap (λ (l : List X). all ++ map f l) (drop_all i xs past) ∙ append-nil all) ∙ so

-- ---- texts

pub all_texts : (words : List Text) → ((k : ℕ) → k < length words → IsUtf8 (get_or words k [])) → AreTexts words
all_texts [] each = tt
all_texts (word ∷ words) each = (each zero (omega arith), all_texts words (λ k below. each (suc k) (omega (arith, below))))

pub one_text : (words : List Text) (i : ℕ) (word : Text) → slice_get words i ≡ Some word → IsUtf8 word → ((k : ℕ) → k < i → IsUtf8 (get_or words k []))
    → (k : ℕ) → k < i + 1 → IsUtf8 (get_or words k [])
one_text words i word is text each k below = ⊎_elim (each k) (λ past. here k below past) (cases_lt k i)
  where
    here : (k : ℕ) → k < i + 1 → i ≤ k → IsUtf8 (get_or words k [])
    here k below past =
        let same : i ≡ k = omega (arith, below, past) in
        subst IsUtf8 (sym (get_or_from_slice_get words i word [] is) ∙ ap (λ j. get_or words j []) same) text

pub one_put : (words : List Text) (i : ℕ) (word : Text) (now new whole : List Text) → i < length words → slice_get words i ≡ Some word
    → new ≡ now ++ word ∷ [] → now ++ drop i words ≡ whole → new ++ drop (i + 1) words ≡ whole
one_put words i word now new whole below is put so =
    ap (λ (l : List Text). l ++ drop (i + 1) words) put ∙ append_assoc now (word ∷ []) (drop (i + 1) words)
    ∙ ap (λ (w : Text). now ++ w ∷ drop (i + 1) words) (sym (get_or_from_slice_get words i word word is))
    ∙ ap (λ (l : List Text). now ++ l) (sym (at_drop_more (λ (l : List Text). l) words i word below)) ∙ so

-- ---- a number

all_digits : (ds : List ℕ) → AllDigits 10 ds → list_all (λ d. nat_lt (digit_value d) 10) ds ≡ true
all_digits [] h = refl
all_digits (d ∷ ds) h = rw (lt-ltb (digit_value d) 10 h.0) (all_digits ds h.1)

from_digits : (ds : List ℕ) → list_all (λ d. nat_lt (digit_value d) 10) ds ≡ true → AllDigits 10 ds
from_digits [] e = tt
from_digits (d ∷ ds) e = let parts = and_parts (nat_lt (digit_value d) 10) (list_all (λ d. nat_lt (digit_value d) 10) ds) e in (ltb-true _ _ parts.0, from_digits ds parts.1)

pub number_read : (word : List ℕ) (n : ℕ) → IsNumeral 10 (without_leading_plus word) → n ≡ number_of word → 1 ≤ n → n ≤ 2000 → Ok (a_command.DebugLoad n) ≡ load_of word
number_read word n numeral is least most =
    let l : 1 ≤ number_of word = omega (arith, is, least) in
    let m : number_of word ≤ 2000 = omega (arith, is, most) in
    rw (lt-ltb 0 (length (without_leading_plus word)) numeral.0, all_digits (without_leading_plus word) numeral.1, le-leb 1 (number_of word) l, le-leb (number_of word) 2000 m)
    (ap (λ (k : ℕ). Ok (a_command.DebugLoad k)) is)

abbrev in_range : List ℕ → Bool
in_range word = nat_le 1 (number_of word) && nat_le (number_of word) 2000

-- a number beyond the range, or none at all
pub number_refused : (word : List ℕ) → (IsNumeral 10 (without_leading_plus word) → number_of word < 4294967296 → (1 ≤ number_of word → number_of word ≤ 2000 → ⊥)) → Err a_fault.Usage ≡ load_of word
number_refused word none = by (is_number word) refl (in_range word) refl
  where
    by : (t : Bool) → is_number word ≡ t → (u : Bool) → in_range word ≡ u → Err a_fault.Usage ≡ cond (is_number word && in_range word) (Ok (a_command.DebugLoad (number_of word))) (Err a_fault.Usage)
    by false t_is u u_is = rw t_is refl
    by true t_is false u_is = rw (t_is, u_is) refl
    by true t_is true u_is =
        let numeral = and_parts (nat_lt 0 (length (without_leading_plus word))) (list_all (λ d. nat_lt (digit_value d) 10) (without_leading_plus word)) t_is in
        let range = and_parts (nat_le 1 (number_of word)) (nat_le (number_of word) 2000) u_is in
        let most : number_of word ≤ 2000 = leb-true (number_of word) 2000 range.1 in
        absurd (none (ltb-true 0 (length (without_leading_plus word)) numeral.0, from_digits (without_leading_plus word) numeral.1) (omega (arith, most)) (leb-true 1 (number_of word) range.0) most)
