-- The arguments of a command as `clap` builds them, and one word of flags.
use Rattle.std.proofs.Common.{ℕ, ◌≡◌, ◌<◌, ◌≤◌, pred, Bool, true, false, cond, not, ◌||◌, ◌&&◌, List, [], ◌∷◌, ◌++◌, map, length, Option, Some, None, is_some, refl, sym, ap, ◌∙◌, arith, eqb, ltb, IsUtf8, subst, length-append}
use Rattle.std.specs.Prelude.{codes, find, slice_get, encode_utf8, encode_utf8_all}
use Rattle.std.specs.List.{list_all, list_any}
use Rattle.std.specs.Option.{option_and_then, option_map, option_map_or}
use Rattle.std.specs.Str.{bytes_eq, chars, all_scalars}
use lib.Utf8.{scalar}
use Rattle.std.proofs.lemmas.Bool.{and_parts, not-true, ltb-true, lt-ltb, ne_eqb}
use Rattle.std.proofs.lemmas.Str.{chars_past_char, char_from_byte, encode_ascii, length-encode, len_utf8_bounds}
use Rattle.hg_words.specs.Command.{Flag, by_letter, by_name, named_by_letters}
use Rattle.hg_words.proofs.Rows.{gone_flagged, gone_keeps, gone_row, is_flagged, put_flagged, put_keeps, put_row}
use Rattle.hg_words.specs.Clapped.{flag_arg, given, is_good, word_arg, word_id}
use Rattle.clap.specs.Kinds.{Kinds, or_else}
use Rattle.clap.specs.Faults.{flags_fault, react_fault, settle_fault, short_fault, use_fault}
use Rattle.clap.specs.Simple.{filled, with_index}
use Rattle.clap.specs.Walk.{Held, Outcome, Row, Rule, Text, arg_by_id, arg_by_index, arg_by_long, arg_by_short, bundle_met, done, has_row, reacted, reading_by, settled, short_met, used_by_id, with_values, without}
use Rattle.clap.specs.declared.parser.matches.ValueSource.TheVariants.{CommandLine}
use Rattle.clap.specs.declared.error.kind.ErrorKind.TheVariants as kind
use Rattle.clap.proofs.FaultLemmas.{fault_ends, fault_reads}
use Rattle.clap.proofs.WalkLemmas.{bundle_ends, bundle_reads}

-- ---- the arguments as they are built

abbrev pub flag_rule : Flag → Rule
flag_rule f = with_index 1 (filled (flag_arg f))

abbrev pub word_rule : Rule
word_rule = with_index 1 (filled word_arg)

abbrev pub rules : List Flag → List Rule
rules flags = map flag_rule flags ++ word_rule ∷ []

ge_from_ltb : (x : ℕ) → ltb x 128 ≡ false → 128 ≤ x
ge_from_ltb x e = grind (arith, e, lt-ltb x 128)

scalars_rest : (c : ℕ) (cs : List ℕ) → all_scalars (c ∷ cs) ≡ true → all_scalars cs ≡ true
scalars_rest c cs e = (and_parts (scalar c) (all_scalars cs) e).1

none_first : None ≡ slice_get (chars []) 0
unfolding chars
none_first = refl

-- ---- finding them

pub by_long : (flags : List Flag) (name : Text) → arg_by_long (rules flags) name ≡ option_map flag_rule (by_name flags name)
by_long [] name = refl
by_long (f ∷ flags) name = by (bytes_eq f.name name) (by_long flags name)
  where
    by : (t : Bool) → arg_by_long (rules flags) name ≡ option_map flag_rule (by_name flags name)
        → cond (t || false) (Some (flag_rule f)) (arg_by_long (rules flags) name) ≡ option_map flag_rule (cond t (Some f) (by_name flags name))
    by true rest = refl
    by false rest = rest

pub by_short : (flags : List Flag) (letter : ℕ) → arg_by_short (rules flags) letter ≡ option_map flag_rule (by_letter flags letter)
by_short [] letter = refl
by_short (f ∷ flags) letter = by (eqb f.letter letter) (by_short flags letter)
  where
    by : (t : Bool) → arg_by_short (rules flags) letter ≡ option_map flag_rule (by_letter flags letter)
        → cond (t || false) (Some (flag_rule f)) (arg_by_short (rules flags) letter) ≡ option_map flag_rule (cond t (Some f) (by_letter flags letter))
    by true rest = refl
    by false rest = rest

pub by_index : (flags : List Flag) → arg_by_index (rules flags) 1 ≡ Some word_rule
by_index [] = refl
by_index (f ∷ flags) = by_index flags

pub good_name : (f : Flag) → is_good f ≡ true → bytes_eq f.name word_id ≡ false
good_name f good = not-true (bytes_eq f.name word_id) (and_parts (not (bytes_eq f.name word_id)) (not (list_any (λ b. eqb b 61) f.name)) (and_parts (ltb f.letter 128) (not (bytes_eq f.name word_id) && not (list_any (λ b. eqb b 61) f.name)) good).1).0

pub by_id : (flags : List Flag) → list_all is_good flags ≡ true → arg_by_id (rules flags) word_id ≡ Some word_rule
by_id [] good = refl
by_id (f ∷ flags) good =
    let parts = and_parts (is_good f) (list_all is_good flags) good in
    rw (good_name f parts.0) (by_id flags parts.1)

-- no letter beyond ASCII is a flag
pub none_high : (flags : List Flag) (x : ℕ) → list_all is_good flags ≡ true → 128 ≤ x → by_letter flags x ≡ None
none_high [] x good high = refl
none_high (f ∷ flags) x good high =
    let parts = and_parts (is_good f) (list_all is_good flags) good in
    let low : f.letter < 128 = ltb-true f.letter 128 (and_parts (ltb f.letter 128) (not (bytes_eq f.name word_id) && not (list_any (λ b. eqb b 61) f.name)) parts.0).0 in
    rw (ne_eqb f.letter x (λ e. omega (arith, low, high, e))) (none_high flags x parts.1 high)

pub good_found : (p : Flag → Bool) (flags : List Flag) (f : Flag) → list_all is_good flags ≡ true → find p flags ≡ Some f → is_good f ≡ true
good_found p [] f good e = absurd (cc)
good_found p (g ∷ flags) f good e = by (p g) refl (good_found p flags f parts.1)
  where
    parts : (is_good g ≡ true) × (list_all is_good flags ≡ true)
    parts = and_parts (is_good g) (list_all is_good flags) good

    some_same : (a b : Flag) → Some a ≡ Some b → a ≡ b
    some_same a b e = cc

    by : (t : Bool) → p g ≡ t → (find p flags ≡ Some f → is_good f ≡ true) → is_good f ≡ true
    by true is rest = ap is_good (sym (some_same g f (ap (λ (t : Bool). cond t (Some g) (find p flags)) (sym is) ∙ e))) ∙ parts.0
    by false is rest = rest (ap (λ (t : Bool). cond t (Some g) (find p flags)) (sym is) ∙ e)

-- ---- what is held

abbrev pub pending_of : Option Text → Option (Text × List Text)
pending_of None = None
pending_of (Some word) = Some (word_id, word ∷ [])

abbrev pub held : List Row → Option Text → Held
held rows pending = record { rows = rows; pending = pending_of pending; skip = 0 }

-- the rows with the word that waits
abbrev pub now : Option Text → List Row → List Row
now None rows = rows
now (Some word) rows = with_values word_id (reading_by word_rule) CommandLine (word ∷ []) rows

-- and those with a flag set
abbrev pub set : Flag → List Row → List Row
set f rows = with_values f.name (reading_by (flag_rule f)) CommandLine (codes "true" ∷ []) (without f.name rows)

-- what some flags make of the rows
pub record Sets (names : List Text) (old new : List Row) : Type 0 where
  pub flagged : list_all is_flagged old ≡ true → list_all is_flagged new ≡ true
  pub words : given new ≡ given old
  pub flags : (name : Text) → has_row name new ≡ (list_any (λ given. bytes_eq given name) names || has_row name old)

pub sets_none : (rows : List Row) → Sets [] rows rows
sets_none rows = record { flagged = λ all. all; words = refl; flags = λ name. refl }

pub sets_one : (f : Flag) (rows : List Row) → is_good f ≡ true → Sets (f.name ∷ []) rows (set f rows)
sets_one f rows good = record {
  flagged = λ all. put_flagged f.name (reading_by (flag_rule f)) CommandLine (codes "true" ∷ []) (without f.name rows) (by_true (bytes_eq f.name word_id)) (gone_flagged f.name rows all);
  words = put_keeps f.name (reading_by (flag_rule f)) CommandLine (codes "true" ∷ []) (without f.name rows) (good_name f good) ∙ gone_keeps f.name rows (good_name f good);
  flags = λ name. put_row f.name (reading_by (flag_rule f)) CommandLine (codes "true" ∷ []) name (without f.name rows) ∙ by name (bytes_eq f.name name) refl;
}
  where
    by_true : (t : Bool) → (t || true) ≡ true
    by_true true = refl
    by_true false = refl

    by : (name : Text) (t : Bool) → bytes_eq f.name name ≡ t → (t || has_row name (without f.name rows)) ≡ ((t || false) || has_row name rows)
    by name true e = refl
    by name false e = gone_row f.name name rows e

pub sets_more : (name : Text) (names : List Text) (a b c : List Row) → Sets (name ∷ []) a b → Sets names b c → Sets (name ∷ names) a c
sets_more name names a b c first rest = record {
  flagged = λ all. rest.flagged (first.flagged all);
  words = rest.words ∙ first.words;
  flags = λ n. rest.flags n ∙ ap (λ (t : Bool). list_any (λ given. bytes_eq given n) names || t) (first.flags n)
      ∙ turned (list_any (λ given. bytes_eq given n) names) (bytes_eq name n) (has_row n a);
}
  where
    turned : (x y z : Bool) → (x || ((y || false) || z)) ≡ ((y || x) || z)
    turned true true z = refl
    turned true false z = refl
    turned false true z = refl
    turned false false z = refl

-- ---- one use

-- nothing fails
abbrev pub is_fine : Kinds → Bool
is_fine [] = true
is_fine (kind ∷ kinds) = false

pub fine_both : (a b : Kinds) → is_fine (or_else a b) ≡ (is_fine a && is_fine b)
fine_both [] b = refl
fine_both (k ∷ ks) b = refl

pub past_none : (a b : Kinds) → a ≡ [] → or_else a b ≡ b
past_none a b e = ap (λ (l : Kinds). or_else l b) e

module _ (flags : List Flag) (good : list_all is_good flags ≡ true) where
  pub settled_is : (rows : List Row) (pending : Option Text) → settled (rules flags) (held rows pending) ≡ held (now pending rows) None
  settled_is rows None = refl
  settled_is rows (Some word) = ap (λ o. held (used_by_id o (word ∷ []) rows) None) (by_id flags good)

  pub settle_none : (rows : List Row) (pending : Option Text) → settle_fault (rules flags) true (held rows pending) ≡ []
  settle_none rows None = refl
  settle_none rows (Some word) = ap (λ o. option_map_or (λ a. use_fault true a (word ∷ []) rows) o []) (by_id flags good)

  use_none : (f : Flag) (rows : List Row) → use_fault true (flag_rule f) [] rows ≡ []
  use_none f rows = by (has_row f.name rows)
    where
      by : (t : Bool) → or_else (cond (t && false) (kind.ArgumentConflict ∷ []) []) [] ≡ []
      by true = refl
      by false = refl

  pub react_none : (f : Flag) (rows : List Row) (pending : Option Text) → react_fault (rules flags) true (flag_rule f) [] (held rows pending) ≡ []
  react_none f rows pending = past_none _ _ (settle_none rows pending) ∙ use_none f (settled (rules flags) (held rows pending)).rows

  pub reacted_is : (f : Flag) (rows : List Row) (pending : Option Text) → reacted (rules flags) (flag_rule f) [] (held rows pending) ≡ held (set f (now pending rows)) None
  reacted_is f rows pending = ap (λ (h : Held). held (set f h.rows) None) (settled_is rows pending)

  -- ---- the letters of a word

  -- a character of a text, in front of the rest
  pub record IsFirst (x : ℕ) (letters rest : Text) : Type 0 where
    pub parts : letters ≡ encode_utf8 x ++ rest
    pub text : IsUtf8 letters

  first_is : (x : ℕ) (letters rest : Text) → IsFirst x letters rest → Some x ≡ slice_get (chars letters) 0
  first_is x letters rest first = sym (ap (λ (l : List ℕ). slice_get l 0) (chars_past_char letters rest x first.text first.parts))

  -- the flag that a character is, and those behind it, in the definition: by the text's first byte
  abbrev named_from : Option Flag → Option (List Text) → Option (List Text)
  named_from found rest = option_and_then (λ f. option_map (λ names. f.name ∷ names) rest) found

  ascii_named : (x : ℕ) (letters rest : Text) → letters ≡ encode_utf8 x ++ rest → x < 128
      → named_by_letters flags letters ≡ named_from (by_letter flags x) (named_by_letters flags rest)
  ascii_named x letters rest parts low = ap (named_by_letters flags) (parts ∙ ap (λ (l : List ℕ). l ++ rest) (encode_ascii x low))

  high_named : (x : ℕ) (letters rest : Text) → letters ≡ encode_utf8 x ++ rest → 0 < length letters → 128 ≤ x → named_by_letters flags letters ≡ None
  high_named x [] rest parts some high = absurd (omega arith)
  high_named x (b ∷ letters) rest parts some high = by (ltb b 128) refl
    where
      by : (t : Bool) → ltb b 128 ≡ t → named_by_letters flags (b ∷ letters) ≡ None
      by true e =
          let same : x ≡ b = char_from_byte (b ∷ letters) rest x parts (ltb-true b 128 e) some in
          absurd (omega (arith, high, same, ltb-true b 128 e))
      by false e = ap (λ (o : Option Flag). named_from o (named_by_letters flags letters)) (none_high flags b good (ge_from_ltb b e))

  named_is : (x : ℕ) (letters rest : Text) → letters ≡ encode_utf8 x ++ rest → 0 < length letters
      → named_by_letters flags letters ≡ named_from (by_letter flags x) (named_by_letters flags rest)
  named_is x letters rest parts some = by (ltb x 128) refl
    where
      by : (t : Bool) → ltb x 128 ≡ t → named_by_letters flags letters ≡ named_from (by_letter flags x) (named_by_letters flags rest)
      by true e = ascii_named x letters rest parts (ltb-true x 128 e)
      by false e =
          let high : 128 ≤ x = ge_from_ltb x e in
          high_named x letters rest parts some high ∙ sym (ap (λ (o : Option Flag). named_from o (named_by_letters flags rest)) (none_high flags x good high))

  -- no fault exactly where each letter is a flag
  pub first_fault : (x k : ℕ) (letters rest : Text) (rows : List Row) (pending : Option Text) → IsFirst x letters rest → length rest < k
      → ((now_rows : List Row) → is_fine (flags_fault (rules flags) true (pred k) rest 0 (held now_rows None)) ≡ is_some (named_by_letters flags rest))
      → is_fine (flags_fault (rules flags) true k letters 0 (held rows pending)) ≡ is_some (named_from (by_letter flags x) (named_by_letters flags rest))
  first_fault x k letters rest rows pending first fits later =
      ap is_fine (sym (fault_reads (rules flags) true x letters rest (first_is x letters rest first) first.parts k 0 (held rows pending) fits (omega arith)))
      ∙ ap (λ o. is_fine (short_fault (rules flags) true o rest (held rows pending) (flags_fault (rules flags) true (pred k) rest 0))) (by_short flags x)
      ∙ by (by_letter flags x)
    where
      some_named : (name : Text) (o : Option (List Text)) → is_some o ≡ is_some (option_map (λ names. name ∷ names) o)
      some_named name None = refl
      some_named name (Some names) = refl

      by : (found : Option Flag) → is_fine (short_fault (rules flags) true (option_map flag_rule found) rest (held rows pending) (flags_fault (rules flags) true (pred k) rest 0))
          ≡ is_some (named_from found (named_by_letters flags rest))
      by None = refl
      by (Some f) =
          ap (λ l. is_fine (or_else l (flags_fault (rules flags) true (pred k) rest 0 (reacted (rules flags) (flag_rule f) [] (held rows pending))))) (react_none f rows pending)
          ∙ ap (λ h. is_fine (flags_fault (rules flags) true (pred k) rest 0 h)) (reacted_is f rows pending)
          ∙ later (set f (now pending rows)) ∙ some_named f.name (named_by_letters flags rest)

  shorter : (c : ℕ) (cs : List ℕ) (k : ℕ) → length (encode_utf8 c ++ encode_utf8_all cs) ≤ k → length (encode_utf8_all cs) < k
  shorter c cs k fits = omega (arith, fits, length-append (encode_utf8 c) (encode_utf8_all cs), length-encode c, (len_utf8_bounds c).0)

  some_letters : (c : ℕ) (cs : List ℕ) → 0 < length (encode_utf8 c ++ encode_utf8_all cs)
  some_letters c cs = omega (arith, length-append (encode_utf8 c) (encode_utf8_all cs), length-encode c, (len_utf8_bounds c).0)

  rest_fault : (cs : List ℕ) (k : ℕ) → all_scalars cs ≡ true → length (encode_utf8_all cs) ≤ k → (rows : List Row)
      → is_fine (flags_fault (rules flags) true k (encode_utf8_all cs) 0 (held rows None)) ≡ is_some (named_by_letters flags (encode_utf8_all cs))
  rest_fault [] k spelt fits rows = ap is_fine (sym (fault_ends (rules flags) true k [] 0 (held rows None) none_first))
  rest_fault (c ∷ cs) k spelt fits rows =
      let less = shorter c cs k fits in
      first_fault c k (encode_utf8 c ++ encode_utf8_all cs) (encode_utf8_all cs) rows None (record { parts = refl; text = (c ∷ cs, (spelt, refl)) }) less
      (λ later. rest_fault cs (pred k) (scalars_rest c cs spelt) (omega (arith, less)) later)
      ∙ ap is_some (sym (named_is c (encode_utf8 c ++ encode_utf8_all cs) (encode_utf8_all cs) refl (some_letters c cs)))

  -- a word of letters is refused exactly where one is no flag
  pub letters_fault : (letters : Text) (k : ℕ) (rows : List Row) (pending : Option Text) → IsUtf8 letters → 0 < length letters → length letters ≤ k
      → is_fine (flags_fault (rules flags) true k letters 0 (held rows pending)) ≡ is_some (named_by_letters flags letters)
  letters_fault letters k rows pending (cs, (spelt, same)) some fits =
      subst (λ (l : Text). is_fine (flags_fault (rules flags) true k l 0 (held rows pending)) ≡ is_some (named_by_letters flags l)) same
      (by cs spelt (subst (λ (l : Text). 0 < length l) (sym same) some) (subst (λ (l : Text). length l ≤ k) (sym same) fits))
    where
      by : (cs : List ℕ) → all_scalars cs ≡ true → 0 < length (encode_utf8_all cs) → length (encode_utf8_all cs) ≤ k
          → is_fine (flags_fault (rules flags) true k (encode_utf8_all cs) 0 (held rows pending)) ≡ is_some (named_by_letters flags (encode_utf8_all cs))
      by [] spelt some fits = absurd (omega (arith, some))
      by (c ∷ cs) spelt some fits =
          let less = shorter c cs k fits in
          first_fault c k (encode_utf8 c ++ encode_utf8_all cs) (encode_utf8_all cs) rows pending (record { parts = refl; text = (c ∷ cs, (spelt, refl)) }) less
          (λ later. rest_fault cs (pred k) (scalars_rest c cs spelt) (omega (arith, less)) later)
          ∙ ap is_some (sym (named_is c (encode_utf8 c ++ encode_utf8_all cs) (encode_utf8_all cs) refl (some_letters c cs)))

  -- what such a word comes to
  pub record Meets (names : List Text) (k : ℕ) (letters : Text) (h : Held) (so_far : Outcome) (rows : List Row) : Type 0 where
    pub after : List Row
    pub sets : Sets names rows after
    pub met : bundle_met (rules flags) k letters 0 so_far h ≡ (held after None, done)

  first_met : (x k : ℕ) (letters rest : Text) (rows : List Row) (pending : Option Text) (so_far : Outcome) (names : List Text) → IsFirst x letters rest → length letters ≤ k
      → ((more : List Text) (later : List Row) → named_by_letters flags rest ≡ Some more → Meets more (pred k) rest (held later None) done later)
      → named_from (by_letter flags x) (named_by_letters flags rest) ≡ Some names → Meets names k letters (held rows pending) so_far (now pending rows)
  first_met x k letters rest rows pending so_far names first fits later named = by (by_letter flags x) refl (named_by_letters flags rest) refl named
    where
      some_same : (a b : List Text) → Some a ≡ Some b → a ≡ b
      some_same a b e = cc

      by : (found : Option Flag) → by_letter flags x ≡ found → (o : Option (List Text)) → named_by_letters flags rest ≡ o → named_from found o ≡ Some names
          → Meets names k letters (held rows pending) so_far (now pending rows)
      by None is o rest_is e = absurd (cc)
      by (Some f) is None rest_is e = absurd (cc)
      by (Some f) is (Some more) rest_is e =
          let next = later more (set f (now pending rows)) rest_is in
          let flag_good = good_found (λ (f : Flag). eqb f.letter x) flags f good is in
          record {
            after = next.after;
            sets = subst (λ (n : List Text). Sets n (now pending rows) next.after) (some_same (f.name ∷ more) names e)
                (sets_more f.name more (now pending rows) (set f (now pending rows)) next.after (sets_one f (now pending rows) flag_good) next.sets);
            met = sym (bundle_reads (rules flags) x letters rest (first_is x letters rest first) first.parts k 0 so_far (held rows pending) fits (omega arith))
                ∙ ap (λ o. short_met (rules flags) o rest (held rows pending) (bundle_met (rules flags) (pred k) rest 0 done)) (by_short flags x ∙ ap (option_map flag_rule) is)
                ∙ ap (λ h. bundle_met (rules flags) (pred k) rest 0 done h) (reacted_is f rows pending) ∙ next.met;
          }

  rest_met : (cs : List ℕ) (k : ℕ) (names : List Text) (rows : List Row) → all_scalars cs ≡ true → length (encode_utf8_all cs) ≤ k
      → named_by_letters flags (encode_utf8_all cs) ≡ Some names → Meets names k (encode_utf8_all cs) (held rows None) done rows
  rest_met [] k names rows spelt fits named = record {
    after = rows;
    sets = subst (λ (n : List Text). Sets n rows rows) (some_same [] names named) (sets_none rows);
    met = sym (bundle_ends (rules flags) k [] 0 done (held rows None) none_first);
  }
    where
      some_same : (a b : List Text) → Some a ≡ Some b → a ≡ b
      some_same a b e = cc
  rest_met (c ∷ cs) k names rows spelt fits named =
      first_met c k (encode_utf8 c ++ encode_utf8_all cs) (encode_utf8_all cs) rows None done names (record { parts = refl; text = (c ∷ cs, (spelt, refl)) }) fits
      (λ more later is. rest_met cs (pred k) more later (scalars_rest c cs spelt) (omega (arith, shorter c cs k fits)) is)
      (sym (named_is c (encode_utf8 c ++ encode_utf8_all cs) (encode_utf8_all cs) refl (some_letters c cs)) ∙ named)

  pub letters_met : (letters : Text) (k : ℕ) (rows : List Row) (pending : Option Text) (so_far : Outcome) (names : List Text) → IsUtf8 letters → 0 < length letters → length letters ≤ k
      → named_by_letters flags letters ≡ Some names → Meets names k letters (held rows pending) so_far (now pending rows)
  letters_met letters k rows pending so_far names (cs, (spelt, same)) some fits named =
      subst (λ (l : Text). Meets names k l (held rows pending) so_far (now pending rows)) same
      (by cs spelt (subst (λ (l : Text). 0 < length l) (sym same) some) (subst (λ (l : Text). length l ≤ k) (sym same) fits) (ap (named_by_letters flags) same ∙ named))
    where
      by : (cs : List ℕ) → all_scalars cs ≡ true → 0 < length (encode_utf8_all cs) → length (encode_utf8_all cs) ≤ k → named_by_letters flags (encode_utf8_all cs) ≡ Some names
          → Meets names k (encode_utf8_all cs) (held rows pending) so_far (now pending rows)
      by [] spelt some fits named = absurd (omega (arith, some))
      by (c ∷ cs) spelt some fits named =
          first_met c k (encode_utf8 c ++ encode_utf8_all cs) (encode_utf8_all cs) rows pending so_far names (record { parts = refl; text = (c ∷ cs, (spelt, refl)) }) fits
          (λ more later is. rest_met cs (pred k) more later (scalars_rest c cs spelt) (omega (arith, shorter c cs k fits)) is)
          (sym (named_is c (encode_utf8 c ++ encode_utf8_all cs) (encode_utf8_all cs) refl (some_letters c cs)) ∙ named)
