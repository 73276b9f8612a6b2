-- One word of a command, as `clap` reads it.
use Rattle.std.proofs.Common.{ℕ, ◌≡◌, ◌<◌, Bool, true, false, cond, not, ◌||◌, ◌&&◌, List, [], ◌∷◌, ◌++◌, length, take, drop, suc, ◌+◌, Option, Some, None, is_some, refl, sym, ap, ap₂, ◌∙◌, true≢false, arith, eqb, ltb, eqb-true, IsUtf8, subst}
use Rattle.std.specs.List.{after_first, before_first, list_all, list_any, prefix_len}
use Rattle.std.specs.Option.{option_map, option_map_or}
use Rattle.std.specs.Str.{bytes_eq}
use Rattle.std.proofs.lemmas.Bool.{and_parts, not-true}
use Rattle.std.proofs.lemmas.Str.{IsUtf8-past_char, encode_ascii}
use Rattle.hg_base.proofs.Within.{same_bytes}
use Rattle.hg_words.specs.Command.{Flag, by_name, is_dashed, named_behind, named_by_letters}
use Rattle.hg_words.proofs.Letters.{Sets, by_index, by_long, fine_both, good_found, held, is_fine, letters_fault, letters_met, now, react_none, reacted_is, rules, flag_rule, set, sets_one, settle_none, settled_is, word_rule}
use Rattle.hg_words.specs.Clapped.{is_good, word_id}
use Rattle.clap.specs.Kinds.{Kinds, or_else}
use Rattle.clap.specs.Faults.{bundle_fault, flag_word_fault, long_fault, other_fault, positional_fault, step_fault, stray_fault, turn_fault, word_fault}
use Rattle.clap.specs.Lexer.{long_of, name_and_value, short_of}
use Rattle.clap.specs.Simple.{Shape, new_shape}
use Rattle.clap.specs.Walk.{Held, Outcome, Row, Step, Text, Waiting, Walk, after_flag, after_step, bundle, idle, long_met, long_or_other, next, plain, plain_word, positional, pushed, short_or_plain, subcommand_met, subcommand_or_other, to_positional, trailing, value, walked, word_met}

-- the command as it is built
abbrev pub top : Text → List Flag → Shape
top name flags = record (new_shape name) {
  rules = rules flags;
  disable_help_flag = true;
  disable_help_subcommand = true;
  args_override_self = true;
  is_built = true;
}

abbrev pub wait_of : Bool → Waiting
wait_of waits = cond waits positional idle

-- between two words: whether `--` was met, the rows, the word that waits, and whether the last was a word that is no flag
abbrev pub at : Bool → List Row → Option Text → Bool → Walk
at is_trailing rows pending waits = record { held = held rows pending; waiting = wait_of waits; position = 1; is_trailing = is_trailing; stopped = None }

-- ---- what a word looks like

abbrev pub dashes : Text
dashes = 45 ∷ 45 ∷ []

pub record Looks (word : Text) (name : Option (Text × Option Text)) (letters : Option Text) : Type 0 where
  pub long : long_of word ≡ name
  pub short : short_of word ≡ letters

plain_looks : (word : Text) → is_dashed word ≡ false → Looks word None None
plain_looks [] not_dashed = record { long = refl; short = refl }
plain_looks (b ∷ []) not_dashed = by (eqb b 45) refl
  where
    by : (t : Bool) → eqb b 45 ≡ t → Looks (b ∷ []) None None
    by true e = record { long = rw e refl; short = rw e refl }
    by false e = record { long = rw e refl; short = rw e refl }
plain_looks (b ∷ c ∷ rest) not_dashed = record { long = rw not_dashed refl; short = rw not_dashed refl }

letters_look : (b c : ℕ) (rest : Text) → eqb b 45 ≡ true → eqb c 45 ≡ false → Looks (b ∷ c ∷ rest) None (Some (c ∷ rest))
letters_look b c rest first second = record { long = rw (first, second) refl; short = rw (first, second) refl }

name_looks : (b c d : ℕ) (rest : Text) → eqb b 45 ≡ true → eqb c 45 ≡ true → long_of (b ∷ c ∷ d ∷ rest) ≡ Some (name_and_value (d ∷ rest))
name_looks b c d rest first second = rw (first, second) refl

one_more : (b n : ℕ) (text : Text) → take (1 + n) (b ∷ text) ≡ b ∷ take n text
one_more b n text = let next : 1 + n ≡ suc n = omega arith in ap (λ k. take k (b ∷ text)) next

-- a text without `=` is a name alone
before_all : (text : Text) → list_any (λ b. eqb b 61) text ≡ false → before_first (λ b. eqb b 61) text ≡ text
before_all [] none = refl
before_all (b ∷ text) none = by (eqb b 61) refl (λ later. before_all text later)
  where
    by : (t : Bool) → eqb b 61 ≡ t → (list_any (λ b. eqb b 61) text ≡ false → before_first (λ b. eqb b 61) text ≡ text) → before_first (λ b. eqb b 61) (b ∷ text) ≡ b ∷ text
    by true e rest = absurd (true≢false (sym (ap (λ (t : Bool). t || list_any (λ b. eqb b 61) text) e) ∙ none))
    by false e rest = rw e (one_more b (prefix_len (λ b. not (eqb b 61)) text) text ∙ ap (λ (l : Text). b ∷ l) (rest (sym (ap (λ (t : Bool). t || list_any (λ b. eqb b 61) text) e) ∙ none)))

name_alone : (text : Text) → list_any (λ b. eqb b 61) text ≡ false → name_and_value text ≡ (text, None)
name_alone text none = rw (before_all text none, none) refl

-- ---- one word

module _ (name : Text) (flags : List Flag) (good : list_all is_good flags ≡ true) where
  -- a word that is no flag
  value_fault : (rows : List Row) (pending : Option Text) → step_fault (top name flags) 1 (held rows pending) value ≡ []
  value_fault rows pending =
      ap (λ o. option_map_or (λ a. positional_fault (rules flags) true a (held rows pending)) o (stray_fault (top name flags))) (by_index flags) ∙ by pending
    where
      by : (pending : Option Text) → positional_fault (rules flags) true word_rule (held rows pending) ≡ []
      by None = refl
      by (Some word) = settle_none flags good rows (Some word)

  value_met : (is_trailing : Bool) (rows : List Row) (pending : Option Text) (waits : Bool) (word : Text)
      → after_step (rules flags) word (at is_trailing rows pending waits) (held rows pending) value ≡ at is_trailing (now pending rows) (Some word) true
  value_met is_trailing rows pending waits word =
      ap (λ o. to_positional (rules flags) o word (at is_trailing rows pending waits) (held rows pending)) (by_index flags) ∙ by is_trailing pending
    where
      pushed_on : Held → Walk
      pushed_on h = record { held = pushed word_id word h; waiting = positional; position = 1; is_trailing = is_trailing; stopped = None }

      by : (is_trailing : Bool) (pending : Option Text)
          → to_positional (rules flags) (Some word_rule) word (at is_trailing rows pending waits) (held rows pending) ≡ at is_trailing (now pending rows) (Some word) true
      by true None = refl
      by false None = refl
      by true (Some before) = ap (λ (h : Held). record { held = pushed word_id word h; waiting = positional; position = 1; is_trailing = true; stopped = None }) (settled_is flags good rows (Some before))
      by false (Some before) = ap (λ (h : Held). record { held = pushed word_id word h; waiting = positional; position = 1; is_trailing = false; stopped = None }) (settled_is flags good rows (Some before))

  -- behind `--`
  pub trailing_fault : (rows : List Row) (pending : Option Text) (waits : Bool) (word : Text) → is_fine (turn_fault (top name flags) [] (at true rows pending waits) word) ≡ true
  trailing_fault rows pending waits word = ap is_fine (value_fault rows pending)

  pub trailing_met : (rows : List Row) (pending : Option Text) (waits : Bool) (word : Text)
      → walked (rules flags) [] (at true rows pending waits) word ≡ at true (now pending rows) (Some word) true
  unfolding walked
  trailing_met rows pending waits word = value_met true rows pending waits word

  -- before it, no word names a subcommand
  no_sub : (waits : Bool) (word : Text) → subcommand_met [] (wait_of waits) word ≡ None
  no_sub true word = refl
  no_sub false word = refl

  abbrev other_met : Bool → List Row → Option Text → Bool → Text → Held × Step
  other_met is_dashes rows pending waits word =
      cond is_dashes (held rows pending, trailing 1) (long_or_other (rules flags) (wait_of waits) word (long_of word) (held rows pending))

  met_is : (rows : List Row) (pending : Option Text) (waits : Bool) (word : Text)
      → word_met (rules flags) [] false (wait_of waits) 1 word (held rows pending) ≡ other_met (bytes_eq word dashes) rows pending waits word
  met_is rows pending waits word = ap (λ o. subcommand_or_other (rules flags) o (wait_of waits) 1 word (held rows pending)) (no_sub waits word)

  abbrev plain_fault : Bool → List Row → Option Text → Text → Kinds
  plain_fault is_dashes rows pending word = cond is_dashes [] (flag_word_fault (rules flags) true (long_of word) word (held rows pending))

  fault_is : (rows : List Row) (pending : Option Text) (waits : Bool) (word : Text)
      → word_fault (top name flags) [] false (wait_of waits) word (held rows pending) ≡ plain_fault (bytes_eq word dashes) rows pending word
  fault_is rows pending waits word = ap (λ o. other_fault (top name flags) o word (held rows pending)) (no_sub waits word)

  -- what a word comes to, by what it is met as
  abbrev turned : Kinds → Held × Step → Kinds
  turned fault met = or_else fault (step_fault (top name flags) 1 met.0 met.1)

  turn_is : (rows : List Row) (pending : Option Text) (waits : Bool) (word : Text)
      → turn_fault (top name flags) [] (at false rows pending waits) word ≡ turned (plain_fault (bytes_eq word dashes) rows pending word) (other_met (bytes_eq word dashes) rows pending waits word)
  turn_is rows pending waits word = ap₂ turned (fault_is rows pending waits word) (met_is rows pending waits word)

  walk_is : (rows : List Row) (pending : Option Text) (waits : Bool) (word : Text) (met : Held × Step) → other_met (bytes_eq word dashes) rows pending waits word ≡ met
      → walked (rules flags) [] (at false rows pending waits) word ≡ after_step (rules flags) word (at false rows pending waits) met.0 met.1
  unfolding walked
  walk_is rows pending waits word met is = ap (λ (m : Held × Step). after_step (rules flags) word (at false rows pending waits) m.0 m.1) (met_is rows pending waits word ∙ is)

  -- the word `--`
  pub dashes_fault : (rows : List Row) (pending : Option Text) (waits : Bool) (word : Text) → bytes_eq word dashes ≡ true
      → is_fine (turn_fault (top name flags) [] (at false rows pending waits) word) ≡ true
  dashes_fault rows pending waits word is =
      ap is_fine (turn_is rows pending waits word) ∙ ap (λ (t : Bool). is_fine (turned (plain_fault t rows pending word) (other_met t rows pending waits word))) is

  pub dashes_met : (rows : List Row) (pending : Option Text) (waits : Bool) (word : Text) → bytes_eq word dashes ≡ true
      → walked (rules flags) [] (at false rows pending waits) word ≡ at true rows pending waits
  dashes_met rows pending waits word is =
      walk_is rows pending waits word (held rows pending, trailing 1) (ap (λ (t : Bool). other_met t rows pending waits word) is)

  -- a word that is no flag
  plain_value : (rows : List Row) (pending : Option Text) (waits : Bool) (word : Text) → plain_word (rules flags) (wait_of waits) word (held rows pending) ≡ (held rows pending, value)
  plain_value rows pending true word = refl
  plain_value rows pending false word = refl

  looked : (rows : List Row) (pending : Option Text) (waits : Bool) (word : Text) → bytes_eq word dashes ≡ false → is_dashed word ≡ false
      → other_met (bytes_eq word dashes) rows pending waits word ≡ (held rows pending, value)
  looked rows pending waits word other not_dashed =
      let looks = plain_looks word not_dashed in
      ap (λ (t : Bool). other_met t rows pending waits word) other
      ∙ ap (λ (o : Option (Text × Option Text)). long_or_other (rules flags) (wait_of waits) word o (held rows pending)) looks.long
      ∙ ap (λ (o : Option Text). short_or_plain (rules flags) (wait_of waits) word o (held rows pending)) looks.short ∙ plain_value rows pending waits word

  pub plain_turn : (rows : List Row) (pending : Option Text) (waits : Bool) (word : Text) → bytes_eq word dashes ≡ false → is_dashed word ≡ false
      → is_fine (turn_fault (top name flags) [] (at false rows pending waits) word) ≡ true
  plain_turn rows pending waits word other not_dashed =
      let looks = plain_looks word not_dashed in
      let none : plain_fault (bytes_eq word dashes) rows pending word ≡ [] =
      ap (λ (t : Bool). plain_fault t rows pending word) other
      ∙ ap (λ (o : Option (Text × Option Text)). flag_word_fault (rules flags) true o word (held rows pending)) looks.long
      ∙ ap (λ (o : Option Text). option_map_or (λ letters. bundle_fault (rules flags) true letters (held rows pending)) o []) looks.short in
      ap is_fine (turn_is rows pending waits word ∙ ap₂ turned none (looked rows pending waits word other not_dashed) ∙ value_fault rows pending)

  pub plain_met : (rows : List Row) (pending : Option Text) (waits : Bool) (word : Text) → bytes_eq word dashes ≡ false → is_dashed word ≡ false
      → walked (rules flags) [] (at false rows pending waits) word ≡ at false (now pending rows) (Some word) true
  plain_met rows pending waits word other not_dashed =
      walk_is rows pending waits word (held rows pending, value) (looked rows pending waits word other not_dashed) ∙ value_met false rows pending waits word

  -- a word `--NAME`
  no_equals : (text : Text) → list_any (λ b. eqb b 61) text ≡ true → by_name flags text ≡ None
  no_equals text has = by (by_name flags text) refl
    where
      none_of : (flags : List Flag) (f : Flag) → by_name flags text ≡ Some f → list_all is_good flags ≡ true → bytes_eq f.name text ≡ true
      none_of [] f e all = absurd (cc)
      none_of (g ∷ flags) f e all = at_head (bytes_eq g.name text) refl e (λ rest. none_of flags f rest (and_parts (is_good g) (list_all is_good flags) all).1)
        where
          some_same : (a b : Flag) → Some a ≡ Some b → a ≡ b
          some_same a b e = cc

          at_head : (t : Bool) → bytes_eq g.name text ≡ t → cond t (Some g) (by_name flags text) ≡ Some f → (by_name flags text ≡ Some f → bytes_eq f.name text ≡ true) → bytes_eq f.name text ≡ true
          at_head true is e rest = ap (λ (f : Flag). bytes_eq f.name text) (sym (some_same g f e)) ∙ is
          at_head false is e rest = rest e

      by : (found : Option Flag) → by_name flags text ≡ found → found ≡ None
      by None is = refl
      by (Some f) is =
          let f_good = good_found (λ (f : Flag). bytes_eq f.name text) flags f good is in
          let none = not-true (list_any (λ b. eqb b 61) f.name) (and_parts (not (bytes_eq f.name word_id)) (not (list_any (λ b. eqb b 61) f.name)) (and_parts (ltb f.letter 128) (not (bytes_eq f.name word_id) && not (list_any (λ b. eqb b 61) f.name)) f_good).1).1 in
          absurd (true≢false (sym has ∙ ap (list_any (λ b. eqb b 61)) (sym (same_bytes f.name text (none_of flags f is good))) ∙ none))

  -- what a word of flags comes to
  pub record Flagged (word : Text) (rows : List Row) (pending : Option Text) (waits : Bool) : Type 0 where
    pub fault : is_fine (turn_fault (top name flags) [] (at false rows pending waits) word) ≡ is_some (named_behind flags (drop 1 word))
    pub met : (names : List Text) → named_behind flags (drop 1 word) ≡ Some names
        → (after : List Row) × Sets names (now pending rows) after × (walked (rules flags) [] (at false rows pending waits) word ≡ at false after None false)

  letters_turn : (b c : ℕ) (rest : Text) (rows : List Row) (pending : Option Text) (waits : Bool) → IsUtf8 (c ∷ rest) → bytes_eq (b ∷ c ∷ rest) dashes ≡ false
      → eqb b 45 ≡ true → eqb c 45 ≡ false → Flagged (b ∷ c ∷ rest) rows pending waits
  letters_turn b c rest rows pending waits text other first second =
      let word = b ∷ c ∷ rest in
      let looks = letters_look b c rest first second in
      let none : plain_fault (bytes_eq word dashes) rows pending word ≡ bundle_fault (rules flags) true (c ∷ rest) (held rows pending) =
      ap (λ (t : Bool). plain_fault t rows pending word) other
      ∙ ap (λ (o : Option (Text × Option Text)). flag_word_fault (rules flags) true o word (held rows pending)) looks.long
      ∙ ap (λ (o : Option Text). option_map_or (λ letters. bundle_fault (rules flags) true letters (held rows pending)) o []) looks.short in
      let met : other_met (bytes_eq word dashes) rows pending waits word
      ≡ after_flag (rules flags) (wait_of waits) word (bundle (rules flags) (c ∷ rest) (held rows pending)).0 (bundle (rules flags) (c ∷ rest) (held rows pending)).1 =
      ap (λ (t : Bool). other_met t rows pending waits word) other
      ∙ ap (λ (o : Option (Text × Option Text)). long_or_other (rules flags) (wait_of waits) word o (held rows pending)) looks.long
      ∙ ap (λ (o : Option Text). short_or_plain (rules flags) (wait_of waits) word o (held rows pending)) looks.short in
      let named : named_behind flags (c ∷ rest) ≡ named_by_letters flags (c ∷ rest) = rw second refl in
      let some : 0 < length (c ∷ rest) = omega arith in
      let fine = letters_fault flags good (c ∷ rest) (length (c ∷ rest)) rows pending text some (omega arith) in
      record {
        fault = by (named_by_letters flags (c ∷ rest)) refl none met fine named;
        met = λ names is.
            let meets = letters_met flags good (c ∷ rest) (length (c ∷ rest)) rows pending plain names text some (omega arith) (sym named ∙ is) in (
              meets.after,
              meets.sets,
              walk_is rows pending waits word (held meets.after None, next idle)
                  (met ∙ ap (λ (m : Held × Outcome). after_flag (rules flags) (wait_of waits) word m.0 m.1) meets.met),
            );
      }
    where
      by : (o : Option (List Text)) → named_by_letters flags (c ∷ rest) ≡ o
          → plain_fault (bytes_eq (b ∷ c ∷ rest) dashes) rows pending (b ∷ c ∷ rest) ≡ bundle_fault (rules flags) true (c ∷ rest) (held rows pending)
          → other_met (bytes_eq (b ∷ c ∷ rest) dashes) rows pending waits (b ∷ c ∷ rest)
          ≡ after_flag (rules flags) (wait_of waits) (b ∷ c ∷ rest) (bundle (rules flags) (c ∷ rest) (held rows pending)).0 (bundle (rules flags) (c ∷ rest) (held rows pending)).1
          → is_fine (bundle_fault (rules flags) true (c ∷ rest) (held rows pending)) ≡ is_some (named_by_letters flags (c ∷ rest))
          → named_behind flags (c ∷ rest) ≡ named_by_letters flags (c ∷ rest)
          → is_fine (turn_fault (top name flags) [] (at false rows pending waits) (b ∷ c ∷ rest)) ≡ is_some (named_behind flags (c ∷ rest))
      by None is none met fine named =
          ap is_fine (turn_is rows pending waits (b ∷ c ∷ rest)) ∙ fine_both _ _
          ∙ ap (λ (t : Bool). t && is_fine (step_fault (top name flags) 1 (other_met (bytes_eq (b ∷ c ∷ rest) dashes) rows pending waits (b ∷ c ∷ rest)).0 (other_met (bytes_eq (b ∷ c ∷ rest) dashes) rows pending waits (b ∷ c ∷ rest)).1))
          (ap is_fine none ∙ fine ∙ ap is_some is) ∙ sym (ap is_some (named ∙ is))
      by (Some names) is none met fine named =
          let meets = letters_met flags good (c ∷ rest) (length (c ∷ rest)) rows pending plain names text (omega arith) (omega arith) is in
          ap is_fine (turn_is rows pending waits (b ∷ c ∷ rest)) ∙ fine_both _ _
          ∙ ap₂ (λ (t u : Bool). t && u) (ap is_fine none ∙ fine ∙ ap is_some is)
          (ap (λ (m : Held × Step). is_fine (step_fault (top name flags) 1 m.0 m.1)) (met ∙ ap (λ (m : Held × Outcome). after_flag (rules flags) (wait_of waits) (b ∷ c ∷ rest) m.0 m.1) meets.met))
          ∙ sym (ap is_some (named ∙ is))

  name_turn : (b c d : ℕ) (rest : Text) (rows : List Row) (pending : Option Text) (waits : Bool) → bytes_eq (b ∷ c ∷ d ∷ rest) dashes ≡ false
      → eqb b 45 ≡ true → eqb c 45 ≡ true → Flagged (b ∷ c ∷ d ∷ rest) rows pending waits
  name_turn b c d rest rows pending waits other first second = by (list_any (λ b. eqb b 61) (d ∷ rest)) refl
    where
      word : Text
      word = b ∷ c ∷ d ∷ rest

      named : named_behind flags (c ∷ d ∷ rest) ≡ option_map (λ f. f.name ∷ []) (by_name flags (d ∷ rest))
      named = rw second refl

      faults : (p : Text × Option Text) → name_and_value (d ∷ rest) ≡ p
          → plain_fault (bytes_eq word dashes) rows pending word ≡ long_fault (rules flags) true (option_map flag_rule (by_name flags p.0)) p.1 (held rows pending)
      faults p is = ap (λ (t : Bool). plain_fault t rows pending word) other
          ∙ ap (λ (o : Option (Text × Option Text)). flag_word_fault (rules flags) true o word (held rows pending)) (name_looks b c d rest first second ∙ ap (λ (p : Text × Option Text). Some p) is)
          ∙ ap (λ o. long_fault (rules flags) true o p.1 (held rows pending)) (by_long flags p.0)

      mets : (p : Text × Option Text) → name_and_value (d ∷ rest) ≡ p → other_met (bytes_eq word dashes) rows pending waits word
          ≡ after_flag (rules flags) (wait_of waits) word (long_met (rules flags) (option_map flag_rule (by_name flags p.0)) p.1 (held rows pending)).0
          (long_met (rules flags) (option_map flag_rule (by_name flags p.0)) p.1 (held rows pending)).1
      mets p is = ap (λ (t : Bool). other_met t rows pending waits word) other
          ∙ ap (λ (o : Option (Text × Option Text)). long_or_other (rules flags) (wait_of waits) word o (held rows pending)) (name_looks b c d rest first second ∙ ap (λ (p : Text × Option Text). Some p) is)
          ∙ ap (λ o. after_flag (rules flags) (wait_of waits) word (long_met (rules flags) o p.1 (held rows pending)).0 (long_met (rules flags) o p.1 (held rows pending)).1) (by_long flags p.0)

      refused : (k : Kinds) → plain_fault (bytes_eq word dashes) rows pending word ≡ k → is_fine k ≡ false
          → is_fine (turn_fault (top name flags) [] (at false rows pending waits) word) ≡ false
      refused k is bad = ap is_fine (turn_is rows pending waits word) ∙ fine_both _ _
          ∙ ap (λ (t : Bool). t && is_fine (step_fault (top name flags) 1 (other_met (bytes_eq word dashes) rows pending waits word).0 (other_met (bytes_eq word dashes) rows pending waits word).1)) (ap is_fine is ∙ bad)

      long_refused : (found : Option Flag) (v : Text) → is_fine (long_fault (rules flags) true (option_map flag_rule found) (Some v) (held rows pending)) ≡ false
      long_refused None v = refl
      long_refused (Some f) v = refl

      some_same : (a b : List Text) → Some a ≡ Some b → a ≡ b
      some_same a b e = cc

      by_found : (found : Option Flag) → by_name flags (d ∷ rest) ≡ found → list_any (λ b. eqb b 61) (d ∷ rest) ≡ false → Flagged word rows pending waits
      by_found None is none = record {
        fault = refused (long_fault (rules flags) true None None (held rows pending))
            (faults (d ∷ rest, None) (name_alone (d ∷ rest) none) ∙ ap (λ (o : Option Flag). long_fault (rules flags) true (option_map flag_rule o) None (held rows pending)) is) refl
            ∙ sym (ap is_some (named ∙ ap (option_map (λ (f : Flag). f.name ∷ [])) is));
        met = λ names named_so. let never : None ≡ Some names = sym (named ∙ ap (option_map (λ (f : Flag). f.name ∷ [])) is) ∙ named_so in absurd (cc never);
      }
      by_found (Some f) is none =
          let f_good = good_found (λ (f : Flag). bytes_eq f.name (d ∷ rest)) flags f good is in
          let fine : plain_fault (bytes_eq word dashes) rows pending word ≡ [] =
          faults (d ∷ rest, None) (name_alone (d ∷ rest) none) ∙ ap (λ (o : Option Flag). long_fault (rules flags) true (option_map flag_rule o) None (held rows pending)) is
          ∙ react_none flags good f rows pending in
          let met : other_met (bytes_eq word dashes) rows pending waits word ≡ (held (set f (now pending rows)) None, next idle) =
          mets (d ∷ rest, None) (name_alone (d ∷ rest) none)
          ∙ ap (λ (o : Option Flag). after_flag (rules flags) (wait_of waits) word (long_met (rules flags) (option_map flag_rule o) None (held rows pending)).0
          (long_met (rules flags) (option_map flag_rule o) None (held rows pending)).1) is
          ∙ ap (λ (h : Held). (h, next idle)) (reacted_is flags good f rows pending) in
          record {
            fault = ap is_fine (turn_is rows pending waits word ∙ ap₂ turned fine met) ∙ sym (ap is_some (named ∙ ap (option_map (λ (f : Flag). f.name ∷ [])) is));
            met = λ names named_so. (
              set f (now pending rows),
              subst (λ (n : List Text). Sets n (now pending rows) (set f (now pending rows)))
                  (some_same (f.name ∷ []) names (sym (named ∙ ap (option_map (λ (f : Flag). f.name ∷ [])) is) ∙ named_so)) (sets_one f (now pending rows) f_good),
              walk_is rows pending waits word (held (set f (now pending rows)) None, next idle) met,
            );
          }

      by : (t : Bool) → list_any (λ b. eqb b 61) (d ∷ rest) ≡ t → Flagged word rows pending waits
      by true has =
          let none = named ∙ ap (option_map (λ (f : Flag). f.name ∷ [])) (no_equals (d ∷ rest) has) in
          let p = name_and_value (d ∷ rest) in
          let has_value : (name_and_value (d ∷ rest)).1 ≡ Some (after_first (λ x. eqb x 61) (d ∷ rest)) = rw has refl in
          record {
            fault = refused (long_fault (rules flags) true (option_map flag_rule (by_name flags p.0)) p.1 (held rows pending)) (faults p refl)
                (ap (λ (v : Option Text). is_fine (long_fault (rules flags) true (option_map flag_rule (by_name flags p.0)) v (held rows pending))) has_value ∙ long_refused (by_name flags p.0) (after_first (λ x. eqb x 61) (d ∷ rest)))
                ∙ sym (ap is_some none);
            met = λ names named_so. let never : None ≡ Some names = sym none ∙ named_so in absurd (cc never);
          }
      by false none = by_found (by_name flags (d ∷ rest)) refl none

  two_dashes : (b c : ℕ) → eqb b 45 ≡ true → eqb c 45 ≡ true → bytes_eq (b ∷ c ∷ []) dashes ≡ true
  two_dashes b c first second = rw (first, second) refl

  -- a word that begins with a dash
  pub flags_turn : (word : Text) (rows : List Row) (pending : Option Text) (waits : Bool) → IsUtf8 word → bytes_eq word dashes ≡ false → is_dashed word ≡ true
      → Flagged word rows pending waits
  flags_turn [] rows pending waits text other dashed = absurd (true≢false (sym dashed))
  flags_turn (b ∷ []) rows pending waits text other dashed = absurd (true≢false (sym dashed))
  flags_turn (b ∷ c ∷ rest) rows pending waits text other dashed = by (eqb c 45) refl rest text other
    where
      by : (t : Bool) → eqb c 45 ≡ t → (rest : Text) → IsUtf8 (b ∷ c ∷ rest) → bytes_eq (b ∷ c ∷ rest) dashes ≡ false → Flagged (b ∷ c ∷ rest) rows pending waits
      by false second rest text other =
          let low : b < 128 = omega (arith, eqb-true b 45 dashed) in
          letters_turn b c rest rows pending waits (IsUtf8-past_char (b ∷ c ∷ rest) (c ∷ rest) b text (sym (ap (λ (l : List ℕ). l ++ c ∷ rest) (encode_ascii b low)))) other dashed second
      by true second [] text other = absurd (true≢false (sym (two_dashes b c dashed second) ∙ other))
      by true second (d ∷ rest) text other = name_turn b c d rest rows pending waits other dashed second
