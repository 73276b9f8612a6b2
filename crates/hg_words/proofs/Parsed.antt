-- All words of a command, as `clap` reads them.
use Rattle.std.proofs.Common.{◌≡◌, Bool, true, false, cond, ◌||◌, List, [], ◌∷◌, ◌++◌, drop, fold, Option, Some, None, refl, sym, ap, ap₂, ◌∙◌, subst, append_assoc, append-nil}
use Rattle.std.specs.List.{list_all, list_any}
use Rattle.std.specs.Option.{option_and_then, option_map}
use Rattle.std.specs.Str.{bytes_eq}
use Rattle.hg_words.specs.Command.{Flag, Parted, is_dashed, named_behind, parted_of, with_flags, with_word}
use Rattle.hg_words.proofs.Letters.{Sets, now, rules, settle_none, settled_is, word_rule}
use Rattle.hg_words.proofs.Rows.{is_flagged, put_flagged, put_row, put_word}
use Rattle.hg_words.specs.Clapped.{AreTexts, given, is_good, word_id}
use Rattle.hg_words.proofs.Turns.{at, dashes, dashes_met, flags_turn, plain_met, trailing_met}
use Rattle.clap.specs.Faults.{settle_fault}
use Rattle.clap.specs.Walk.{Held, Row, Text, Walk, has_row, reading_by, settled, walked}
use Rattle.clap.specs.declared.parser.matches.ValueSource.TheVariants.{CommandLine}

-- what the walk has read at its end
pub record Ends (flags : List Flag) (w : Walk) (rows : List Row) (parted : Parted) : Type 0 where
  pub settles : settle_fault (rules flags) true w.held ≡ []
  pub flagged : list_all is_flagged rows ≡ true → list_all is_flagged (settled (rules flags) w.held).rows ≡ true
  pub words : given (settled (rules flags) w.held).rows ≡ given rows ++ parted.words
  pub flags_set : (name : Text) → bytes_eq word_id name ≡ false
      → has_row name (settled (rules flags) w.held).rows ≡ (list_any (λ given. bytes_eq given name) parted.flags || has_row name rows)

module _ (name : Text) (flags : List Flag) (good : list_all is_good flags ≡ true) where
  ends_here : (is_trailing : Bool) (rows : List Row) (pending : Option Text) (waits : Bool) → Ends flags (at is_trailing rows pending waits) (now pending rows) (record { flags = []; words = [] })
  ends_here is_trailing rows pending waits =
      let same = settled_is flags good rows pending in
      record {
        settles = settle_none flags good rows pending;
        flagged = λ all. ap (λ (h : Held). list_all is_flagged h.rows) same ∙ all;
        words = ap (λ (h : Held). given h.rows) same ∙ sym (append-nil (given (now pending rows)));
        flags_set = λ name other. ap (λ (h : Held). has_row name h.rows) same;
      }

  -- one word more in front
  word_before : (w : Walk) (rows : List Row) (word : Text) (parted : Parted) → Ends flags w (now (Some word) rows) parted → Ends flags w rows (with_word word parted)
  word_before w rows word parted ends = record {
    settles = ends.settles;
    flagged = λ all. ends.flagged (put_flagged word_id (reading_by word_rule) CommandLine (word ∷ []) rows refl all);
    words = ends.words ∙ ap (λ (l : List Text). l ++ parted.words) (put_word (reading_by word_rule) CommandLine (word ∷ []) rows) ∙ append_assoc (given rows) (word ∷ []) parted.words;
    flags_set = λ name other. ends.flags_set name other
        ∙ ap (λ (t : Bool). list_any (λ given. bytes_eq given name) parted.flags || t)
        (put_row word_id (reading_by word_rule) CommandLine (word ∷ []) name rows ∙ ap (λ (t : Bool). t || has_row name rows) other);
  }

  any_both : (name : Text) (xs ys : List Text) (t : Bool)
      → (list_any (λ given. bytes_eq given name) ys || (list_any (λ given. bytes_eq given name) xs || t)) ≡ (list_any (λ given. bytes_eq given name) (xs ++ ys) || t)
  any_both name [] ys t = refl
  any_both name (x ∷ xs) ys t = by (bytes_eq x name) (list_any (λ given. bytes_eq given name) ys) (any_both name xs ys t)
    where
      by : (a b : Bool) → (b || (list_any (λ given. bytes_eq given name) xs || t)) ≡ (list_any (λ given. bytes_eq given name) (xs ++ ys) || t)
          → (b || ((a || list_any (λ given. bytes_eq given name) xs) || t)) ≡ ((a || list_any (λ given. bytes_eq given name) (xs ++ ys)) || t)
      by true true rest = refl
      by true false rest = refl
      by false b rest = rest

  flags_before : (w : Walk) (rows after : List Row) (names : List Text) (parted : Parted) → Sets names rows after → Ends flags w after parted → Ends flags w rows (with_flags names parted)
  flags_before w rows after names parted sets ends = record {
    settles = ends.settles;
    flagged = λ all. ends.flagged (sets.flagged all);
    words = ends.words ∙ ap (λ (l : List Text). l ++ parted.words) sets.words;
    flags_set = λ name other. ends.flags_set name other ∙ ap (λ (t : Bool). list_any (λ given. bytes_eq given name) parted.flags || t) (sets.flags name)
        ∙ any_both name names parted.flags (has_row name rows);
  }

  abbrev walks : Walk → List Text → Walk
  walks w words = fold (walked (rules flags) []) w words

  moved : (w after : Walk) (word : Text) (words : List Text) (rows : List Row) (parted : Parted) → walked (rules flags) [] w word ≡ after → Ends flags (walks after words) rows parted
      → Ends flags (walks w (word ∷ words)) rows parted
  moved w after word words rows parted is ends = subst (λ (v : Walk). Ends flags (walks v words) rows parted) (sym is) ends

  parted_some : (a b : Parted) → Some a ≡ Some b → a ≡ b
  parted_some a b e = cc

  abbrev pub by_kind : Bool → Bool → Text → List Text → Option Parted
  by_kind is_dashes dashed word words =
      cond is_dashes (Some (record { flags = []; words = words }))
      (cond dashed (option_and_then (λ names. option_map (with_flags names) (parted_of flags words)) (named_behind flags (drop 1 word))) (option_map (with_word word) (parted_of flags words)))

  trailing_ends : (words : List Text) (rows : List Row) (pending : Option Text) (waits : Bool)
      → Ends flags (walks (at true rows pending waits) words) (now pending rows) (record { flags = []; words = words })
  trailing_ends [] rows pending waits = ends_here true rows pending waits
  trailing_ends (word ∷ words) rows pending waits =
      moved (at true rows pending waits) (at true (now pending rows) (Some word) true) word words (now pending rows) (record { flags = []; words = word ∷ words })
      (trailing_met name flags good rows pending waits word)
      (word_before (walks (at true (now pending rows) (Some word) true) words) (now pending rows) word (record { flags = []; words = words }) (trailing_ends words (now pending rows) (Some word) true))

  pub walk_ends : (words : List Text) (rows : List Row) (pending : Option Text) (waits : Bool) (parted : Parted) → AreTexts words → parted_of flags words ≡ Some parted
      → Ends flags (walks (at false rows pending waits) words) (now pending rows) parted
  walk_ends [] rows pending waits parted texts is =
      subst (λ (p : Parted). Ends flags (at false rows pending waits) (now pending rows) p) (parted_some (record { flags = []; words = [] }) parted is) (ends_here false rows pending waits)
  walk_ends (word ∷ words) rows pending waits parted texts is =
      by (bytes_eq word dashes) refl (is_dashed word) refl is (λ r p w q e. walk_ends words r p w q texts.1 e)
    where
      later : Type 0
      later = (r : List Row) (p : Option Text) (w : Bool) (q : Parted) → parted_of flags words ≡ Some q → Ends flags (walks (at false r p w) words) (now p r) q

      by_plain : (o : Option Parted) → parted_of flags words ≡ o → option_map (with_word word) o ≡ Some parted → bytes_eq word dashes ≡ false → is_dashed word ≡ false → later
          → Ends flags (walks (at false rows pending waits) (word ∷ words)) (now pending rows) parted
      by_plain None o_is e other not_dashed rest = absurd (cc)
      by_plain (Some q) o_is e other not_dashed rest =
          moved (at false rows pending waits) (at false (now pending rows) (Some word) true) word words (now pending rows) parted (plain_met name flags good rows pending waits word other not_dashed)
          (subst (λ (p : Parted). Ends flags (walks (at false (now pending rows) (Some word) true) words) (now pending rows) p) (parted_some (with_word word q) parted e)
          (word_before (walks (at false (now pending rows) (Some word) true) words) (now pending rows) word q (rest (now pending rows) (Some word) true q o_is)))

      by_flags : (named : Option (List Text)) → named_behind flags (drop 1 word) ≡ named → (o : Option Parted) → parted_of flags words ≡ o
          → option_and_then (λ names. option_map (with_flags names) o) named ≡ Some parted → bytes_eq word dashes ≡ false → is_dashed word ≡ true → later
          → Ends flags (walks (at false rows pending waits) (word ∷ words)) (now pending rows) parted
      by_flags None named_is o o_is e other dashed rest = absurd (cc)
      by_flags (Some names) named_is None o_is e other dashed rest = absurd (cc)
      by_flags (Some names) named_is (Some q) o_is e other dashed rest =
          let turn = flags_turn name flags good word rows pending waits texts.0 other dashed in
          let met = turn.met names named_is in
          moved (at false rows pending waits) (at false met.0 None false) word words (now pending rows) parted met.2
          (subst (λ (p : Parted). Ends flags (walks (at false met.0 None false) words) (now pending rows) p) (parted_some (with_flags names q) parted e)
          (flags_before (walks (at false met.0 None false) words) (now pending rows) met.0 names q met.1 (rest met.0 None false q o_is)))

      by : (t : Bool) → bytes_eq word dashes ≡ t → (u : Bool) → is_dashed word ≡ u → by_kind (bytes_eq word dashes) (is_dashed word) word words ≡ Some parted → later
          → Ends flags (walks (at false rows pending waits) (word ∷ words)) (now pending rows) parted
      by true t_is u u_is e rest =
          moved (at false rows pending waits) (at true rows pending waits) word words (now pending rows) parted (dashes_met name flags good rows pending waits word t_is)
          (subst (λ (p : Parted). Ends flags (walks (at true rows pending waits) words) (now pending rows) p)
          (parted_some (record { flags = []; words = words }) parted (sym (ap (λ (t : Bool). by_kind t (is_dashed word) word words) t_is) ∙ e)) (trailing_ends words rows pending waits))
      by false t_is true u_is e rest =
          by_flags (named_behind flags (drop 1 word)) refl (parted_of flags words) refl (sym (ap₂ (λ (t u : Bool). by_kind t u word words) t_is u_is) ∙ e) t_is u_is rest
      by false t_is false u_is e rest = by_plain (parted_of flags words) refl (sym (ap₂ (λ (t u : Bool). by_kind t u word words) t_is u_is) ∙ e) t_is u_is rest
