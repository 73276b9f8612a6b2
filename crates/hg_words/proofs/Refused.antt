-- Which words `clap` refuses, and what it has read of those that it takes.
use Rattle.std.proofs.Common.{◌≡◌, Bool, true, false, cond, not, ◌||◌, ◌&&◌, List, [], ◌∷◌, ◌++◌, map, drop, fold, Option, Some, None, is_some, refl, sym, ap, ap₂, ◌∙◌}
use Rattle.std.specs.Prelude.{codes}
use Rattle.std.specs.List.{list_all, list_any}
use Rattle.std.specs.Option.{option_and_then, option_map}
use Rattle.std.specs.Str.{bytes_eq}
use Rattle.std.proofs.lemmas.Bool.{and_parts}
use Rattle.hg_words.specs.Command.{Flag, Parted, is_dashed, is_given, named_behind, parted_of, with_flags, with_word}
use Rattle.hg_words.proofs.Letters.{fine_both, flag_rule, good_name, is_fine, now, rules, word_rule}
use Rattle.hg_words.proofs.Parsed.{by_kind, walk_ends}
use Rattle.hg_words.proofs.Rows.{default_sets_none, put_keeps, set_where_row}
use Rattle.hg_words.specs.Clapped.{AreTexts, Parts, app, flag_arg, given, is_good, is_set, word_arg, word_id}
use Rattle.hg_words.proofs.Turns.{at, dashes, dashes_fault, dashes_met, flags_turn, plain_met, plain_turn, top, trailing_fault, trailing_met}
use Rattle.clap.specs.Kinds.{Kinds, check_kinds, or_else}
use Rattle.clap.specs.Faults.{built_fault, check_fault, defaults_fault, fault_of, settle_fault, turn_fault, walk_fault}
use Rattle.clap.specs.Simple.{App, built, filled_from, matches_of, names_of}
use Rattle.clap.specs.Takes.{is_given as was_given}
use Rattle.clap.specs.Walk.{Row, Rule, Text, Walk, finished, has_row, nothing_held, reading_by, rows_after, settled, walked, with_default, with_values}
use Rattle.clap.specs.declared.parser.matches.ValueSource.TheVariants.{DefaultValue}
use Rattle.clap.proofs.FaultLemmas.{leaf_fault}

rules_built : (flags : List Flag) → filled_from 1 (map flag_arg flags ++ word_arg ∷ []) ≡ rules flags
rules_built [] = refl
rules_built (f ∷ flags) = ap (λ (l : List Rule). flag_rule f ∷ l) (rules_built flags)

pub app_built : (name : Text) (flags : List Flag) → built (app name flags) ≡ record { top = top name flags; subs = [] }
app_built name flags = ap (λ (l : List Rule). record { top = record (top name flags) { rules = l }; subs = [] }) (rules_built flags)

module _ (name : Text) (flags : List Flag) (good : list_all is_good flags ≡ true) where
  abbrev fine_walk : Walk → List Text → Bool
  fine_walk w words = is_fine (walk_fault (top name flags) [] w words)

  one_word : (w after : Walk) (word : Text) (words : List Text) → walked (rules flags) [] w word ≡ after
      → fine_walk w (word ∷ words) ≡ (is_fine (turn_fault (top name flags) [] w word) && fine_walk after words)
  unfolding walk_fault
  one_word w after word words is =
      fine_both (turn_fault (top name flags) [] w word) (walk_fault (top name flags) [] (walked (rules flags) [] w word) words)
      ∙ ap (λ (v : Walk). is_fine (turn_fault (top name flags) [] w word) && fine_walk v words) is

  refused_word : (w : Walk) (word : Text) (words : List Text) → is_fine (turn_fault (top name flags) [] w word) ≡ false → fine_walk w (word ∷ words) ≡ false
  unfolding walk_fault
  refused_word w word words is =
      fine_both (turn_fault (top name flags) [] w word) (walk_fault (top name flags) [] (walked (rules flags) [] w word) words)
      ∙ ap (λ (t : Bool). t && fine_walk (walked (rules flags) [] w word) words) is

  no_words : (w : Walk) → fine_walk w [] ≡ true
  unfolding walk_fault
  no_words w = refl

  trailing_fine : (words : List Text) (rows : List Row) (pending : Option Text) (waits : Bool) → fine_walk (at true rows pending waits) words ≡ true
  trailing_fine [] rows pending waits = no_words (at true rows pending waits)
  trailing_fine (word ∷ words) rows pending waits =
      one_word (at true rows pending waits) (at true (now pending rows) (Some word) true) word words (trailing_met name flags good rows pending waits word)
      ∙ ap₂ (λ (t u : Bool). t && u) (trailing_fault name flags good rows pending waits word) (trailing_fine words (now pending rows) (Some word) true)

  -- the walk fails exactly where the words aren't parted
  walk_fine : (words : List Text) (rows : List Row) (pending : Option Text) (waits : Bool) → AreTexts words → fine_walk (at false rows pending waits) words ≡ is_some (parted_of flags words)
  walk_fine [] rows pending waits texts = no_words (at false rows pending waits)
  walk_fine (word ∷ words) rows pending waits texts = by (bytes_eq word dashes) refl (is_dashed word) refl (λ r p w. walk_fine words r p w texts.1)
    where
      later : Type 0
      later = (r : List Row) (p : Option Text) (w : Bool) → fine_walk (at false r p w) words ≡ is_some (parted_of flags words)

      some_mapped : (f : Parted → Parted) (o : Option Parted) → is_some o ≡ is_some (option_map f o)
      some_mapped f None = refl
      some_mapped f (Some p) = refl

      by_flags : (named : Option (List Text)) → named_behind flags (drop 1 word) ≡ named → bytes_eq word dashes ≡ false → is_dashed word ≡ true → later
          → fine_walk (at false rows pending waits) (word ∷ words) ≡ is_some (option_and_then (λ names. option_map (with_flags names) (parted_of flags words)) named)
      by_flags None named_is other dashed rest =
          refused_word (at false rows pending waits) word words ((flags_turn name flags good word rows pending waits texts.0 other dashed).fault ∙ ap is_some named_is)
      by_flags (Some names) named_is other dashed rest =
          let turn = flags_turn name flags good word rows pending waits texts.0 other dashed in
          let met = turn.met names named_is in
          one_word (at false rows pending waits) (at false met.0 None false) word words met.2
          ∙ ap₂ (λ (t u : Bool). t && u) (turn.fault ∙ ap is_some named_is) (rest met.0 None false ∙ some_mapped (with_flags names) (parted_of flags words))

      by : (t : Bool) → bytes_eq word dashes ≡ t → (u : Bool) → is_dashed word ≡ u → later
          → fine_walk (at false rows pending waits) (word ∷ words) ≡ is_some (by_kind name flags good (bytes_eq word dashes) (is_dashed word) word words)
      by true t_is u u_is rest =
          one_word (at false rows pending waits) (at true rows pending waits) word words (dashes_met name flags good rows pending waits word t_is)
          ∙ ap₂ (λ (t u : Bool). t && u) (dashes_fault name flags good rows pending waits word t_is) (trailing_fine words rows pending waits)
          ∙ sym (ap (λ (t : Bool). is_some (by_kind name flags good t (is_dashed word) word words)) t_is)
      by false t_is true u_is rest =
          by_flags (named_behind flags (drop 1 word)) refl t_is u_is rest ∙ sym (ap₂ (λ (t u : Bool). is_some (by_kind name flags good t u word words)) t_is u_is)
      by false t_is false u_is rest =
          one_word (at false rows pending waits) (at false (now pending rows) (Some word) true) word words (plain_met name flags good rows pending waits word t_is u_is)
          ∙ ap₂ (λ (t u : Bool). t && u) (plain_turn name flags good rows pending waits word t_is u_is) (rest (now pending rows) (Some word) true ∙ some_mapped (with_word word) (parted_of flags words))
          ∙ sym (ap₂ (λ (t u : Bool). is_some (by_kind name flags good t u word words)) t_is u_is)

  -- ---- behind the words: defaults, and what has to be there

  defaults_fine : (flags : List Flag) (rows : List Row) → defaults_fault rows (rules flags) ≡ []
  unfolding defaults_fault
  defaults_fine [] rows = by (has_row word_id rows)
    where
      by : (t : Bool) → or_else (cond (t || true) [] []) [] ≡ []
      by true = refl
      by false = refl
  defaults_fine (f ∷ flags) rows = by (has_row f.name rows) (with_default rows (flag_rule f)) ∙ defaults_fine flags (with_default rows (flag_rule f))
    where
      by : (t : Bool) (next : List Row) → or_else (cond (t || false) [] []) (defaults_fault next (rules flags)) ≡ defaults_fault next (rules flags)
      by true next = refl
      by false next = refl

  none_required : (flags : List Flag) (rows : List Row) → list_any (λ (a : Rule). a.required && not (was_given a.id rows)) (rules flags) ≡ false
  none_required [] rows = refl
  none_required (f ∷ flags) rows = none_required flags rows

  check_fine : (rows : List Row) → check_fault (top name flags) rows false ≡ []
  check_fine rows = ap (λ (t : Bool). check_kinds false false t) (none_required flags rows)

  -- `clap` refuses the words exactly where they aren't parted
  pub refuses : (all : List Text) → AreTexts (drop 1 all) → is_fine (fault_of (app name flags) all) ≡ is_some (parted_of flags (drop 1 all))
  refuses all texts = ap is_fine level ∙ by (parted_of flags words) refl
    where
      words : List Text
      words = drop 1 all

      end : Walk
      end = fold (walked (rules flags) []) (at false [] None false) words

      behind : Kinds
      behind = or_else (settle_fault (rules flags) true end.held)
          (or_else (defaults_fault (settled (rules flags) end.held).rows (rules flags)) (check_fault (top name flags) (finished (rules flags) end.held) false))

      level : fault_of (app name flags) all ≡ or_else (walk_fault (top name flags) [] (at false [] None false) words) behind
      level = ap (λ (a : App). built_fault a nothing_held words) (app_built name flags)
          ∙ leaf_fault (record { top = top name flags; subs = [] }) nothing_held words refl

      by : (o : Option Parted) → parted_of flags words ≡ o → is_fine (or_else (walk_fault (top name flags) [] (at false [] None false) words) behind) ≡ is_some (parted_of flags words)
      by None is =
          fine_both (walk_fault (top name flags) [] (at false [] None false) words) behind
          ∙ ap (λ (t : Bool). t && is_fine behind) (walk_fine words [] None false texts ∙ ap is_some is) ∙ sym (ap is_some is)
      by (Some parted) is =
          let ends = walk_ends name flags good words [] None false parted texts is in
          let rest : behind ≡ [] =
          ap (λ (k : Kinds). or_else k (or_else (defaults_fault (settled (rules flags) end.held).rows (rules flags)) (check_fault (top name flags) (finished (rules flags) end.held) false))) ends.settles
          ∙ ap (λ (k : Kinds). or_else k (check_fault (top name flags) (finished (rules flags) end.held) false)) (defaults_fine flags (settled (rules flags) end.held).rows)
          ∙ check_fine (finished (rules flags) end.held) in
          fine_both (walk_fault (top name flags) [] (at false [] None false) words) behind
          ∙ ap₂ (λ (t u : Bool). t && u) (walk_fine words [] None false texts ∙ ap is_some is) (ap is_fine rest) ∙ sym (ap is_some is)

  -- ---- the matches

  default_keeps : (f : Flag) (rows : List Row) → is_good f ≡ true → given (with_default rows (flag_rule f)) ≡ given rows
  default_keeps f rows f_good = by (has_row f.name rows)
    where
      by : (t : Bool) → given (cond t rows (with_values f.name (reading_by (flag_rule f)) DefaultValue (codes "false" ∷ []) rows)) ≡ given rows
      by true = refl
      by false = put_keeps f.name (reading_by (flag_rule f)) DefaultValue (codes "false" ∷ []) rows (good_name f f_good)

  default_sets : (f : Flag) (rows : List Row) (flag : Text) → is_set flag (with_default rows (flag_rule f)) ≡ is_set flag rows
  default_sets f rows flag = by (has_row f.name rows) refl
    where
      by : (t : Bool) → has_row f.name rows ≡ t → is_set flag (cond t rows (with_values f.name (reading_by (flag_rule f)) DefaultValue (codes "false" ∷ []) rows)) ≡ is_set flag rows
      by true is = refl
      by false is = default_sets_none f.name (reading_by (flag_rule f)) DefaultValue (codes "false" ∷ []) flag rows is refl

  no_default : (rows : List Row) → with_default rows word_rule ≡ rows
  no_default rows = by (has_row word_id rows)
    where
      by : (t : Bool) → cond t rows rows ≡ rows
      by true = refl
      by false = refl

  finished_given : (flags : List Flag) (rows : List Row) → list_all is_good flags ≡ true → given (fold with_default rows (rules flags)) ≡ given rows
  finished_given [] rows all = ap given (no_default rows)
  finished_given (f ∷ flags) rows all =
      let parts = and_parts (is_good f) (list_all is_good flags) all in
      finished_given flags (with_default rows (flag_rule f)) parts.1 ∙ default_keeps f rows parts.0

  finished_set : (flags : List Flag) (rows : List Row) (flag : Text) → is_set flag (fold with_default rows (rules flags)) ≡ is_set flag rows
  finished_set [] rows flag = ap (is_set flag) (no_default rows)
  finished_set (f ∷ flags) rows flag = finished_set flags (with_default rows (flag_rule f)) flag ∙ default_sets f rows flag

  -- what it has read of the words that it takes
  pub reads : (all : List Text) (parted : Parted) → AreTexts (drop 1 all) → parted_of flags (drop 1 all) ≡ Some parted → Parts flags (drop 1 all) (matches_of (app name flags) all)
  reads all parted texts is =
      let words = drop 1 all in
      let end = fold (walked (rules flags) []) (at false [] None false) words in
      let rows = (settled (rules flags) end.held).rows in
      let ends = walk_ends name flags good words [] None false parted texts is in
      let matches : matches_of (app name flags) all ≡ fold with_default rows (rules flags) =
      ap (λ (a : App). rows_after a.top.rules (names_of a) words) (app_built name flags) in
      record {
        parted = parted;
        is = is;
        others = ap given matches ∙ finished_given flags rows good ∙ ends.words;
        set = λ flag other same. ap (is_set flag) matches ∙ finished_set flags rows flag ∙ set_where_row flag rows other (ends.flagged refl) ∙ ends.flags_set flag same
            ∙ or_none (is_given flag parted);
      }
    where
      or_none : (t : Bool) → (t || false) ≡ t
      or_none true = refl
      or_none false = refl
