-- What the rows of a parse say of flags and of words.
use Rattle.std.proofs.Common.{◌≡◌, Bool, true, false, cond, ◌||◌, List, [], ◌∷◌, ◌++◌, Some, None, refl, sym, ap, ◌∙◌, true≢false}
use Rattle.std.specs.Prelude.{codes, find, slice_get}
use Rattle.std.specs.List.{list_all}
use Rattle.std.specs.Option.{option_and_then}
use Rattle.std.specs.Str.{bytes_eq}
use Rattle.std.proofs.lemmas.Bool.{and_parts, and_from}
use Rattle.hg_base.proofs.Within.{same_bytes}
use Rattle.hg_words.specs.Clapped.{given, is_set, is_true, values_of_row, word_id}
use Rattle.clap.specs.Walk.{Row, Text, has_row, more_values, with_values, without}
use Rattle.clap.specs.declared.builder.value_parser.Reading.{Reading}
use Rattle.clap.specs.declared.parser.matches.ValueSource.{ValueSource}

abbrev pub begins_true : List Text → Bool
begins_true [] = false
begins_true (v ∷ values) = bytes_eq v (codes "true")

-- a row is that of the words, or of a flag that is set
abbrev pub is_flagged : Row → Bool
is_flagged r = bytes_eq r.id word_id || begins_true r.values

begins_sets : (values : List Text) → begins_true values ≡ true → is_true (slice_get values 0) ≡ true
begins_sets [] e = e
begins_sets (v ∷ values) e = e

or_second : (a b : Bool) → a ≡ false → (a || b) ≡ true → b ≡ true
or_second false b e h = h
or_second true b e h = absurd (true≢false e)

or_false : (a b : Bool) → (a || b) ≡ false → (a ≡ false) × (b ≡ false)
or_false false b e = (refl, e)
or_false true b e = absurd (true≢false e)

other_name : (a b c : Text) → bytes_eq a b ≡ true → bytes_eq b c ≡ false → bytes_eq a c ≡ false
other_name a b c same other = ap (λ (t : Text). bytes_eq t c) (same_bytes a b same) ∙ other

-- where all rows are so, a flag is set that has a row
pub set_where_row : (name : Text) (rows : List Row) → bytes_eq name word_id ≡ false → list_all is_flagged rows ≡ true → is_set name rows ≡ has_row name rows
set_where_row name [] other all = refl
set_where_row name (r ∷ rows) other all = by (bytes_eq r.id name) (set_where_row name rows other parts.1) refl
  where
    parts : (is_flagged r ≡ true) × (list_all is_flagged rows ≡ true)
    parts = and_parts (is_flagged r) (list_all is_flagged rows) all

    by : (t : Bool) → is_set name rows ≡ has_row name rows → bytes_eq r.id name ≡ t
        → is_true (option_and_then (λ (x : Row). slice_get x.values 0) (cond t (Some r) (find (λ (x : Row). bytes_eq x.id name) rows))) ≡ (t || has_row name rows)
    by true rest e = begins_sets r.values (or_second (bytes_eq r.id word_id) (begins_true r.values) (other_name r.id name word_id e other) parts.0)
    by false rest e = rest

-- ---- one more use

turn_or : (a b c : Bool) → (a || (b || c)) ≡ (b || (a || c))
turn_or true true c = refl
turn_or true false c = refl
turn_or false b c = refl

twice_or : (a b : Bool) → (a || b) ≡ (a || (a || b))
twice_or true b = refl
twice_or false b = refl

module _ (id : Text) (how : Reading) (s : ValueSource) (values : List Text) where
  -- its row is there then
  pub put_row : (name : Text) (rows : List Row) → has_row name (with_values id how s values rows) ≡ (bytes_eq id name || has_row name rows)
  put_row name [] = refl
  put_row name (r ∷ rows) = by (bytes_eq r.id id) (put_row name rows) refl
    where
      by : (t : Bool) → has_row name (with_values id how s values rows) ≡ (bytes_eq id name || has_row name rows) → bytes_eq r.id id ≡ t → has_row name (cond t (more_values s values r ++ rows) (r ∷ with_values id how s values rows))
          ≡ (bytes_eq id name || (bytes_eq r.id name || has_row name rows))
      by true rest e =
          let same : r.id ≡ id = same_bytes r.id id e in
          twice_or (bytes_eq r.id name) (has_row name rows) ∙ ap (λ (t : Text). bytes_eq t name || (bytes_eq r.id name || has_row name rows)) same
      by false rest e = ap (λ (t : Bool). bytes_eq r.id name || t) rest ∙ turn_or (bytes_eq r.id name) (bytes_eq id name) (has_row name rows)

  more_true : (r : Row) → is_flagged r ≡ true → (bytes_eq r.id word_id || begins_true (r.values ++ values)) ≡ true
  more_true r h = by (bytes_eq r.id word_id) r.values h
    where
      by : (t : Bool) (old : List Text) → (t || begins_true old) ≡ true → (t || begins_true (old ++ values)) ≡ true
      by true old e = refl
      by false [] e = absurd (true≢false (sym e))
      by false (v ∷ old) e = e

  -- and all rows are as they should
  pub put_flagged : (rows : List Row) → (bytes_eq id word_id || begins_true values) ≡ true → list_all is_flagged rows ≡ true → list_all is_flagged (with_values id how s values rows) ≡ true
  put_flagged [] new all = and_from (bytes_eq id word_id || begins_true values) true new refl
  put_flagged (r ∷ rows) new all = by (bytes_eq r.id id) (put_flagged rows new parts.1)
    where
      parts : (is_flagged r ≡ true) × (list_all is_flagged rows ≡ true)
      parts = and_parts (is_flagged r) (list_all is_flagged rows) all

      by : (t : Bool) → list_all is_flagged (with_values id how s values rows) ≡ true → list_all is_flagged (cond t (more_values s values r ++ rows) (r ∷ with_values id how s values rows)) ≡ true
      by true rest = and_from (bytes_eq r.id word_id || begins_true (r.values ++ values)) (list_all is_flagged rows) (more_true r parts.0) parts.1
      by false rest = and_from (is_flagged r) (list_all is_flagged (with_values id how s values rows)) parts.0 rest

  -- a flag leaves the words as they are
  pub put_keeps : (rows : List Row) → bytes_eq id word_id ≡ false → given (with_values id how s values rows) ≡ given rows
  put_keeps [] other = ap (λ (t : Bool). values_of_row (cond t (Some (record { id = id; values = values; count = None; source = Some s; reading = how })) None)) other
  put_keeps (r ∷ rows) other = by (bytes_eq r.id id) (put_keeps rows other) refl
    where
      skips : bytes_eq r.id id ≡ true → bytes_eq r.id word_id ≡ false
      skips e = other_name r.id id word_id e other

      by_word : (t : Bool) → given (with_values id how s values rows) ≡ given rows → values_of_row (cond t (Some r) (find (λ (x : Row). bytes_eq x.id word_id) (with_values id how s values rows)))
          ≡ values_of_row (cond t (Some r) (find (λ (x : Row). bytes_eq x.id word_id) rows))
      by_word true rest = refl
      by_word false rest = rest

      by : (t : Bool) → given (with_values id how s values rows) ≡ given rows → bytes_eq r.id id ≡ t → given (cond t (more_values s values r ++ rows) (r ∷ with_values id how s values rows)) ≡ given (r ∷ rows)
      by true rest e = rw (skips e) refl
      by false rest e = by_word (bytes_eq r.id word_id) rest

  -- where no row is there, a default says no more than that a flag isn't set
  pub default_sets_none : (name : Text) (rows : List Row) → has_row id rows ≡ false → values ≡ codes "false" ∷ [] → is_set name (with_values id how s values rows) ≡ is_set name rows
  default_sets_none name [] none are = by (bytes_eq id name) values are
    where
      by : (t : Bool) (v : List Text) → v ≡ codes "false" ∷ [] →
          is_true (option_and_then (λ (x : Row). slice_get x.values 0) (cond t (Some (record { id = id; values = v; count = None; source = Some s; reading = how })) None)) ≡ false
      by true v e = ap (λ (l : List Text). is_true (slice_get l 0)) e
      by false v e = refl
  default_sets_none name (r ∷ rows) none are =
      rw ((or_false (bytes_eq r.id id) (has_row id rows) none).0) (by (bytes_eq r.id name) (default_sets_none name rows (or_false (bytes_eq r.id id) (has_row id rows) none).1 are))
    where
      by : (t : Bool) → is_set name (with_values id how s values rows) ≡ is_set name rows → is_true (option_and_then (λ (x : Row). slice_get x.values 0) (cond t (Some r) (find (λ (x : Row). bytes_eq x.id name) (with_values id how s values rows))))
          ≡ is_true (option_and_then (λ (x : Row). slice_get x.values 0) (cond t (Some r) (find (λ (x : Row). bytes_eq x.id name) rows)))
      by true rest = refl
      by false rest = rest

-- one word more
pub put_word : (how : Reading) (s : ValueSource) (values : List Text) (rows : List Row) → given (with_values word_id how s values rows) ≡ given rows ++ values
put_word how s values [] = refl
put_word how s values (r ∷ rows) = by (bytes_eq r.id word_id) (put_word how s values rows) refl
  where
    by : (t : Bool) → given (with_values word_id how s values rows) ≡ given rows ++ values → bytes_eq r.id word_id ≡ t → given (cond t (more_values s values r ++ rows) (r ∷ with_values word_id how s values rows))
        ≡ values_of_row (cond t (Some r) (find (λ (x : Row). bytes_eq x.id word_id) rows)) ++ values
    by true rest e = rw e refl
    by false rest e = rw e rest

-- ---- the row of a flag that was set before goes first

module _ (id : Text) where
  pub gone_row : (name : Text) (rows : List Row) → bytes_eq id name ≡ false → has_row name (without id rows) ≡ has_row name rows
  gone_row name [] other = refl
  gone_row name (r ∷ rows) other = by (bytes_eq r.id id) (gone_row name rows other) refl
    where
      by : (t : Bool) → has_row name (without id rows) ≡ has_row name rows → bytes_eq r.id id ≡ t → has_row name (cond t ([] ++ rows) (r ∷ without id rows)) ≡ (bytes_eq r.id name || has_row name rows)
      by true rest e = sym (ap (λ (t : Bool). t || has_row name rows) (other_name r.id id name e other))
      by false rest e = ap (λ (t : Bool). bytes_eq r.id name || t) rest

  pub gone_flagged : (rows : List Row) → list_all is_flagged rows ≡ true → list_all is_flagged (without id rows) ≡ true
  gone_flagged [] all = refl
  gone_flagged (r ∷ rows) all = by (bytes_eq r.id id) (gone_flagged rows parts.1)
    where
      parts : (is_flagged r ≡ true) × (list_all is_flagged rows ≡ true)
      parts = and_parts (is_flagged r) (list_all is_flagged rows) all

      by : (t : Bool) → list_all is_flagged (without id rows) ≡ true → list_all is_flagged (cond t ([] ++ rows) (r ∷ without id rows)) ≡ true
      by true rest = parts.1
      by false rest = and_from (is_flagged r) (list_all is_flagged (without id rows)) parts.0 rest

  pub gone_keeps : (rows : List Row) → bytes_eq id word_id ≡ false → given (without id rows) ≡ given rows
  gone_keeps [] other = refl
  gone_keeps (r ∷ rows) other = by (bytes_eq r.id id) (gone_keeps rows other) refl
    where
      by_word : (t : Bool) → given (without id rows) ≡ given rows → values_of_row (cond t (Some r) (find (λ (x : Row). bytes_eq x.id word_id) (without id rows)))
          ≡ values_of_row (cond t (Some r) (find (λ (x : Row). bytes_eq x.id word_id) rows))
      by_word true rest = refl
      by_word false rest = rest

      by : (t : Bool) → given (without id rows) ≡ given rows → bytes_eq r.id id ≡ t → given (cond t ([] ++ rows) (r ∷ without id rows)) ≡ given (r ∷ rows)
      by true rest e = rw (other_name r.id id word_id e other) refl
      by false rest e = by_word (bytes_eq r.id word_id) rest
