-- The first directory from one on that has a list.
use Rattle.std.proofs.Common.{ℕ, ◌≡◌, Bool, true, false, not, ◌&&◌, cond, eqb, length, List, [], ◌∷◌, Option, Some, None, String, refl, sym, ap, ◌∙◌, subst, true≢false, nat_cmp}
use Rattle.std.specs.Prelude.{IsSome, is_some}
use Rattle.std.specs.Map.{lookup}
use Rattle.std.specs.BTreeMap.{BTreeMap, get, is_at}
use Rattle.std.specs.BTreeMap.Range.{IsEntryInRange, IsRangeOf}
use Rattle.std.specs.declared.ops.Bound.TheVariants.{Included, Unbounded}
use Rattle.std.specs.Str.{bytes_eq}
use Rattle.std.specs.String.{string_bytes, string_cmp}
use Rattle.std.specs.Ordering.{is_eq, is_gt, is_lt, ordering_reverse}
use Rattle.std.specs.List.{slice_get}
use Rattle.std.specs.Option.{IfSome}
use Rattle.std.specs.declared.cmp.Ordering.{Ordering}
use Rattle.std.specs.declared.cmp.Ordering.TheVariants.{Less, Equal, Greater}
use Rattle.std.specs.Cmp.Lexicographic.{slice_cmp, nat_list_cmp_total}
use Rattle.std.proofs.lemmas.Bool.{both_ways, false_from_ne_true}
use Rattle.std.proofs.lemmas.Map.Text.{text_cmp, is_eq-slice_cmp}
use Rattle.hg_base.proofs.Within.{equal_bytes, same_bytes}
use Rattle.std.proofs.lemmas.Slice.Eq.{bytes_eq-Decides}
use Rattle.hg_nodes.specs.Kids.{Seeks}
use Rattle.hg_nodes.specs.Lists.{AreListed, has_rows_in, rows_of}
use Rattle.hg_nodes.specs.declared.node.Node.{Node}
use Rattle.hg_nodes.proofs.Listed.{has_list, has_rows}

less_is : (o : Ordering) → is_lt o ≡ true → o ≡ Less
less_is Less h = refl
less_is Equal h = absurd (true≢false (sym h))
less_is Greater h = absurd (true≢false (sym h))

same_equal : (a b : List ℕ) → slice_cmp nat_cmp a b ≡ Equal → a ≡ b
same_equal a b e = (bytes_eq-Decides a b).0 (sym (is_eq-slice_cmp a b) ∙ ap is_eq e)

-- what is less isn't greater the other way round
not_greater_back : (a b : List ℕ) → slice_cmp nat_cmp a b ≡ Less → is_gt (slice_cmp nat_cmp b a) ≡ false → ⊥
not_greater_back a b less h = true≢false (sym (ap (λ (o : Ordering). is_gt (ordering_reverse o)) less) ∙ ap is_gt (sym (nat_list_cmp_total.antisymm b a)) ∙ h)

-- nothing is past itself, nor past what is greater
not_past : (a : List ℕ) → is_gt (slice_cmp nat_cmp a a) ≡ false
not_past a = own (slice_cmp nat_cmp a a) (is_eq-slice_cmp a a ∙ equal_bytes a)
  where
    own : (o : Ordering) → is_eq o ≡ true → is_gt o ≡ false
    own Less h = refl
    own Equal h = refl
    own Greater h = absurd (true≢false (sym h))

less_not_past : (a b : List ℕ) → is_lt (slice_cmp nat_cmp a b) ≡ true → is_gt (slice_cmp nat_cmp a b) ≡ false
less_not_past a b less = ap is_gt (less_is (slice_cmp nat_cmp a b) less)

-- what isn't past another, and isn't the same, is less
less_from : (a b : List ℕ) → is_gt (slice_cmp nat_cmp a b) ≡ false → (a ≡ b → ⊥) → is_lt (slice_cmp nat_cmp a b) ≡ true
less_from a b from apart = step (slice_cmp nat_cmp a b) refl from
  where
    step : (o : Ordering) → slice_cmp nat_cmp a b ≡ o → is_gt o ≡ false → is_lt o ≡ true
    step Less e h = refl
    step Equal e h = absurd (apart (same_equal a b e))
    step Greater e h = absurd (true≢false h)

module _ {X Y : Type 0} where
  key_in : (test : String Y → Bool) (es : List (String Y × X)) → is_some (lookup test es) ≡ true → (k : String Y) × (test k ≡ true)
  key_in test [] h = absurd (cc)
  key_in test (e ∷ es) h = step (test e.0) refl h (key_in test es)
    where
      step : (t : Bool) → test e.0 ≡ t → is_some (cond t (Some e.1) (lookup test es)) ≡ true → (is_some (lookup test es) ≡ true → (k : String Y) × (test k ≡ true)) → (k : String Y) × (test k ≡ true)
      step true is h more = (e.0, is)
      step false is h more = more h

module _ {Y : Type 0} (lists : BTreeMap (String Y) (BTreeMap (String Y) Node)) (fit : AreListed lists.entries) where
  some_list : (o : Option (BTreeMap (String Y) Node)) → has_list o ≡ true → is_some o ≡ true
  some_list None h = absurd (cc)
  some_list (Some list) h = refl

  -- where nodes stand in a directory, it has a list
  has_key : (at : List ℕ) → has_rows_in (rows_of lists.entries) at ≡ true → (k : String Y) × (string_bytes k ≡ at) × (IsSome (get string_cmp lists k))
  has_key at rows =
      let there : is_some (lookup (is_at (text_cmp at)) lists.entries) ≡ true = some_list (lookup (is_at (text_cmp at)) lists.entries) (sym (has_rows at lists.entries fit) ∙ rows) in
      let key = key_in (is_at (text_cmp at)) lists.entries there in
      let same : at ≡ string_bytes key.0 = same_bytes at (string_bytes key.0) (sym (is_eq-slice_cmp at (string_bytes key.0)) ∙ key.1) in
      (key.0, sym same, subst (λ (b : List ℕ). is_some (lookup (is_at (text_cmp b)) lists.entries) ≡ true) same there)

  module _ (dir : String Y) (found : List (String Y × BTreeMap (String Y) Node)) (range : IsRangeOf string_cmp (Included dir) Unbounded lists found) where
    from_key : (at : List ℕ) (k : String Y) → string_bytes k ≡ at → is_gt (slice_cmp nat_cmp (string_bytes dir) at) ≡ false → is_gt (string_cmp dir k) ≡ false
    from_key at k same from = ap (λ (b : List ℕ). is_gt (slice_cmp nat_cmp (string_bytes dir) b)) same ∙ from

    none_from : found ≡ [] → (at : List ℕ) → is_gt (slice_cmp nat_cmp (string_bytes dir) at) ≡ false → has_rows_in (rows_of lists.entries) at ≡ false
    none_from none at from = false_from_ne_true (has_rows_in (rows_of lists.entries) at) (λ rows.
        let key = has_key at rows in
        let gone : get string_cmp lists key.0 ≡ None = range.5 none key.0 (from_key at key.0 key.1 from, tt) in
        true≢false (sym key.2 ∙ ap is_some gone))

    pub sought_none : found ≡ [] → Seeks (rows_of lists.entries) (string_bytes dir) false None
    sought_none none = record {
      here = sym (none_from none (string_bytes dir) (not_past (string_bytes dir)));
      from = tt;
      quiet = λ at less before. none_from none at (less_not_past (string_bytes dir) at less);
    }

    module _ (next : String Y) (list : BTreeMap (String Y) Node) (rest : List (String Y × BTreeMap (String Y) Node)) (is : found ≡ (next, list) ∷ rest) where
      none_before : (at : List ℕ) → is_gt (slice_cmp nat_cmp (string_bytes dir) at) ≡ false → is_lt (slice_cmp nat_cmp at (string_bytes next)) ≡ true → has_rows_in (rows_of lists.entries) at ≡ false
      none_before at from before = false_from_ne_true (has_rows_in (rows_of lists.entries) at) (λ rows.
          let key = has_key at rows in
          let first = range.2 key.0 (from_key at key.0 key.1 from, tt) key.2 in
          let least : is_gt (string_cmp next key.0) ≡ false = subst (λ (l : List (String Y × BTreeMap (String Y) Node)). IfSome (slice_get l 0) (λ e. is_gt (string_cmp e.0 key.0) ≡ false)) is first in
          not_greater_back at (string_bytes next) (less_is (slice_cmp nat_cmp at (string_bytes next)) before) (ap (λ (b : List ℕ). is_gt (slice_cmp nat_cmp (string_bytes next) b)) (sym key.1) ∙ least))

      entry : IsEntryInRange string_cmp (Included dir) Unbounded lists (next, list)
      entry = subst (λ (l : List (String Y × BTreeMap (String Y) Node)). IfSome (slice_get l 0) (IsEntryInRange string_cmp (Included dir) Unbounded lists)) is range.1

      here : (has same : Bool) → bytes_eq (string_bytes next) (string_bytes dir) ≡ same → has ≡ (same && not (eqb (length list.entries) 0)) → has ≡ has_rows_in (rows_of lists.entries) (string_bytes dir)
      here has true same answer =
          let there : lookup (is_at (text_cmp (string_bytes dir))) lists.entries ≡ Some list =
          ap (λ (b : List ℕ). lookup (is_at (text_cmp b)) lists.entries) (sym (same_bytes (string_bytes next) (string_bytes dir) same)) ∙ entry.1 in
          answer ∙ sym (has_rows (string_bytes dir) lists.entries fit ∙ ap has_list there)
      here has false other answer =
          let before : is_lt (slice_cmp nat_cmp (string_bytes dir) (string_bytes next)) ≡ true =
          less_from (string_bytes dir) (string_bytes next) entry.0.0 (λ same. both_ways (bytes_eq (string_bytes next) (string_bytes dir)) other (ap (bytes_eq (string_bytes next)) same ∙ equal_bytes (string_bytes next))) in
          answer ∙ sym (none_before (string_bytes dir) (not_past (string_bytes dir)) before)

      pub sought_some : (has : Bool) (text : List ℕ) → text ≡ string_bytes next → has ≡ (bytes_eq text (string_bytes dir) && not (eqb (length list.entries) 0)) → Seeks (rows_of lists.entries) (string_bytes dir) has (Some text)
      sought_some has text is_text answer = record {
        here = here has (bytes_eq (string_bytes next) (string_bytes dir)) refl (answer ∙ ap (λ (t : List ℕ). bytes_eq t (string_bytes dir) && not (eqb (length list.entries) 0)) is_text);
        from = ap (λ (t : List ℕ). is_gt (slice_cmp nat_cmp (string_bytes dir) t)) is_text ∙ entry.0.0;
        quiet = λ at less before. none_before at (less_not_past (string_bytes dir) at less) (ap (λ (t : List ℕ). is_lt (slice_cmp nat_cmp at t)) (sym is_text) ∙ before);
      }
