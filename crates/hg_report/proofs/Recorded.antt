-- The text of a record.
use Rattle.std.proofs.Common.{ℕ, ◌≡◌, ◌-◌, ◌^◌, Bool, true, false, ◌&&◌, ◌||◌, cond, inl, inr, List, [], ◌∷◌, ◌++◌, length, replicate, Option, Some, None, refl, sym, ap, ◌∙◌, true≢false, nat_cmp, arith}
use Rattle.std.specs.Prelude.{is_some}
use Rattle.std.specs.Fmt.{char_count, decimal, format_spec, padded_integral, styled_decimal}
use Rattle.std.specs.List.{AllByRecursion, filter, flat_map, list_any}
use Rattle.std.specs.List.Sorted.{IsStrictlySortedBy}
use Rattle.std.specs.Str.{bytes_eq}
use Rattle.std.specs.Cmp.Lexicographic.{slice_cmp}
use Rattle.std.proofs.lemmas.Bool.{cases_Bool, or_left}
use Rattle.std.proofs.lemmas.List.{append-nil}
use Rattle.std.proofs.lemmas.List.Concat.{flat_map-cons}
use Rattle.std.proofs.lemmas.List.Kept.{IsStrictlySortedBy-filter}
use Rattle.hg_base.specs.Within.{is_above}
use Rattle.hg_base.proofs.Within.{same_bytes}
use Rattle.hg_entry.specs.Entry.{CacheData, EntryData}
use Rattle.hg_nodes.specs.Edits.{IsFormed}
use Rattle.hg_mixed.specs.Gathered.{AreGathered, Shows, path_of, paths_of}
use Rattle.hg_mixed.specs.Held.{Held, table}
use Rattle.hg_mixed.specs.declared.line.Line.{Line}
use Rattle.hg_mixed.proofs.Ordered.{same_bool}
use Rattle.hg_report.specs.Debug.{IsDebugText, OneDebugText, copy_line, copy_lines, is_copied, is_recorded, nine_digits, parent_lines, record_line, record_lines, row_copy, row_line}
use Rattle.hg_report.proofs.Ordered.{one_all}

-- ---- times

pub nine_padded : (n : ℕ) → styled_decimal (format_spec 32 0 4 9 (2 ^ 64 - 1)) n ≡ nine_digits n
unfolding padded_integral char_count
nine_padded n =
    let e : 9 - length (decimal n) - 0 - 0 ≡ 9 - length (decimal n) = omega arith in
    ap (λ (k : ℕ). replicate k 48 ++ (decimal n ++ [])) e ∙ ap (λ (l : List ℕ). replicate (9 - length (decimal n)) 48 ++ l) (append-nil (decimal n))

-- ---- the lists of paths

and_none : (b : Bool) → false ≡ (b && false)
and_none true = refl
and_none false = refl

and_true : (b : Bool) → (b && true) ≡ b
and_true true = refl
and_true false = refl

filter_step : (q : List ℕ → Bool) (p x : List ℕ) (ps : List (List ℕ)) → list_any (bytes_eq p) (filter q ps) ≡ (q p && list_any (bytes_eq p) ps) → (kept same : Bool) → q x ≡ kept → bytes_eq p x ≡ same
    → list_any (bytes_eq p) (cond kept (x ∷ filter q ps) (filter q ps)) ≡ (q p && (same || list_any (bytes_eq p) ps))
filter_step q p x ps rest true true keeps is = ap (λ (b : Bool). b || list_any (bytes_eq p) (filter q ps)) is ∙ sym (and_true (q p) ∙ ap q (same_bytes p x is) ∙ keeps)
filter_step q p x ps rest true false keeps is = ap (λ (b : Bool). b || list_any (bytes_eq p) (filter q ps)) is ∙ rest
filter_step q p x ps rest false true keeps is =
    let fails : q p ≡ false = ap q (same_bytes p x is) ∙ keeps in
    rest ∙ ap (λ (b : Bool). b && list_any (bytes_eq p) ps) fails ∙ sym (ap (λ (b : Bool). b && true) fails)
filter_step q p x ps rest false false keeps is = rest

any_filter : (q : List ℕ → Bool) (p : List ℕ) (ps : List (List ℕ)) → list_any (bytes_eq p) (filter q ps) ≡ (q p && list_any (bytes_eq p) ps)
any_filter q p [] = and_none (q p)
any_filter q p (x ∷ ps) = filter_step q p x ps (any_filter q p ps) (q x) (bytes_eq p x) refl refl

lines_step : (f : List ℕ → List ℕ) (q : List ℕ → Bool) → ((p : List ℕ) → q p ≡ false → f p ≡ []) → (x : List ℕ) (ps : List (List ℕ)) → flat_map f (filter q ps) ≡ flat_map f ps → (kept : Bool) → q x ≡ kept
    → flat_map f (cond kept (x ∷ filter q ps) (filter q ps)) ≡ flat_map f (x ∷ ps)
lines_step f q none x ps rest true keeps = flat_map-cons f x (filter q ps) ∙ ap (λ (l : List ℕ). f x ++ l) rest ∙ sym (flat_map-cons f x ps)
lines_step f q none x ps rest false keeps = rest ∙ sym (flat_map-cons f x ps ∙ ap (λ (l : List ℕ). l ++ flat_map f ps) (none x keeps))

filtered_lines : (f : List ℕ → List ℕ) (q : List ℕ → Bool) → ((p : List ℕ) → q p ≡ false → f p ≡ []) → (ps : List (List ℕ)) → flat_map f (filter q ps) ≡ flat_map f ps
filtered_lines f q none [] = refl
filtered_lines f q none (x ∷ ps) = lines_step f q none x ps (filtered_lines f q none ps) (q x) refl

module _ (held : Held) where
  abbrev Sound : Line → Type 0
  Sound row = (is_above None (path_of row) ≡ true) × ((table held).nodes (path_of row) ≡ true) × Shows held row

  lines_are : (rows : List Line) → AllByRecursion Sound rows → flat_map row_line rows ≡ record_lines (table held) (paths_of rows)
  lines_are [] each = refl
  lines_are (row ∷ rows) each =
      let shows = each.0.2 in
      let f : List ℕ → List ℕ = λ path. record_line path ((table held).entries path) ((table held).caches path) in
      flat_map-cons row_line row rows
      ∙ ap (λ (l : List ℕ). l ++ flat_map row_line rows) (λ i. record_line (path_of row) (shows.entry i) (shows.cache i))
      ∙ ap (λ (l : List ℕ). f (path_of row) ++ l) (lines_are rows each.1)
      ∙ sym (flat_map-cons f (path_of row) (paths_of rows))

  copies_are : (rows : List Line) → AllByRecursion Sound rows → flat_map row_copy rows ≡ copy_lines (table held) (paths_of rows)
  copies_are [] each = refl
  copies_are (row ∷ rows) each =
      let shows = each.0.2 in
      let f : List ℕ → List ℕ = λ path. copy_line path ((table held).sources path) in
      flat_map-cons row_copy row rows
      ∙ ap (λ (l : List ℕ). l ++ flat_map row_copy rows) (λ i. copy_line (path_of row) (shows.source i))
      ∙ ap (λ (l : List ℕ). f (path_of row) ++ l) (copies_are rows each.1)
      ∙ sym (flat_map-cons f (path_of row) (paths_of rows))

  no_line : (p : List ℕ) (entry : Option EntryData) (cache : Option CacheData) → (is_some entry || is_some cache) ≡ false → record_line p entry cache ≡ []
  no_line p None None none = refl
  no_line p None (Some cache) none = absurd (true≢false none)
  no_line p (Some entry) cache none = absurd (true≢false none)

  no_copy : (p : List ℕ) (o : Option (List ℕ)) → is_some o ≡ false → copy_line p o ≡ []
  no_copy p None none = refl
  no_copy p (Some s) none = absurd (true≢false none)

  module _ (formed : IsFormed (table held)) (rows : List Line) (are : AreGathered held (is_above None) rows) (up : IsStrictlySortedBy (slice_cmp nat_cmp) (paths_of rows)) where
    all_nodes : (p : List ℕ) → list_any (bytes_eq p) (paths_of rows) ≡ (table held).nodes p
    all_nodes p = same_bool (list_any (bytes_eq p) (paths_of rows)) ((table held).nodes p) (λ is. among rows are.each is) (λ there. are.all p refl there)
      where
        among : (some : List Line) → AllByRecursion Sound some → list_any (bytes_eq p) (paths_of some) ≡ true → (table held).nodes p ≡ true
        among [] each is = absurd (true≢false (sym is))
        among (row ∷ some) each is = elim (cases_Bool (bytes_eq p (path_of row))) [
          | inl here ↦ ap (table held).nodes (same_bytes p (path_of row) here) ∙ each.0.1
          | inr other ↦ among some each.1 (sym (ap (λ (t : Bool). t || list_any (bytes_eq p) (paths_of some)) other) ∙ is)
        ]

    -- what is recorded stands at a node
    node_recorded : (p : List ℕ) → is_recorded (table held) p ≡ true → (table held).nodes p ≡ true
    node_recorded p is = elim (cases_Bool ((table held).nodes p)) [
      | inl node ↦ node
      | inr none ↦ elim (cases_Bool (is_some ((table held).caches p))) [
        | inl cache ↦ (formed.caches p cache).0
        | inr uncached ↦ absurd (true≢false (sym is ∙ ap (λ (o : Option EntryData). is_some o || is_some ((table held).caches p)) (formed.entries p none) ∙ uncached))
      ]
    ]

    -- what is a copy has an entry
    copied_recorded : (p : List ℕ) → is_copied (table held) p ≡ true → is_recorded (table held) p ≡ true
    copied_recorded p is = elim (cases_Bool (is_some ((table held).entries p))) [
      | inl entry ↦ or_left (is_some ((table held).entries p)) (is_some ((table held).caches p)) entry
      | inr none ↦ absurd (true≢false (sym is ∙ ap is_some (formed.sources p (no_entry ((table held).entries p) none))))
    ]
      where
        no_entry : (o : Option EntryData) → is_some o ≡ false → o ≡ None
        no_entry None h = refl
        no_entry (Some e) h = absurd (true≢false h)

    and_if : (a b : Bool) → (a ≡ true → b ≡ true) → (a && b) ≡ a
    and_if true b goes = goes refl
    and_if false b goes = refl

    pub text_is : (p1 p2 empty one two text : List ℕ) → p1 ≡ held.p1 → p2 ≡ held.p2 → empty ≡ [] → one ≡ empty ++ parent_lines p1 p2 → two ≡ one ++ flat_map row_line rows
        → text ≡ two ++ flat_map row_copy rows → IsDebugText (table held) text
    text_is p1 p2 empty one two text is_p1 is_p2 none first second third =
        let lines : List ℕ = parent_lines held.p1 held.p2 in
        let records : List ℕ = record_lines (table held) (filter (is_recorded (table held)) (paths_of rows)) in
        let copies : List ℕ = copy_lines (table held) (filter (is_copied (table held)) (paths_of rows)) in
        let records_same : flat_map row_line rows ≡ records =
        lines_are rows are.each
        ∙ sym (filtered_lines (λ path. record_line path ((table held).entries path) ((table held).caches path)) (is_recorded (table held)) (λ p not. no_line p ((table held).entries p) ((table held).caches p) not) (paths_of rows)) in
        let copies_same : flat_map row_copy rows ≡ copies =
        copies_are rows are.each
        ∙ sym (filtered_lines (λ path. copy_line path ((table held).sources path)) (is_copied (table held)) (λ p not. no_copy p ((table held).sources p) not) (paths_of rows)) in
        record {
          recorded = filter (is_recorded (table held)) (paths_of rows);
          are_recorded = record {
            ascending = IsStrictlySortedBy-filter (slice_cmp nat_cmp) (is_recorded (table held)) (paths_of rows) up;
            all = λ p.
                any_filter (is_recorded (table held)) p (paths_of rows)
                ∙ and_if (is_recorded (table held) p) (list_any (bytes_eq p) (paths_of rows)) (λ is. all_nodes p ∙ node_recorded p is);
          };
          copied = filter (is_copied (table held)) (paths_of rows);
          are_copied = record {
            ascending = IsStrictlySortedBy-filter (slice_cmp nat_cmp) (is_copied (table held)) (paths_of rows) up;
            all = λ p.
                any_filter (is_copied (table held)) p (paths_of rows)
                ∙ and_if (is_copied (table held) p) (list_any (bytes_eq p) (paths_of rows)) (λ is. all_nodes p ∙ node_recorded p (copied_recorded p is));
          };
          whole =
              third
              ∙ ap (λ (l : List ℕ). l ++ flat_map row_copy rows) (second ∙ ap (λ (l : List ℕ). l ++ flat_map row_line rows) (first ∙ ap (λ (l : List ℕ). l ++ parent_lines p1 p2) none ∙ (λ i. parent_lines (is_p1 i) (is_p2 i))))
              ∙ (λ i. lines ++ records_same i ++ copies_same i);
        }

-- ---- one text

pub one_text : OneDebugText
one_text table a b is_a is_b =
    let recorded : is_a.recorded ≡ is_b.recorded = one_all (is_recorded table) is_a.recorded is_b.recorded is_a.are_recorded is_b.are_recorded in
    let copied : is_a.copied ≡ is_b.copied = one_all (is_copied table) is_a.copied is_b.copied is_a.are_copied is_b.are_copied in
    is_a.whole ∙ (λ i. parent_lines table.p1 table.p2 ++ record_lines table (recorded i) ++ copy_lines table (copied i)) ∙ sym is_b.whole
