-- What rows make of a map, one path at a time, and that a file of one row for each path holds what all rows gave.
use Rattle.std.proofs.Common.{ℕ, ◌≡◌, inl, inr, Bool, true, false, cond, ◌||◌, List, [], ◌∷◌, ◌++◌, length, map, Option, Some, None, refl, sym, ap, subst, ◌∙◌}
use Rattle.std.specs.List.{list_all, list_any}
use Rattle.std.specs.Prelude.{if◌then◌else◌, is_none, is_some}
use Rattle.std.specs.Str.{bytes_eq}
use Rattle.std.proofs.lemmas.Bool.{and_from, cases_Bool, cond-true, cond-false, or_parts, or_from, or_cases, true≢false}
use Rattle.std.proofs.lemmas.List.{append-nil, nil_from_length}
use Rattle.std.proofs.lemmas.Slice.Eq.{bytes_eq-Decides}
use Rattle.hg_entry.specs.Entry.{EntryData}
use Rattle.hg_race.specs.Edit.{row_of}
use Rattle.hg_race.specs.Rows.{AreApart, Entries, HoldsEach, Row, edited, empty_map, map_of, names, with_row}
use Rattle.hg_race.specs.declared.edits.Edit.{Edit}

-- rows behind rows
pub edited-append : (a b : List Row) (map : Entries) → edited (a ++ b) map ≡ edited b (edited a map)
edited-append [] b map = refl
edited-append (row ∷ a) b map = edited-append a b (with_row row map)

-- what rows make of a map at a path hangs on what it has there
pub edited_at : (rows : List Row) (map other : Entries) (path : List ℕ) → map path ≡ other path → edited rows map path ≡ edited rows other path
edited_at [] map other path e = e
edited_at (row ∷ rows) map other path e =
    edited_at rows (with_row row map) (with_row row other) path (ap (λ (x : Option EntryData). cond (bytes_eq row.path path) row.entry x) e)

-- a path that no row has is as it was
pub edited_unnamed : (rows : List Row) (map : Entries) (path : List ℕ) → names path rows ≡ false → edited rows map path ≡ map path
edited_unnamed [] map path e = refl
edited_unnamed (row ∷ rows) map path e =
    let parts = or_parts (bytes_eq row.path path) (names path rows) e in
    edited_unnamed rows (with_row row map) path parts.1 ∙ cond-false (bytes_eq row.path path) row.entry (map path) parts.0

-- a path that a row has is as its last one says, whatever was there
pub edited_named : (rows : List Row) (map other : Entries) (path : List ℕ) → names path rows ≡ true → edited rows map path ≡ edited rows other path
edited_named [] map other path e = absurd (true≢false (sym e))
edited_named (row ∷ rows) map other path e =
    elim (or_cases (bytes_eq row.path path) (names path rows) e) [
      | inl here ↦
          edited_at rows (with_row row map) (with_row row other) path
          (cond-true (bytes_eq row.path path) row.entry (map path) here ∙ sym (cond-true (bytes_eq row.path path) row.entry (other path) here))
      | inr later ↦ edited_named rows (with_row row map) (with_row row other) path later
    ]

-- a path is named by the row of an edit where the edit has it
pub names_mapped : (path : List ℕ) (edits : List Edit) → names path (map row_of edits) ≡ list_any (λ edit. bytes_eq edit.path path) edits
names_mapped path [] = refl
names_mapped path (edit ∷ edits) = ap (λ (t : Bool). bytes_eq edit.path path || t) (names_mapped path edits)

-- of each path its last row, where that has an entry
abbrev pub compact : List Row → List Row
compact [] = []
compact (row ∷ rows) = if names row.path rows || is_none row.entry then compact rows else row ∷ compact rows

-- no path comes to be named
pub compact_unnamed : (rows : List Row) (path : List ℕ) → names path rows ≡ false → names path (compact rows) ≡ false
compact_unnamed [] path e = refl
compact_unnamed (row ∷ rows) path e =
    let parts = or_parts (bytes_eq row.path path) (names path rows) e in
    let rest = compact_unnamed rows path parts.1 in
    elim (cases_Bool (names row.path rows || is_none row.entry)) [
      | inl goes ↦
          subst (λ (l : List Row). names path l ≡ false) (sym (cond-true (names row.path rows || is_none row.entry) (compact rows) (row ∷ compact rows) goes)) rest
      | inr stays ↦
          subst (λ (l : List Row). names path l ≡ false) (sym (cond-false (names row.path rows || is_none row.entry) (compact rows) (row ∷ compact rows) stays))
          (or_from (bytes_eq row.path path) (names path (compact rows)) parts.0 rest)
    ]

-- a row whose path comes again later gives nothing
pub later_wins : (row : Row) (rows : List Row) (map : Entries) (path : List ℕ) → names row.path rows ≡ true
    → edited rows map path ≡ edited rows (with_row row map) path
later_wins row rows map path named =
    elim (cases_Bool (bytes_eq row.path path)) [
      | inl here ↦
          edited_named rows map (with_row row map) path (subst (λ (p : List ℕ). names p rows ≡ true) ((bytes_eq-Decides row.path path).0 here) named)
      | inr other ↦ edited_at rows map (with_row row map) path (sym (cond-false (bytes_eq row.path path) row.entry (map path) other))
    ]

pub none_is : {A : Type 0} → (o : Option A) → is_none o ≡ true → o ≡ None
none_is None e = refl
none_is (Some x) e = absurd (true≢false (sym e))

pub some_from : {A : Type 0} → (o : Option A) → is_none o ≡ false → is_some o ≡ true
some_from None e = absurd (true≢false e)
some_from (Some x) e = refl

-- a row without entry gives nothing where nothing was
pub nothing_there : (row : Row) (rows : List Row) (map : Entries) (path : List ℕ) → is_none row.entry ≡ true → map path ≡ None
    → edited rows map path ≡ edited rows (with_row row map) path
nothing_there row rows map path gone none =
    elim (cases_Bool (bytes_eq row.path path)) [
      | inl here ↦
          edited_at rows map (with_row row map) path (none ∙ sym (none_is row.entry gone) ∙ sym (cond-true (bytes_eq row.path path) row.entry (map path) here))
      | inr other ↦ edited_at rows map (with_row row map) path (sym (cond-false (bytes_eq row.path path) row.entry (map path) other))
    ]

-- where nothing was, the kept rows give what all gave
pub compact_same : (rows : List Row) (map : Entries) (path : List ℕ) → map path ≡ None → edited (compact rows) map path ≡ edited rows map path
compact_same [] map path none = refl
compact_same (row ∷ rows) map path none =
    elim (cases_Bool (names row.path rows || is_none row.entry)) [
      | inl goes ↦
          ap (λ (l : List Row). edited l map path) (cond-true (names row.path rows || is_none row.entry) (compact rows) (row ∷ compact rows) goes)
          ∙ compact_same rows map path none
          ∙ elim (or_cases (names row.path rows) (is_none row.entry) goes) [
            | inl later ↦ later_wins row rows map path later
            | inr gone ↦ nothing_there row rows map path gone none
          ]
      | inr stays ↦
          let parts = or_parts (names row.path rows) (is_none row.entry) stays in
          ap (λ (l : List Row). edited l map path) (cond-false (names row.path rows || is_none row.entry) (compact rows) (row ∷ compact rows) stays)
          ∙ elim (cases_Bool (bytes_eq row.path path)) [
            | inl here ↦
                let unnamed : names path rows ≡ false = subst (λ (p : List ℕ). names p rows ≡ false) ((bytes_eq-Decides row.path path).0 here) parts.0 in
                edited_unnamed (compact rows) (with_row row map) path (compact_unnamed rows path unnamed) ∙ sym (edited_unnamed rows (with_row row map) path unnamed)
            | inr other ↦
                compact_same rows (with_row row map) path (cond-false (bytes_eq row.path path) row.entry (map path) other ∙ none)
          ]
    ]

pub compact_apart : (rows : List Row) → AreApart (compact rows)
compact_apart [] = tt
compact_apart (row ∷ rows) =
    elim (cases_Bool (names row.path rows || is_none row.entry)) [
      | inl goes ↦
          subst AreApart (sym (cond-true (names row.path rows || is_none row.entry) (compact rows) (row ∷ compact rows) goes)) (compact_apart rows)
      | inr stays ↦
          subst AreApart (sym (cond-false (names row.path rows || is_none row.entry) (compact rows) (row ∷ compact rows) stays))
          (compact_unnamed rows row.path (or_parts (names row.path rows) (is_none row.entry) stays).0, compact_apart rows)
    ]

pub compact_full : (rows : List Row) → list_all (λ row. is_some row.entry) (compact rows) ≡ true
compact_full [] = refl
compact_full (row ∷ rows) =
    let P : List Row → Type 0 = λ l. list_all (λ row. is_some row.entry) l ≡ true in
    elim (cases_Bool (names row.path rows || is_none row.entry)) [
      | inl goes ↦
          subst P (sym (cond-true (names row.path rows || is_none row.entry) (compact rows) (row ∷ compact rows) goes)) (compact_full rows)
      | inr stays ↦
          subst P (sym (cond-false (names row.path rows || is_none row.entry) (compact rows) (row ∷ compact rows) stays))
          (and_from (is_some row.entry) (list_all (λ row. is_some row.entry) (compact rows))
          (some_from row.entry (or_parts (names row.path rows) (is_none row.entry) stays).1) (compact_full rows))
    ]

-- the kept rows hold each entry once
pub compact_holds : (rows : List Row) → HoldsEach (compact rows) (map_of rows)
compact_holds rows = record { same = λ i path. compact_same rows empty_map path refl i; once = compact_apart rows; full = compact_full rows }

-- also where a change stands behind them
pub compact_behind : (rows change : List Row) → HoldsEach (compact (rows ++ change)) (edited change (map_of rows))
compact_behind rows change = subst (HoldsEach (compact (rows ++ change))) (edited-append rows change empty_map) (compact_holds (rows ++ change))

-- rows that hold what rows gave with a change behind them
pub holds_behind : (made rows change : List Row) → HoldsEach made (map_of (rows ++ change)) → HoldsEach made (edited change (map_of rows))
holds_behind made rows change holds = subst (HoldsEach made) (edited-append rows change empty_map) holds

-- where no edit is left, what was made holds each entry once
pub holds_made : (made rows : List Row) (left : List Edit) → length left ≡ 0 → made ++ compact (map row_of left) ≡ compact rows → HoldsEach made (map_of rows)
holds_made made rows left none same =
    let whole : made ≡ compact rows =
    sym (append-nil made) ∙ ap (λ (l : List Edit). made ++ compact (map row_of l)) (sym (nil_from_length left none)) ∙ same
    in
    subst (λ (l : List Row). HoldsEach l (map_of rows)) (sym whole) (compact_holds rows)
