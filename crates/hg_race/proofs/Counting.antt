-- Two files of one row for each path of one map have as many rows.
use Rattle.std.proofs.Common.{ℕ, suc, ◌≡◌, ◌≤◌, inl, inr, Bool, true, false, ◌||◌, List, [], ◌∷◌, length, Option, refl, sym, ap, subst, ◌∙◌, arith}
use Rattle.std.specs.List.{list_all}
use Rattle.std.specs.Prelude.{is_some}
use Rattle.std.specs.Str.{bytes_eq}
use Rattle.std.proofs.lemmas.Bool.{and_parts, both_ways, cases_Bool, cond-true, or_cases, or_right, true≢false}
use Rattle.std.proofs.lemmas.Slice.Eq.{bytes_eq-Decides}
use Rattle.hg_entry.specs.Entry.{EntryData}
use Rattle.hg_race.specs.Rows.{AreApart, Entries, HoldsEach, Row, edited, empty_map, map_of, names, with_row}
use Rattle.hg_race.proofs.Copying.{edited_unnamed}

-- rows that all have an entry give each path one that a row has
pub named_has : (rows : List Row) (map : Entries) (path : List ℕ) → list_all (λ row. is_some row.entry) rows ≡ true → names path rows ≡ true
    → is_some (edited rows map path) ≡ true
named_has [] map path full named = absurd (true≢false (sym named))
named_has (row ∷ rows) map path full named =
    let parts = and_parts (is_some row.entry) (list_all (λ row. is_some row.entry) rows) full in
    elim (cases_Bool (names path rows)) [
      | inl later ↦ named_has rows (with_row row map) path parts.1 later
      | inr last ↦
          elim (or_cases (bytes_eq row.path path) (names path rows) named) [
            | inl here ↦
                ap (λ (o : Option EntryData). is_some o) (edited_unnamed rows (with_row row map) path last
                ∙ cond-true (bytes_eq row.path path) row.entry (map path) here) ∙ parts.0
            | inr later ↦ absurd (both_ways (names path rows) last later)
          ]
    ]

-- and no other path
pub has_named : (rows : List Row) (path : List ℕ) → is_some (map_of rows path) ≡ true → names path rows ≡ true
has_named rows path has =
    elim (cases_Bool (names path rows)) [
      | inl named ↦ named
      | inr other ↦ absurd (true≢false (sym has ∙ ap (λ (o : Option EntryData). is_some o) (edited_unnamed rows empty_map path other)))
    ]

-- a row of that path is taken out
pub taken_out : (path : List ℕ) (rows : List Row) → names path rows ≡ true
    → (rest : List Row) × (length rows ≡ suc (length rest)) × ((other : List ℕ) → bytes_eq path other ≡ false → names other rows ≡ true → names other rest ≡ true)
taken_out path [] named = absurd (true≢false (sym named))
taken_out path (row ∷ rows) named =
    elim (cases_Bool (bytes_eq row.path path)) [
      | inl here ↦ (
        rows,
        refl,
        λ other apart has.
            elim (or_cases (bytes_eq row.path other) (names other rows) has) [
              | inl same ↦
                  absurd (both_ways (bytes_eq path other) apart
                  (subst (λ (p : List ℕ). bytes_eq p other ≡ true) ((bytes_eq-Decides row.path path).0 here) same))
              | inr later ↦ later
            ],
      )
      | inr other_row ↦
          let named_later : names path rows ≡ true =
          elim (or_cases (bytes_eq row.path path) (names path rows) named) [
            | inl here ↦ absurd (both_ways (bytes_eq row.path path) other_row here)
            | inr later ↦ later
          ]
          in
          let rest = taken_out path rows named_later in (
            row ∷ rest.0,
            ap (λ (n : ℕ). suc n) rest.1,
            λ other apart has.
                elim (or_cases (bytes_eq row.path other) (names other rows) has) [
                  | inl same ↦ ap (λ (t : Bool). t || names other rest.0) same
                  | inr later ↦ or_right (bytes_eq row.path other) (names other rest.0) (rest.2 other apart later)
                ],
          )
    ]

-- rows apart whose paths others have are no more than those
pub no_more : (rows others : List Row) → AreApart rows → ((path : List ℕ) → names path rows ≡ true → names path others ≡ true) → length rows ≤ length others
no_more [] others apart within = omega arith
no_more (row ∷ rows) others apart within =
    let here : bytes_eq row.path row.path ≡ true = (bytes_eq-Decides row.path row.path).1 refl in
    let rest = taken_out row.path others (within row.path (ap (λ (t : Bool). t || names row.path rows) here)) in
    let fewer : length rows ≤ length rest.0 =
    no_more rows rest.0 apart.1
    (λ path named. rest.2 path
    (elim (cases_Bool (bytes_eq row.path path)) [
      | inl same ↦
          absurd (both_ways (names row.path rows) apart.0 (subst (λ (p : List ℕ). names p rows ≡ true) (sym ((bytes_eq-Decides row.path path).0 same)) named))
      | inr other ↦ other
    ])
    (within path (or_right (bytes_eq row.path path) (names path rows) named)))
    in
    omega (arith, rest.1)

pub named_too : (rows others : List Row) (map : Entries) → HoldsEach rows map → HoldsEach others map → (path : List ℕ) → names path rows ≡ true
    → names path others ≡ true
named_too rows others map a b path named =
    has_named others path (ap (λ (m : Entries). is_some (m path)) (b.same ∙ sym a.same) ∙ named_has rows empty_map path a.full named)

-- as many rows
pub as_many : (rows others : List Row) (map : Entries) → HoldsEach rows map → HoldsEach others map → length rows ≡ length others
as_many rows others map a b =
    let less : length rows ≤ length others = no_more rows others a.once (named_too rows others map a b) in
    let more : length others ≤ length rows = no_more others rows b.once (named_too others rows map b a) in
    omega arith
