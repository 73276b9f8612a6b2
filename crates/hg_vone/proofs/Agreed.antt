-- Rows that agree with the entries give the table of these.
use Rattle.std.proofs.Common.{ℕ, ◌≡◌, ◌+◌, ◌||◌, ◌&&◌, Bool, true, false, cond, eqb, not, List, [], ◌∷◌, Option, Some, None, ◌⊎◌, inl, inr, refl, sym, ap, ◌∙◌, subst, arith, true≢false, eqb-true, eq-eqb}
use Rattle.std.specs.Prelude.{is_some, option_map}
use Rattle.std.specs.Option.{option_and_then}
use Rattle.std.specs.List.{AllByRecursion, list_all}
use Rattle.std.specs.Str.{bytes_eq}
use Rattle.std.proofs.lemmas.Bool.{and_parts, both_ways, cases_Bool, cond-true, cond-false}
use Rattle.std.proofs.lemmas.List.Sums.{sum_by-cons}
use Rattle.hg_base.specs.PathText.{is_below}
use Rattle.hg_base.specs.Within.{is_above, is_within}
use Rattle.hg_base.proofs.Within.{same_bytes, within_split}
use Rattle.hg_docket.specs.Docket.{Contents}
use Rattle.hg_entry.specs.Entry.{cache_of, entry_of, has_entry}
use Rattle.hg_entry.specs.Table.{Marks}
use Rattle.hg_image.specs.Counts.{are_counted, count_below, is_counted, is_entry, is_row_counted}
use Rattle.hg_image.specs.Node.{fields_of}
use Rattle.hg_image.specs.Reading as reading
use Rattle.hg_image.specs.Reading.{row_at}
use Rattle.hg_image.specs.Rows.{Row}
use Rattle.hg_image.specs.View.{dir_of, rows_in}
use Rattle.hg_image.specs.declared.opened.List.{List as NodeList}
use Rattle.hg_image.proofs.Found.{row_each, row_path, row_rooted}
use Rattle.hg_image.proofs.Sourced.{IsSourcedByEntry, list_sourced}
use Rattle.hg_vone.specs.Agreeing.{Agrees, AreThePaths, HasNode, Tells, flags_of, is_right}
use Rattle.hg_vone.specs.Format.{marks}
use Rattle.hg_vone.specs.Items.{Item, Reading, has_path}
use Rattle.hg_vone.specs.Table.{IsSame, entry, is_node, item_at, table}

-- ---- truth values

pub one_truth : (a b : Bool) → (a ≡ true → b ≡ true) → (b ≡ true → a ≡ true) → a ≡ b
one_truth true b f g = sym (f refl)
one_truth false true f g = g refl
one_truth false false f g = refl

or_left : (a b : Bool) → a ≡ true → (a || b) ≡ true
or_left true b h = refl
or_left false b h = absurd (true≢false (sym h))

or_right : (a b : Bool) → b ≡ true → (a || b) ≡ true
or_right true b h = refl
or_right false b h = h

or_split : (a b : Bool) → (a || b) ≡ true → (a ≡ true) ⊎ (b ≡ true)
or_split true b h = inl refl
or_split false b h = inr h

-- what all pass, each does
pub all_pass : {X : Type 0} (p : X → Bool) (xs : List X) → list_all p xs ≡ true → AllByRecursion (λ x. p x ≡ true) xs
all_pass p [] h = tt
all_pass p (x ∷ xs) h = let parts = and_parts (p x) (list_all p xs) h in (parts.0, all_pass p xs parts.1)

-- ---- the flags of an entry

entry_by : (w p1 p2 : Bool) (size seconds nanos : ℕ) → has_entry (flags_of (marks w p1 p2)) ≡ true
    → entry_of (record { flags = flags_of (marks w p1 p2); size = size; seconds = seconds; nanos = nanos }) ≡ Some (entry (marks w p1 p2))
entry_by true true true size seconds nanos h = refl
entry_by true true false size seconds nanos h = refl
entry_by true false true size seconds nanos h = refl
entry_by true false false size seconds nanos h = refl
entry_by false true true size seconds nanos h = refl
entry_by false true false size seconds nanos h = refl
entry_by false false true size seconds nanos h = refl
entry_by false false false size seconds nanos h = absurd (true≢false (sym h))

said : (row : Row) (m : Marks) → has_entry row.rec.flags ≡ true → row.rec.flags ≡ flags_of m → entry_of (fields_of row.rec) ≡ Some (entry m)
said row m has is =
    ap (λ (f : ℕ). entry_of (record { flags = f; size = row.rec.size; seconds = row.rec.seconds; nanos = row.rec.nanos })) is
    ∙ entry_by m.w m.p1 m.p2 row.rec.size row.rec.seconds row.rec.nanos (ap has_entry (sym is) ∙ has)

no_entry : (row : Row) → is_entry row ≡ false → entry_of (fields_of row.rec) ≡ None
no_entry row h = cond-false (has_entry row.rec.flags) _ None h

no_cache_by : {A : Type 0} (has a b c : Bool) (x : Option A) → has ≡ true → cond (not has && a && b && c) x None ≡ None
no_cache_by true a b c x h = refl
no_cache_by false a b c x h = absurd (true≢false (sym h))

some_is : (o : Option Row) → is_some o ≡ true → (r : Row) × (o ≡ Some r)
some_is None h = absurd (true≢false (sym h))
some_is (Some r) h = (r, refl)

-- ---- items by path

known_step : (same later : Bool) (i : Item) (o : Option Item) → is_some o ≡ later → is_some (cond same (Some i) o) ≡ (same || later)
known_step true later i o h = refl
known_step false later i o h = h

item_known : (items : List Item) (at : List ℕ) → is_some (item_at items at) ≡ has_path items at
item_known [] at = refl
item_known (i ∷ items) at = known_step (bytes_eq i.path at) (has_path items at) i (item_at items at) (item_known items at)

some_item : (a b : Item) → Some a ≡ Some b → a ≡ b
some_item a b e = cc

item_each : (P : Item → Type 0) (items : List Item) (at : List ℕ) (i : Item) → AllByRecursion P items → item_at items at ≡ Some i → P i × (i.path ≡ at)
item_each P [] at i all h = absurd (cc)
item_each P (x ∷ items) at i all h = elim (cases_Bool (bytes_eq x.path at)) [
  | inl same ↦
      let is : x ≡ i = some_item x i (sym (cond-true (bytes_eq x.path at) (Some x) (item_at items at) same) ∙ h) in
      (subst P is all.0, sym (ap (λ (y : Item). y.path) is) ∙ same_bytes x.path at same)
  | inr other ↦ item_each P items at i all.1 (sym (cond-false (bytes_eq x.path at) (Some x) (item_at items at) other) ∙ h)
]

-- a path of an item is a node, and so is what is above it
within_node : (items : List Item) (at : List ℕ) → has_path items at ≡ true → is_node items at ≡ true
within_node [] at h = h
within_node (i ∷ items) at h = elim (or_split (bytes_eq i.path at) (has_path items at) h) [
  | inl same ↦ or_left (is_within at i.path) (is_node items at) (or_left (bytes_eq i.path at) (is_below at i.path) same)
  | inr later ↦ or_right (is_within at i.path) (is_node items at) (within_node items at later)
]

below_node : (items : List Item) (at path : List ℕ) → is_below at path ≡ true → has_path items path ≡ true → is_node items at ≡ true
below_node [] at path below h = absurd (true≢false (sym h))
below_node (i ∷ items) at path below h = elim (or_split (bytes_eq i.path path) (has_path items path) h) [
  | inl same ↦
      or_left (is_within at i.path) (is_node items at)
      (or_right (bytes_eq i.path at) (is_below at i.path) (ap (is_below at) (same_bytes i.path path same) ∙ below))
  | inr later ↦ or_right (is_within at i.path) (is_node items at) (below_node items at path below later)
]

-- ---- rows that are right

module _ (has : List ℕ → Bool) where
  entry_has : (row : Row) → is_right has row ≡ true → is_entry row ≡ true → has row.path ≡ true
  entry_has row right is = sym (cond-true (is_entry row) (has row.path) _ is) ∙ right

  bare : (row : Row) → is_right has row ≡ true → is_entry row ≡ false → (eqb row.rec.flags 0 ≡ true) × (not (eqb row.rec.entries_below 0) ≡ true)
  bare row right is = and_parts (eqb row.rec.flags 0) (not (eqb row.rec.entries_below 0)) (sym (cond-false (is_entry row) (has row.path) _ is) ∙ right)

zero_more : (n : ℕ) → n ≡ 0 → 0 + n ≡ 0
zero_more n h = omega arith

-- some entry stands below, where one is counted
entry_below : (items : List Item) (at : List ℕ) (rows : List Row) → AllByRecursion (λ row. is_right (has_path items) row ≡ true) rows → (count_below is_entry at rows ≡ 0 → ⊥) → is_node items at ≡ true
entry_below items at [] right some = absurd (some refl)
entry_below items at (row ∷ rows) right some = elim (cases_Bool (is_below at row.path && is_entry row)) [
  | inl here ↦
      let parts = and_parts (is_below at row.path) (is_entry row) here in
      below_node items at row.path parts.0 (entry_has (has_path items) row right.0 parts.1)
  | inr not_here ↦
      entry_below items at rows right.1
      (λ none. some (sum_by-cons (λ (r : Row). cond (is_below at r.path && is_entry r) 1 0) row rows
      ∙ ap (λ (n : ℕ). n + count_below is_entry at rows) (cond-false (is_below at row.path && is_entry row) 1 0 not_here) ∙ zero_more (count_below is_entry at rows) none))
]

-- ---- the table

module _ (list : NodeList) (root : dir_of list ≡ None) (docket : Contents) (items : List Item) (agrees : Agrees docket (rows_in list) items) where
  rights : AllByRecursion (λ row. is_right (has_path items) row ≡ true) (rows_in list)
  rights = all_pass (is_right (has_path items)) (rows_in list) agrees.right

  -- the row of a path
  right_at : (at : List ℕ) (row : Row) → row_at (rows_in list) at ≡ Some row → is_right (has_path items) row ≡ true
  right_at at row is = row_each (λ r. is_right (has_path items) r ≡ true) (rows_in list) at row rights is

  -- where no item is, there is no entry
  entryless : (at : List ℕ) (row : Row) → row_at (rows_in list) at ≡ Some row → has_path items at ≡ false → is_entry row ≡ false
  entryless at row is none = elim (cases_Bool (is_entry row)) [
    | inl entry ↦
        absurd (both_ways (has_path items at) none (ap (has_path items) (sym (row_path (rows_in list) at row is)) ∙ entry_has (has_path items) row (right_at at row is) entry))
    | inr bare ↦ bare
  ]

  is_none : (at : List ℕ) → item_at items at ≡ None → has_path items at ≡ false
  is_none at none = sym (item_known items at) ∙ ap is_some none

  no_entry_at : (at : List ℕ) (o : Option Row) → row_at (rows_in list) at ≡ o → has_path items at ≡ false → option_and_then (λ row. entry_of (fields_of row.rec)) o ≡ None
  no_entry_at at None is none = refl
  no_entry_at at (Some row) is none = no_entry row (entryless at row is none)

  no_source_at : (at : List ℕ) (o : Option Row) → row_at (rows_in list) at ≡ o → has_path items at ≡ false → option_and_then (λ row. row.source) o ≡ None
  no_source_at at None is none = refl
  no_source_at at (Some row) is none =
      row_each IsSourcedByEntry (rows_in list) at row (list_sourced list.depth list.bytes.now list.start list.count) is (no_entry row (entryless at row is none))

  no_cache_at : (at : List ℕ) (o : Option Row) → row_at (rows_in list) at ≡ o → option_and_then (λ row. cache_of (fields_of row.rec)) o ≡ None
  no_cache_at at None is = refl
  no_cache_at at (Some row) is = elim (cases_Bool (is_entry row)) [
    | inl entry ↦ no_cache_by (has_entry row.rec.flags) _ _ _ _ entry
    | inr none ↦
        ap (λ (f : ℕ). cache_of (record { flags = f; size = row.rec.size; seconds = row.rec.seconds; nanos = row.rec.nanos }))
        (eqb-true row.rec.flags 0 (bare (has_path items) row (right_at at row is) none).0)
  ]

  entries_same : (at : List ℕ) (o : Option Item) → item_at items at ≡ o → option_and_then (λ row. entry_of (fields_of row.rec)) (row_at (rows_in list) at) ≡ option_map (λ i. entry i.marks) o
  entries_same at None is = no_entry_at at (row_at (rows_in list) at) refl (is_none at is)
  entries_same at (Some i) is =
      let each = item_each (HasNode (rows_in list)) items at i agrees.nodes is in
      ap (λ (p : List ℕ). option_and_then (λ row. entry_of (fields_of row.rec)) (row_at (rows_in list) p)) (sym each.1)
      ∙ ap (option_and_then (λ (row : Row). entry_of (fields_of row.rec))) each.0.at
      ∙ said each.0.row i.marks each.0.entry each.0.flags

  sources_same : (at : List ℕ) (o : Option Item) → item_at items at ≡ o → option_and_then (λ row. row.source) (row_at (rows_in list) at) ≡ option_and_then (λ i. i.source) o
  sources_same at None is = no_source_at at (row_at (rows_in list) at) refl (is_none at is)
  sources_same at (Some i) is =
      let each = item_each (HasNode (rows_in list)) items at i agrees.nodes is in
      ap (λ (p : List ℕ). option_and_then (λ row. row.source) (row_at (rows_in list) p)) (sym each.1)
      ∙ ap (option_and_then (λ (row : Row). row.source)) each.0.at
      ∙ each.0.source

  -- each row counts the entries below it
  counts : are_counted (rows_in list) ≡ true
  counts = (and_parts _ (are_counted (rows_in list)) (and_parts _ _ agrees.counted).0).1

  counted_at : (at : List ℕ) (row : Row) → row_at (rows_in list) at ≡ Some row → row.rec.entries_below ≡ count_below is_entry row.path (rows_in list)
  counted_at at row is =
      let all = all_pass (is_row_counted (rows_in list)) (rows_in list) counts in
      let one = row_each (λ r. is_row_counted (rows_in list) r ≡ true) (rows_in list) at row all is in
      eqb-true row.rec.entries_below (count_below is_entry row.path (rows_in list)) (and_parts _ _ one).0

  -- a row is at a node
  row_node : (at : List ℕ) (row : Row) → row_at (rows_in list) at ≡ Some row → is_node items at ≡ true
  row_node at row is =
      let same = row_path (rows_in list) at row is in elim (cases_Bool (is_entry row)) [
        | inl entry ↦ within_node items at (ap (has_path items) (sym same) ∙ entry_has (has_path items) row (right_at at row is) entry)
        | inr none ↦
            entry_below items at (rows_in list) rights
            (λ zero_below.
            both_ways (not (eqb row.rec.entries_below 0))
            (ap not (eq-eqb row.rec.entries_below 0 (counted_at at row is ∙ ap (λ (p : List ℕ). count_below is_entry p (rows_in list)) same ∙ zero_below)))
            (bare (has_path items) row (right_at at row is) none).1)
      ]

  -- a node has a row
  node_row : (some : List Item) (at : List ℕ) → AllByRecursion (HasNode (rows_in list)) some → is_node some at ≡ true → is_some (row_at (rows_in list) at) ≡ true
  node_row [] at all h = absurd (true≢false (sym h))
  node_row (i ∷ some) at all h = elim (or_split (is_within at i.path) (is_node some at) h) [
    | inl here ↦ elim (within_split at i.path here) [
      | inl same ↦ ap (λ (p : List ℕ). is_some (row_at (rows_in list) p)) (sym same) ∙ ap is_some all.0.at
      | inr below ↦ row_rooted list at i.path (ap (λ (d : Option (List ℕ)). is_above d at) root) below (ap is_some all.0.at)
    ]
    | inr later ↦ node_row some at all.1 later
  ]

  nodes_same : (at : List ℕ) → is_some (row_at (rows_in list) at) ≡ is_node items at
  nodes_same at =
      one_truth (is_some (row_at (rows_in list) at)) (is_node items at)
      (λ some. let found = some_is (row_at (rows_in list) at) some in row_node at found.0 found.1)
      (λ node. node_row items at agrees.nodes node)

  pub same_table : (said : Reading) → said.items ≡ items → docket.p1 ≡ said.p1 → docket.p2 ≡ said.p2 → docket.hash ≡ (table said).hash → IsSame (reading.table_of docket (rows_in list)) (table said)
  same_table said is p1 p2 hash = record {
    p1 = p1;
    p2 = p2;
    hash = hash;
    entries = λ at. entries_same at (item_at items at) refl ∙ ap (λ (all : List Item). option_map (λ i. entry i.marks) (item_at all at)) (sym is);
    sources = λ at. sources_same at (item_at items at) refl ∙ ap (λ (all : List Item). option_and_then (λ i. i.source) (item_at all at)) (sym is);
    nodes = λ at. nodes_same at ∙ ap (λ (all : List Item). is_node all at) (sym is);
    caches = λ at. no_cache_at at (row_at (rows_in list) at) refl;
  }

-- what is seen of the nodes and of the entries tells the table
pub tells : (list : NodeList) (rows : List Row) (docket : Contents) (items : List Item) (has : List ℕ → Bool) → dir_of list ≡ None → rows_in list ≡ rows → AreThePaths has items → list_all (is_right has) (rows_in list) ≡ true
    → AllByRecursion (HasNode (rows_in list)) items → is_counted docket rows ≡ true → Tells docket rows items
tells list rows docket items has root is paths right nodes counted =
    let same : has ≡ has_path items = λ k q. paths q k in
    let agrees : Agrees docket (rows_in list) items =
    record {
      right = ap (λ (test : List ℕ → Bool). list_all (is_right test) (rows_in list)) (sym same) ∙ right;
      nodes = nodes;
      counted = ap (is_counted docket) is ∙ counted;
    } in record {
      counted = counted;
      same = λ said items_are p1 p2 hash. subst (λ (all : List Row). IsSame (reading.table_of docket all) (table said)) is (same_table list root docket items agrees said items_are p1 p2 hash);
    }
