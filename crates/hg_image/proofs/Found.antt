-- The rows of a list of an image, by their paths.
use Rattle.std.proofs.Common.{ℕ, zero, suc, ◌≡◌, ◌+◌, ◌-◌, ◌*◌, ◌<◌, ◌≤◌, Bool, true, false, cond, List, [], ◌∷◌, ◌++◌, Option, Some, None, ◌⊎◌, inl, inr, refl, sym, ap, ◌∙◌, subst, arith, true≢false}
use Rattle.std.specs.Prelude.{is_some}
use Rattle.std.specs.Option.{option_map, IfSome}
use Rattle.std.specs.List.{AllByRecursion}
use Rattle.std.specs.Str.{bytes_eq}
use Rattle.std.proofs.lemmas.Bool.{both_ways, cases_Bool, cases_order, cond-false, cond-true, false_from_ne_true}
use Rattle.hg_base.specs.PathText.{base_of, has_slash, is_below, is_path, is_same_dir, joined, parent_of}
use Rattle.hg_base.specs.Within.{is_above}
use Rattle.hg_base.proofs.Below.{below_compared, below_itself, below_joined, below_name, below_not_back, below_of_joined, below_trans}
use Rattle.hg_base.proofs.Components.{joined_parent}
use Rattle.hg_base.proofs.Paths.{path_base_plain}
use Rattle.hg_base.proofs.Within.{above_is, above_none, apart_below, equal_bytes, same_bytes, within_itself, within_split}
use Rattle.hg_node.specs.declared.record.Rec.{Rec}
use Rattle.hg_image.specs.Node.{path_of, record_at}
use Rattle.hg_image.specs.Reading.{row_at}
use Rattle.hg_image.specs.Rows.{Row, list_rows, nodes_rows, row_of}
use Rattle.hg_image.specs.View.{Finds, IsMember, dir_of, row, rows_below, rows_in}
use Rattle.hg_image.specs.Walk.{list_fault}
use Rattle.hg_image.specs.declared.opened.List.{List as NodeList}
use Rattle.hg_image.specs.declared.opened.NodeRef.{NodeRef}
use Rattle.hg_image.proofs.Apart.{In, Later, each_then, kids_of, list_later, one_name, stands_at_name, under_name}
use Rattle.hg_image.proofs.Names.{less_differs, name_in, names_rise}
use Rattle.hg_image.proofs.RowsOf.{rows_end, rows_step, rows_whole}
use Rattle.hg_image.proofs.Sound.{before_at, list_at}
use Rattle.hg_image.proofs.Walk.{below}
use Rattle.hg_image.specs.Found.{HasBelow, level, own_rows}

-- ---- rows by path

-- the first, where it is there, else the second
abbrev pub or_else : Option Row → Option Row → Option Row
or_else None second = second
or_else (Some first) second = Some first

or_none : (o : Option Row) → or_else o None ≡ o
or_none None = refl
or_none (Some row) = refl

at_step : (b : Bool) (x : Row) (xs ys : Option Row) → cond b (Some x) (or_else xs ys) ≡ or_else (cond b (Some x) xs) ys
at_step true x xs ys = refl
at_step false x xs ys = refl

pub row_append : (xs ys : List Row) (at : List ℕ) → row_at (xs ++ ys) at ≡ or_else (row_at xs at) (row_at ys at)
row_append [] ys at = refl
row_append (x ∷ xs) ys at =
    ap (cond (bytes_eq x.path at) (Some x)) (row_append xs ys at) ∙ at_step (bytes_eq x.path at) x (row_at xs at) (row_at ys at)

-- no row is of a path
pub row_none : (rows : List Row) (at : List ℕ) → AllByRecursion (λ r. bytes_eq r.path at ≡ false) rows → row_at rows at ≡ None
row_none [] at h = refl
row_none (r ∷ rows) at h = cond-false (bytes_eq r.path at) (Some r) (row_at rows at) h.0 ∙ row_none rows at h.1

some_row : (a b : Row) → Some a ≡ Some b → a ≡ b
some_row a b e = cc

-- the row of a path is of that path
pub row_path : (rows : List Row) (at : List ℕ) (r : Row) → row_at rows at ≡ Some r → r.path ≡ at
row_path [] at r h = absurd (cc)
row_path (x ∷ rows) at r h = elim (cases_Bool (bytes_eq x.path at)) [
  | inl same ↦
      let is : x ≡ r = some_row x r (sym (cond-true (bytes_eq x.path at) (Some x) (row_at rows at) same) ∙ h) in
      sym (ap (λ (y : Row). y.path) is) ∙ same_bytes x.path at same
  | inr other ↦ row_path rows at r (sym (cond-false (bytes_eq x.path at) (Some x) (row_at rows at) other) ∙ h)
]

-- what is so of each row is so of that of a path
pub row_each : (P : Row → Type 0) (rows : List Row) (at : List ℕ) (r : Row) → AllByRecursion P rows → row_at rows at ≡ Some r → P r
row_each P [] at r all h = absurd (cc)
row_each P (x ∷ rows) at r all h = elim (cases_Bool (bytes_eq x.path at)) [
  | inl same ↦ subst P (some_row x r (sym (cond-true (bytes_eq x.path at) (Some x) (row_at rows at) same) ∙ h)) all.0
  | inr other ↦ row_each P rows at r all.1 (sym (cond-false (bytes_eq x.path at) (Some x) (row_at rows at) other) ∙ h)
]

each_append : (P : Row → Type 0) (a b : List Row) → AllByRecursion P a → AllByRecursion P b → AllByRecursion P (a ++ b)
each_append P [] b p q = q
each_append P (r ∷ a) b p q = (p.0, each_append P a b p.1 q)

pub none_is : (o : Option Row) → (is_some o ≡ true → ⊥) → o ≡ None
none_is None h = refl
none_is (Some r) h = absurd (h refl)

some_is : (o : Option Row) → is_some o ≡ true → (r : Row) × (o ≡ Some r)
some_is None h = absurd (true≢false (sym h))
some_is (Some r) h = (r, refl)

-- ---- a directory and a name in it

-- nothing stands between them
nothing_between : (dir : Option (List ℕ)) (name d : List ℕ) → has_slash name ≡ false → is_above dir d ≡ true → is_below d (joined dir name) ≡ true → ⊥
nothing_between None name d plain above h = both_ways (is_below d name) (below_name d name plain) h
nothing_between (Some dir) name d plain above h = elim (below_of_joined d dir name plain h) [
  | inl e ↦ both_ways (is_below dir d) (ap (is_below dir) e ∙ below_itself dir) above
  | inr more ↦ both_ways (is_below dir d) (below_not_back d dir more) above
]

-- what stands at a name stands above the directory's names
in_above : (dir : Option (List ℕ)) (name at : List ℕ) → In dir name at → is_above dir at ≡ true
in_above None name at stands = refl
in_above (Some dir) name at stands = elim stands.place [
  | inl e ↦ ap (is_below dir) e ∙ below_joined dir name
  | inr e ↦ below_trans dir (dir ++ 47 ∷ name) at (below_joined dir name) e
]

-- ---- the nodes of a list

abbrev pub rec_in : List ℕ → ℕ → ℕ → Rec
rec_in bytes start i = record_at bytes (start + 44 * i)

abbrev under_in : ℕ → List ℕ → ℕ → ℕ → List Row
under_in depth bytes start i = list_rows (depth - 1) bytes (rec_in bytes start i).kids_start (rec_in bytes start i).kids_count

abbrev rows_at : ℕ → List ℕ → ℕ → ℕ → ℕ → List Row
rows_at depth bytes start count i = nodes_rows (list_rows (depth - 1) bytes) bytes (start + 44 * i) (count - i)

next_rows : (depth : ℕ) (bytes : List ℕ) (start count i : ℕ) → i < count
    → rows_at depth bytes start count i ≡ row_of bytes (rec_in bytes start i) ∷ (under_in depth bytes start i ++ rows_at depth bytes start count (suc i))
next_rows depth bytes start count i inside =
    let next : start + 44 * i + 44 ≡ start + 44 * suc i = omega arith in
    let less : count - i - 1 ≡ count - suc i = omega arith in
    let kids = list_rows (depth - 1) bytes in
    rows_step kids bytes (start + 44 * i) (count - i) (omega arith)
    ∙ (λ k. row_of bytes (rec_in bytes start i) ∷ (under_in depth bytes start i ++ nodes_rows kids bytes (next k) (less k)))

pub own_next : (bytes : List ℕ) (start count i : ℕ) → i < count
    → own_rows bytes (start + 44 * i) (count - i) ≡ row_of bytes (rec_in bytes start i) ∷ own_rows bytes (start + 44 * suc i) (count - suc i)
unfolding own_rows
own_next bytes start count i inside = step (count - i) (omega arith)
  where
    step : (n : ℕ) → n ≡ suc (count - suc i) → own_rows bytes (start + 44 * i) n ≡ row_of bytes (rec_in bytes start i) ∷ own_rows bytes (start + 44 * suc i) (count - suc i)
    step n e = let next : start + 44 * i + 44 ≡ start + 44 * suc i = omega arith in ap (own_rows bytes (start + 44 * i)) e ∙ ap (λ (at : ℕ). row_of bytes (rec_in bytes start i) ∷ own_rows bytes at (count - suc i)) next

pub own_end : (bytes : List ℕ) (at n : ℕ) → n ≡ 0 → own_rows bytes at n ≡ []
unfolding own_rows
own_end bytes at n e = rw e refl

-- some name is this, or none is
search_name : (bytes : List ℕ) (start n : ℕ) (m : List ℕ) → ((i : ℕ) × (i < n) × (name_in bytes start i ≡ m)) ⊎ ((i : ℕ) → i < n → name_in bytes start i ≡ m → ⊥)
search_name bytes start zero m = inr (λ i inside same. omega arith)
search_name bytes start (suc n) m = elim (cases_Bool (bytes_eq (name_in bytes start n) m)) [
  | inl same ↦ inl (n, omega arith, same_bytes (name_in bytes start n) m same)
  | inr other ↦ elim (search_name bytes start n m) [
    | inl found ↦ inl (found.0, omega (arith, found.1), found.2)
    | inr none ↦ inr (λ i inside same. elim (cases_order i n) [
      | inl e ↦ both_ways (bytes_eq (name_in bytes start n) m) other (ap (λ (k : ℕ). bytes_eq (name_in bytes start k) m) (sym e) ∙ ap (λ (x : List ℕ). bytes_eq x m) same ∙ equal_bytes m)
      | inr (inl l) ↦ none i l same
      | inr (inr g) ↦ omega arith
    ])
  ]
]

module _ (depth : ℕ) (bytes : List ℕ) (dir : Option (List ℕ)) (start count : ℕ) (sound : list_fault depth bytes dir start count ≡ None) where
  stands : (i : ℕ) → i < count → In dir (name_in bytes start i) (path_of bytes (rec_in bytes start i))
  stands i inside = stands_at_name bytes dir (before_at bytes None start i) (rec_in bytes start i) (list_at depth bytes dir start count i inside sound).node

  pub whole : (i : ℕ) → i < count → path_of bytes (rec_in bytes start i) ≡ joined dir (name_in bytes start i)
  whole i inside =
      sym (joined_parent (path_of bytes (rec_in bytes start i)))
      ∙ ap (λ (d : Option (List ℕ)). joined d (name_in bytes start i)) (list_at depth bytes dir start count i inside sound).node.parent

  under : (i : ℕ) → i < count → AllByRecursion (λ r. In dir (name_in bytes start i) r.path) (under_in depth bytes start i)
  under i inside =
      let member = list_at depth bytes dir start count i inside sound in
      under_name (below (depth - 1) bytes) (list_rows (depth - 1) bytes) (kids_of (depth - 1) bytes (list_later (depth - 1) bytes)) bytes dir (before_at bytes None start i) (rec_in bytes start i) member.node member.under

  kids_below : (i : ℕ) → i < count → AllByRecursion (λ r. is_below (path_of bytes (rec_in bytes start i)) r.path ≡ true) (under_in depth bytes start i)
  kids_below i inside =
      let member = list_at depth bytes dir start count i inside sound in
      kids_of (depth - 1) bytes (list_later (depth - 1) bytes) (path_of bytes (rec_in bytes start i)) (rec_in bytes start i).kids_start (rec_in bytes start i).kids_count member.under

  -- what stands at another name is of another path
  other_path : (m at : List ℕ) (i : ℕ) (path : List ℕ) → In dir m at → (name_in bytes start i ≡ m → ⊥) → In dir (name_in bytes start i) path → bytes_eq path at ≡ false
  other_path m at i path here differs there =
      false_from_ne_true (bytes_eq path at) (λ t.
      differs (one_name dir (name_in bytes start i) m at (subst (In dir (name_in bytes start i)) (same_bytes path at t) there) here))

  skips : (m at : List ℕ) (i : ℕ) → i < count → In dir m at → (name_in bytes start i ≡ m → ⊥)
      → row_at (rows_at depth bytes start count i) at ≡ row_at (rows_at depth bytes start count (suc i)) at
  skips m at i inside here differs =
      let rest = rows_at depth bytes start count (suc i) in
      let kids = under_in depth bytes start i in
      ap (λ (rows : List Row). row_at rows at) (next_rows depth bytes start count i inside)
      ∙ cond-false (bytes_eq (path_of bytes (rec_in bytes start i)) at) (Some (row_of bytes (rec_in bytes start i))) (row_at (kids ++ rest) at)
      (other_path m at i (path_of bytes (rec_in bytes start i)) here differs (stands i inside))
      ∙ row_append kids rest at
      ∙ ap (λ (o : Option Row). or_else o (row_at rest at))
      (row_none kids at
      (each_then (λ r. In dir (name_in bytes start i) r.path) (λ r. bytes_eq r.path at ≡ false) (λ r there. other_path m at i r.path here differs there) kids (under i inside)))

  none_from : (m at : List ℕ) (n i : ℕ) → n + i ≡ count → In dir m at → ((k : ℕ) → i ≤ k → k < count → name_in bytes start k ≡ m → ⊥) → row_at (rows_at depth bytes start count i) at ≡ None
  none_from m at zero i e here differ =
      ap (λ (rows : List Row). row_at rows at) (rows_end (list_rows (depth - 1) bytes) bytes (start + 44 * i) (count - i) (omega arith))
  none_from m at (suc n) i e here differ =
      skips m at i (omega arith) here (differ i (omega arith) (omega arith))
      ∙ none_from m at n (suc i) (omega arith) here (λ k from inside. differ k (omega arith) inside)

  from_first : (m at : List ℕ) (i : ℕ) → i ≤ count → In dir m at → ((k : ℕ) → k < i → name_in bytes start k ≡ m → ⊥)
      → row_at (rows_at depth bytes start count 0) at ≡ row_at (rows_at depth bytes start count i) at
  from_first m at zero upto here differ = refl
  from_first m at (suc i) upto here differ =
      from_first m at i (omega arith) here (λ k less. differ k (omega arith)) ∙ skips m at i (omega arith) here (differ i (omega arith))

  all_rows : list_rows depth bytes start count ≡ rows_at depth bytes start count 0
  all_rows =
      let first : start + 44 * 0 ≡ start = omega arith in
      let all : count - 0 ≡ count = omega arith in
      rw (first, all) (rows_whole depth bytes dir start count sound)

  -- at a name of which there is no node, and below it, there is nothing
  no_name : (m at : List ℕ) → In dir m at → ((i : ℕ) → i < count → name_in bytes start i ≡ m → ⊥) → row_at (list_rows depth bytes start count) at ≡ None
  no_name m at here differ =
      ap (λ (rows : List Row). row_at rows at) all_rows ∙ none_from m at count 0 (omega arith) here (λ k from inside. differ k inside)

  -- at the name of a node, and below it, there is what is so of the node
  at_name : (m at : List ℕ) (i : ℕ) → i < count → In dir m at → name_in bytes start i ≡ m
      → row_at (list_rows depth bytes start count) at ≡ cond (bytes_eq (path_of bytes (rec_in bytes start i)) at) (Some (row_of bytes (rec_in bytes start i))) (row_at (under_in depth bytes start i) at)
  at_name m at i inside here same =
      let rest = rows_at depth bytes start count (suc i) in
      let kids = under_in depth bytes start i in
      let path = path_of bytes (rec_in bytes start i) in
      let own = Some (row_of bytes (rec_in bytes start i)) in
      ap (λ (rows : List Row). row_at rows at) all_rows
      ∙ from_first m at i (omega arith) here (λ k less e. less_differs (name_in bytes start k) (name_in bytes start i) (names_rise depth bytes dir start count sound k i less inside) (e ∙ sym same))
      ∙ ap (λ (rows : List Row). row_at rows at) (next_rows depth bytes start count i inside)
      ∙ ap (cond (bytes_eq path at) own)
      (row_append kids rest at
      ∙ ap (or_else (row_at kids at))
      (none_from m at (count - suc i) (suc i) (omega arith) here
      (λ k from within e. less_differs (name_in bytes start i) (name_in bytes start k) (names_rise depth bytes dir start count sound i k (omega arith) within) (same ∙ sym e)))
      ∙ or_none (row_at kids at))

  -- the same at a node, below it, and right in the directory
  pub at_node : (i : ℕ) → i < count → row_at (list_rows depth bytes start count) (path_of bytes (rec_in bytes start i)) ≡ Some (row_of bytes (rec_in bytes start i))
  at_node i inside =
      let path = path_of bytes (rec_in bytes start i) in
      at_name (name_in bytes start i) path i inside (stands i inside) refl
      ∙ cond-true (bytes_eq path path) (Some (row_of bytes (rec_in bytes start i))) (row_at (under_in depth bytes start i) path) (equal_bytes path)

  below_stands : (i : ℕ) → i < count → (at : List ℕ) → is_below (path_of bytes (rec_in bytes start i)) at ≡ true → In dir (name_in bytes start i) at
  below_stands i inside at h = record {
    plain = (stands i inside).plain;
    place = inr (ap (λ (p : List ℕ). is_below p at) (sym (whole i inside)) ∙ h);
  }

  pub at_below : (i : ℕ) → i < count → (at : List ℕ) → is_below (path_of bytes (rec_in bytes start i)) at ≡ true
      → row_at (list_rows depth bytes start count) at ≡ row_at (under_in depth bytes start i) at
  at_below i inside at h =
      let path = path_of bytes (rec_in bytes start i) in
      at_name (name_in bytes start i) at i inside (below_stands i inside at h) refl
      ∙ cond-false (bytes_eq path at) (Some (row_of bytes (rec_in bytes start i))) (row_at (under_in depth bytes start i) at) (apart_below path at h)

  right_in : (at : List ℕ) → is_path at ≡ true → parent_of at ≡ dir → In dir (base_of at) at
  right_in at good placed = record {
    plain = path_base_plain at good;
    place = inl (sym (joined_parent at) ∙ ap (λ (d : Option (List ℕ)). joined d (base_of at)) placed);
  }

  -- each row is at a path
  each_from : (P : Row → Type 0) → ((i : ℕ) → i < count → P (row_of bytes (rec_in bytes start i))) → ((i : ℕ) → i < count → AllByRecursion P (under_in depth bytes start i))
      → (n i : ℕ) → n + i ≡ count → AllByRecursion P (rows_at depth bytes start count i)
  each_from P own kids zero i e = subst (AllByRecursion P) (sym (rows_end (list_rows (depth - 1) bytes) bytes (start + 44 * i) (count - i) (omega arith))) tt
  each_from P own kids (suc n) i e =
      subst (AllByRecursion P) (sym (next_rows depth bytes start count i (omega arith)))
      (own i (omega arith), each_append P (under_in depth bytes start i) (rows_at depth bytes start count (suc i)) (kids i (omega arith)) (each_from P own kids n (suc i) (omega arith)))

  each_row : (P : Row → Type 0) → ((i : ℕ) → i < count → P (row_of bytes (rec_in bytes start i))) → ((i : ℕ) → i < count → AllByRecursion P (under_in depth bytes start i))
      → AllByRecursion P (list_rows depth bytes start count)
  each_row P own kids = subst (AllByRecursion P) (sym all_rows) (each_from P own kids count 0 (omega arith))

abbrev IsAtPath : Row → Type 0
IsAtPath r = is_path r.path ≡ true

list_paths : (depth : ℕ) (bytes : List ℕ) (dir : Option (List ℕ)) (start count : ℕ) → list_fault depth bytes dir start count ≡ None → AllByRecursion IsAtPath (list_rows depth bytes start count)
unfolding list_rows
list_paths zero bytes dir start count sound = tt
list_paths (suc depth) bytes dir start count sound =
    let same : suc depth - 1 ≡ depth = omega arith in
    each_row (suc depth) bytes dir start count sound IsAtPath (λ i inside. (list_at (suc depth) bytes dir start count i inside sound).node.path)
    (λ i inside.
    let under = (list_at (suc depth) bytes dir start count i inside sound).under in
    let kids = list_paths depth bytes (Some (path_of bytes (rec_in bytes start i))) (rec_in bytes start i).kids_start (rec_in bytes start i).kids_count (rw same at under) in
    rw same kids)

none_deep : (bytes : List ℕ) (start count : ℕ) (at : List ℕ) → is_some (row_at (list_rows 0 bytes start count) at) ≡ true → ⊥
unfolding list_rows
none_deep bytes start count at some = true≢false (sym some)

-- what stands above a row in the list's directory is a row too
list_rooted : (depth : ℕ) (bytes : List ℕ) (dir : Option (List ℕ)) (start count : ℕ) → list_fault depth bytes dir start count ≡ None
    → (d at : List ℕ) → is_above dir d ≡ true → is_below d at ≡ true → is_some (row_at (list_rows depth bytes start count) at) ≡ true → is_some (row_at (list_rows depth bytes start count) d) ≡ true
list_rooted zero bytes dir start count sound d at above h some = absurd (none_deep bytes start count at some)
list_rooted (suc depth) bytes dir start count sound d at above h some =
    let rows = list_rows (suc depth) bytes start count in
    let found = some_is (row_at rows at) some in
    let later = row_each (λ r. Later dir None r.path) rows at found.0 (list_later (suc depth) bytes dir start count sound) found.1 in
    let here : In dir later.name at = subst (In dir later.name) (row_path rows at found.0 found.1) later.stands in
    elim (search_name bytes start count later.name) [
      | inr none ↦ absurd (true≢false (sym some ∙ ap is_some (no_name (suc depth) bytes dir start count sound later.name at here none)))
      | inl node ↦ at_one node.0 node.1 later.name here node.2 (cases_Bool (bytes_eq (path_of bytes (rec_in bytes start node.0)) at))
          (λ under_d under_at. list_rooted depth bytes (Some (path_of bytes (rec_in bytes start node.0))) (rec_in bytes start node.0).kids_start (rec_in bytes start node.0).kids_count
          (sound_under node.0 node.1) d at under_d h under_at)
    ]
  where
    same : suc depth - 1 ≡ depth
    same = omega arith

    sound_under : (i : ℕ) → i < count → list_fault depth bytes (Some (path_of bytes (rec_in bytes start i))) (rec_in bytes start i).kids_start (rec_in bytes start i).kids_count ≡ None
    sound_under i inside = let under = (list_at (suc depth) bytes dir start count i inside sound).under in rw same at under

    not_before : (i : ℕ) → i < count → is_below d (path_of bytes (rec_in bytes start i)) ≡ true → ⊥
    not_before i inside below_it =
        nothing_between dir (name_in bytes start i) d (stands (suc depth) bytes dir start count sound i inside).plain above (ap (is_below d) (sym (whole (suc depth) bytes dir start count sound i inside)) ∙ below_it)

    at_one : (i : ℕ) (inside : i < count) (m : List ℕ) → In dir m at → name_in bytes start i ≡ m
        → (bytes_eq (path_of bytes (rec_in bytes start i)) at ≡ true) ⊎ (bytes_eq (path_of bytes (rec_in bytes start i)) at ≡ false)
        → (is_below (path_of bytes (rec_in bytes start i)) d ≡ true → is_some (row_at (list_rows depth bytes (rec_in bytes start i).kids_start (rec_in bytes start i).kids_count) at) ≡ true
        → is_some (row_at (list_rows depth bytes (rec_in bytes start i).kids_start (rec_in bytes start i).kids_count) d) ≡ true)
        → is_some (row_at (list_rows (suc depth) bytes start count) d) ≡ true
    at_one i inside m here named (inl own) more =
        absurd (not_before i inside (ap (is_below d) (same_bytes (path_of bytes (rec_in bytes start i)) at own) ∙ h))
    at_one i inside m here named (inr other) more =
        let path = path_of bytes (rec_in bytes start i) in
        let kids = under_in (suc depth) bytes start i in
        let shown : is_some (row_at kids at) ≡ true =
        sym (ap is_some
        (at_name (suc depth) bytes dir start count sound m at i inside here named ∙ cond-false (bytes_eq path at) (Some (row_of bytes (rec_in bytes start i))) (row_at kids at) other))
        ∙ some in
        let row_under = some_is (row_at kids at) shown in
        let stands_below : is_below path at ≡ true =
        ap (is_below path) (sym (row_path kids at row_under.0 row_under.1))
        ∙ row_each (λ r. is_below path r.path ≡ true) kids at row_under.0 (kids_below (suc depth) bytes dir start count sound i inside) row_under.1 in
        elim (below_compared d path at h stands_below) [
          | inl e ↦ ap (λ (p : List ℕ). is_some (row_at (list_rows (suc depth) bytes start count) p)) e ∙ ap is_some (at_node (suc depth) bytes dir start count sound i inside)
          | inr (inl before) ↦ absurd (not_before i inside before)
          | inr (inr under_it) ↦ ap is_some (at_below (suc depth) bytes dir start count sound i inside d under_it) ∙ rw same (more under_it (rw same at shown))
        ]

-- ---- lists and nodes

-- a node that a list answers at a place is one of the list's
pub got_member : (list : NodeList) (i : ℕ) (node : NodeRef) → i < list.count → node.rec ≡ record_at list.bytes.now (list.start + 44 * i) → node.bytes.now ≡ list.bytes.now → node.depth + 1 ≡ list.depth
    → IsMember list node
got_member list i node inside rec bytes levels = record { place = i; inside = inside; rec = rec; bytes = bytes; levels = levels }

-- what is below a node of a list is so in the list
pub below_member : (list : NodeList) (node : NodeRef) → IsMember list node → (at : List ℕ) → is_below (row node).path at ≡ true → row_at (rows_below node) at ≡ row_at (rows_in list) at
below_member list node member at h =
    let depth : node.depth ≡ list.depth - 1 = omega (arith, member.levels) in
    (λ k. row_at (list_rows (depth k) (member.bytes k) (member.rec k).kids_start (member.rec k).kids_count) at)
    ∙ sym (at_below list.depth list.bytes.now (dir_of list) list.start list.count list.is_sound member.place member.inside at ((λ k. is_below (path_of (sym member.bytes k) (sym member.rec k)) at) ∙ h))

-- a node of a list is the row of its path
pub row_member : (list : NodeList) (node : NodeRef) → IsMember list node → row_at (rows_in list) (row node).path ≡ Some (row node)
row_member list node member =
    (λ k. row_at (rows_in list) (path_of (member.bytes k) (member.rec k)))
    ∙ at_node list.depth list.bytes.now (dir_of list) list.start list.count list.is_sound member.place member.inside
    ∙ (λ k. Some (row_of (sym member.bytes k) (sym member.rec k)))

-- it stands right in the list's directory
pub dir_member : (list : NodeList) (node : NodeRef) → IsMember list node → parent_of (row node).path ≡ dir_of list
dir_member list node member =
    (λ k. parent_of (path_of (member.bytes k) (member.rec k)))
    ∙ (list_at list.depth list.bytes.now (dir_of list) list.start list.count member.place member.inside list.is_sound).node.parent

-- a look-up by the name of a path right in the list's directory finds its row
pub found_row : (list : NodeList) (path : List ℕ) (found : Option NodeRef) → is_path path ≡ true → parent_of path ≡ dir_of list → Finds list (base_of path) found
    → option_map row found ≡ row_at (rows_in list) path
found_row list path None good placed finds =
    sym (no_name list.depth list.bytes.now (dir_of list) list.start list.count list.is_sound (base_of path) path
    (right_in list.depth list.bytes.now (dir_of list) list.start list.count list.is_sound path good placed) finds)
found_row list path (Some node) good placed finds =
    let is : (row node).path ≡ path =
    sym (joined_parent (row node).path) ∙ (λ k. joined ((dir_member list node finds.1 ∙ sym placed) k) (finds.0 k)) ∙ joined_parent path in
    sym (row_member list node finds.1) ∙ ap (row_at (rows_in list)) is

-- the row of a path is of that path, which is one and stands below the list's directory
pub row_is_path : (list : NodeList) (at : List ℕ) → is_some (row_at (rows_in list) at) ≡ true → is_path at ≡ true
row_is_path list at some =
    let found = some_is (row_at (rows_in list) at) some in
    ap is_path (sym (row_path (rows_in list) at found.0 found.1))
    ∙ row_each IsAtPath (rows_in list) at found.0 (list_paths list.depth list.bytes.now (dir_of list) list.start list.count list.is_sound) found.1

pub row_above : (list : NodeList) (at : List ℕ) → is_some (row_at (rows_in list) at) ≡ true → is_above (dir_of list) at ≡ true
row_above list at some =
    let found = some_is (row_at (rows_in list) at) some in
    let later = row_each (λ r. Later (dir_of list) None r.path) (rows_in list) at found.0 (list_later list.depth list.bytes.now (dir_of list) list.start list.count list.is_sound) found.1 in
    in_above (dir_of list) later.name at (subst (In (dir_of list) later.name) (row_path (rows_in list) at found.0 found.1) later.stands)

-- what stands above it in that directory is a row too
pub row_rooted : (list : NodeList) (dir at : List ℕ) → is_above (dir_of list) dir ≡ true → is_below dir at ≡ true → is_some (row_at (rows_in list) at) ≡ true → is_some (row_at (rows_in list) dir) ≡ true
row_rooted list dir at above h some = list_rooted list.depth list.bytes.now (dir_of list) list.start list.count list.is_sound dir at above h some

-- ---- a path below a list's directory

pub parent_below : (path dir : List ℕ) → is_path path ≡ true → parent_of path ≡ Some dir → is_below dir path ≡ true
parent_below path dir good is = above_is dir path good is dir ∙ within_itself dir

-- where it doesn't stand right in it, its directory is below that one too
pub parent_above : (dir : Option (List ℕ)) (path d : List ℕ) → is_path path ≡ true → is_above dir path ≡ true → is_same_dir dir (parent_of path) ≡ false → parent_of path ≡ Some d → is_above dir d ≡ true
parent_above None path d good above other is = refl
parent_above (Some l) path d good above other is = elim (within_split l d (sym (above_is d path good is l) ∙ above)) [
  | inl e ↦ absurd (both_ways (is_same_dir (Some l) (parent_of path)) other (ap (is_same_dir (Some l)) is ∙ ap (bytes_eq l) e ∙ equal_bytes l))
  | inr more ↦ more
]

pub no_parent : (dir : Option (List ℕ)) (path : List ℕ) → is_path path ≡ true → is_above dir path ≡ true → is_same_dir dir (parent_of path) ≡ false → parent_of path ≡ None → ⊥
no_parent None path good above other is = both_ways (is_same_dir None (parent_of path)) other (ap (is_same_dir None) is)
no_parent (Some l) path good above other is = both_ways (is_below l path) (above_none path good is l) above

-- where no row is of its directory, none is of it
pub row_missing : (list : NodeList) (path d : List ℕ) → is_path path ≡ true → is_above (dir_of list) d ≡ true → parent_of path ≡ Some d → row_at (rows_in list) d ≡ None → row_at (rows_in list) path ≡ None
row_missing list path d good above is none =
    none_is (row_at (rows_in list) path) (λ some. true≢false (sym (row_rooted list d path above (parent_below path d good is) some) ∙ ap is_some none))

-- what stands below a node of a list is so in it
pub found_kept : (list : NodeList) (name : List ℕ) (found : Option NodeRef) → Finds list name found → IfSome found (HasBelow list)
found_kept list name None finds = tt
found_kept list name (Some node) finds = λ at h. below_member list node finds.1 at h

-- the node of its directory, and the list of that one's children
module _ (list kids : NodeList) (node : NodeRef) (has : HasBelow list node) (rows : rows_in kids ≡ rows_below node) (dir : dir_of kids ≡ Some (row node).path) where
  pub found_below : (path d : List ℕ) (found : Option NodeRef) → is_path path ≡ true → parent_of path ≡ Some d → Some (row node) ≡ row_at (rows_in list) d → Finds kids (base_of path) found
      → option_map row found ≡ row_at (rows_in list) path
  found_below path d found good is here finds =
      let own : (row node).path ≡ d = row_path (rows_in list) d (row node) (sym here) in
      found_row kids path found good (is ∙ ap Some (sym own) ∙ sym dir) finds
      ∙ ap (λ (r : List Row). row_at r path) rows
      ∙ has path (ap (λ (p : List ℕ). is_below p path) own ∙ parent_below path d good is)

  pub kept_below : (name : List ℕ) (found : Option NodeRef) → Finds kids name found → IfSome found (HasBelow list)
  kept_below name None finds = tt
  kept_below name (Some kid) finds = λ at h.
      below_member kids kid finds.1 at h
      ∙ ap (λ (r : List Row). row_at r at) rows
      ∙ has at (below_trans (row node).path (row kid).path at (parent_below (row kid).path (row node).path kid.is_path (dir_member kids kid finds.1 ∙ dir)) h)

-- ---- the nodes of a list, without those below them

pub level_next : (list : NodeList) (i : ℕ) → i < list.count → level list i ≡ row_of list.bytes.now (record_at list.bytes.now (list.start + 44 * i)) ∷ level list (i + 1)
level_next list i inside =
    let next : suc i ≡ i + 1 = omega arith in
    own_next list.bytes.now list.start list.count i inside
    ∙ ap (λ (k : ℕ). row_of list.bytes.now (record_at list.bytes.now (list.start + 44 * i)) ∷ level list k) next

-- the same with the node that the list answers there
pub level_got : (list : NodeList) (i : ℕ) (node : NodeRef) → i < list.count → node.rec ≡ record_at list.bytes.now (list.start + 44 * i) → node.bytes.now ≡ list.bytes.now
    → level list i ≡ row node ∷ level list (i + 1)
level_got list i node inside rec bytes = level_next list i inside ∙ (λ k. row_of (sym bytes k) (sym rec k) ∷ level list (i + 1))

pub level_end : (list : NodeList) (i : ℕ) → list.count ≤ i → level list i ≡ []
level_end list i past = own_end list.bytes.now (list.start + 44 * i) (list.count - i) (omega arith)

module _ (depth : ℕ) (bytes : List ℕ) (dir : Option (List ℕ)) (start count : ℕ) (sound : list_fault depth bytes dir start count ≡ None) (at : List ℕ) (placed : parent_of at ≡ dir) where
  kids_elsewhere : (i : ℕ) → i < count → row_at (under_in depth bytes start i) at ≡ None
  kids_elsewhere i inside =
      let path = path_of bytes (rec_in bytes start i) in
      let kids = under_in depth bytes start i in
      let there = stands depth bytes dir start count sound i inside in
      none_is (row_at kids at) (λ some.
      let found = some_is (row_at kids at) some in
      let same = row_path kids at found.0 found.1 in
      let good : is_path at ≡ true =
      ap is_path (sym same)
      ∙ row_each IsAtPath kids at found.0
      (list_paths (depth - 1) bytes (Some path) (rec_in bytes start i).kids_start (rec_in bytes start i).kids_count (list_at depth bytes dir start count i inside sound).under) found.1 in
      let under_it : is_below path at ≡ true =
      ap (is_below path) (sym same) ∙ row_each (λ r. is_below path r.path ≡ true) kids at found.0 (kids_below depth bytes dir start count sound i inside) found.1 in
      let is : at ≡ joined dir (base_of at) = sym (joined_parent at) ∙ ap (λ (d : Option (List ℕ)). joined d (base_of at)) placed in
      nothing_between dir (base_of at) path (path_base_plain at good) (in_above dir (name_in bytes start i) path there) (ap (is_below path) (sym is) ∙ under_it))

  own_from : (n i : ℕ) → n + i ≡ count → row_at (rows_at depth bytes start count i) at ≡ row_at (own_rows bytes (start + 44 * i) (count - i)) at
  own_from zero i e =
      ap (λ (rows : List Row). row_at rows at) (rows_end (list_rows (depth - 1) bytes) bytes (start + 44 * i) (count - i) (omega arith) ∙ sym (own_end bytes (start + 44 * i) (count - i) (omega arith)))
  own_from (suc n) i e =
      let rest = rows_at depth bytes start count (suc i) in
      let kids = under_in depth bytes start i in
      let own = row_of bytes (rec_in bytes start i) in
      ap (λ (rows : List Row). row_at rows at) (next_rows depth bytes start count i (omega arith))
      ∙ ap (cond (bytes_eq own.path at) (Some own))
      (row_append kids rest at ∙ ap (λ (o : Option Row). or_else o (row_at rest at)) (kids_elsewhere i (omega arith)) ∙ own_from n (suc i) (omega arith))
      ∙ sym (ap (λ (rows : List Row). row_at rows at) (own_next bytes start count i (omega arith)))

-- the row of a path right in the list's directory is that of one of the list's own nodes
pub level_row : (list : NodeList) (at : List ℕ) → parent_of at ≡ dir_of list → row_at (rows_in list) at ≡ row_at (level list 0) at
level_row list at placed =
    ap (λ (rows : List Row). row_at rows at) (all_rows list.depth list.bytes.now (dir_of list) list.start list.count list.is_sound)
    ∙ own_from list.depth list.bytes.now (dir_of list) list.start list.count list.is_sound at placed list.count 0 (omega arith)

-- ---- what is found lies in the list's bytes

pub found_bytes : (list : NodeList) (name : List ℕ) (found : Option NodeRef) → Finds list name found → IfSome found (λ node. node.bytes.now ≡ list.bytes.now)
found_bytes list name None finds = tt
found_bytes list name (Some node) finds = finds.1.bytes

pub deep_bytes : (list kids : NodeList) (node : NodeRef) → node.bytes.now ≡ list.bytes.now → kids.bytes.now ≡ node.bytes.now → (name : List ℕ) (found : Option NodeRef) → Finds kids name found
    → IfSome found (λ node. node.bytes.now ≡ list.bytes.now)
deep_bytes list kids node own below name None finds = tt
deep_bytes list kids node own below name (Some kid) finds = finds.1.bytes ∙ below ∙ own
