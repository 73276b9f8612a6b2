-- The nodes of a record, and the rows of those with an entry: each is what the record says of its path.
use Rattle.std.proofs.Common.{ℕ, zero, suc, ◌≡◌, ◌<◌, ◌≤◌, ◌⊎◌, ◌||◌, ◌&&◌, Bool, true, false, List, [], ◌∷◌, ◌++◌, map, length, get_or, Option, Some, None, option_map, Ok, Err, is_some, refl, sym, ap, ◌∙◌, subst, inl, inr, arith, true≢false}
use native.Mathlib.Numerals.{unary_clauses}
use Rattle.std.specs.List.{AllByRecursion, Contains, IsDistinct, list_any}
use Rattle.std.specs.List.Sorted.{IsBinarySearchResult, IsSortedBy, IsStrictlySortedBy}
use Rattle.std.specs.Ordering.{is_lt, nat_cmp, ordering_reverse}
use Rattle.std.specs.declared.cmp.Ordering.TheVariants.{Equal, Less}
use Rattle.std.specs.Cmp.{tied_itself}
use Rattle.std.specs.Cmp.Lexicographic.{nat_list_cmp_total, slice_cmp}
use Rattle.std.specs.Str.{bytes_eq}
use Rattle.std.proofs.lemmas.Bool.{and_from, cases_Bool, cases_lt}
use Rattle.std.proofs.lemmas.List.{get_or-map, length-map}
use Rattle.std.proofs.lemmas.List.Elements.{All-contains, All-from_recursion, Contains-append_cases, Contains-append_left, Contains-append_right, Contains-push, Contains-push_cases}
use Rattle.std.proofs.lemmas.List.Sorted.{searchable_from_sorted}
use Rattle.std.proofs.lemmas.Map.Lookups.{exact_bytes}
use Rattle.std.proofs.lemmas.Slice.Eq.{bytes_eq-Decides}
use Rattle.hg_base.specs.PathText.{is_below}
use Rattle.hg_entry.specs.Entry.{EntryData, view}
use Rattle.hg_entry.specs.Table.{Table, flat_of}
use Rattle.hg_entry.specs.declared.entry.Entry.{Entry}
use Rattle.hg_flat.specs.Kept.{HaveOwnPaths, flat_from, row_at, shown_row}
use Rattle.hg_flat.specs.Serving.{IsNodeAt}
use Rattle.hg_flat.specs.Recorded.{Recorded, Records, recorded_at}
use Rattle.hg_flat.specs.declared.kept.FlatRow.{FlatRow}
use Rattle.hg_flat.proofs.Holding.{found_at, found_has}
use Rattle.hg_flat.proofs.Recording.{flat_recorded}
use Rattle.hg_nodes.specs.Edits.{IsFormed}
use Rattle.hg_mixed.specs.Gathered.{AreGathered, Shows, path_of, paths_of}
use Rattle.hg_mixed.specs.Held.{Held, table}
use Rattle.hg_mixed.specs.declared.line.Line.{Line}
use Rattle.hg_walk.specs.Marks.{is_no_dir, stands}
use Rattle.hg_walk.specs.Passing.{AreInOrder, IsPlaceBelow, IsPlaceOf, any_marked, has_entry, was_entered, was_passed}
use Rattle.hg_walk.specs.Telling.{AreMarked, rows_with, tracked_row, tracked_rows}
use Rattle.hg_walk.specs.declared.mark.Mark.{Mark}

none_there : {A : Type 0} (x : A) → Contains [] x → ⊥
none_there x (n, below, is) = absurd (omega (arith, below))

pub either : {A : Type 0} (x : A) (xs : List A) (y : A) → Contains (x ∷ xs) y → (x ≡ y) ⊎ Contains xs y
either x xs y has =
    elim (Contains-append_cases (x ∷ []) xs y has) [
      | inl first ↦ elim (Contains-push_cases [] x y first) [ inl none ↦ absurd (none_there y none) | inr same ↦ inl same ]
      | inr later ↦ inr later
    ]

-- ---- rows and nodes

with_one : (child : Line) (o : Option Entry) (row : FlatRow) → Contains (rows_with child o) row → (entry : Entry) × (o ≡ Some entry) × (row ≡ tracked_row child entry)
with_one child None row has = absurd (none_there row has)
with_one child (Some entry) row has =
    elim (either (tracked_row child entry) [] row has) [ inl same ↦ (entry, refl, sym same) | inr none ↦ absurd (none_there row none) ]

-- a row is of a node with an entry
pub row_from : (children : List Line) (row : FlatRow) → Contains (tracked_rows children) row
    → (child : Line) × (entry : Entry) × Contains children child × (child.entry ≡ Some entry) × (row ≡ tracked_row child entry)
row_from [] row has = absurd (none_there row has)
row_from (first ∷ rest) row has =
    elim (Contains-append_cases (rows_with first first.entry) (tracked_rows rest) row has) [
      | inl here ↦ let one = with_one first first.entry row here in (first, one.0, Contains-append_left (first ∷ []) rest first (Contains-push [] first), one.1, one.2)
      | inr later ↦ let from = row_from rest row later in (from.0, from.1, Contains-append_right (first ∷ []) rest from.0 from.2, from.3, from.4)
    ]

-- each node with an entry has its row
pub row_in : (children : List Line) (child : Line) (entry : Entry) → Contains children child → child.entry ≡ Some entry → Contains (tracked_rows children) (tracked_row child entry)
row_in [] child entry has is = absurd (none_there child has)
row_in (first ∷ rest) child entry has is =
    elim (either first rest child has) [
      | inl same ↦
          subst (λ (c : Line). Contains (rows_with c c.entry ++ tracked_rows rest) (tracked_row child entry)) (sym same)
          (Contains-append_left (rows_with child child.entry) (tracked_rows rest) (tracked_row child entry)
          (subst (λ (o : Option Entry). Contains (rows_with child o) (tracked_row child entry)) (sym is) (Contains-push [] (tracked_row child entry))))
      | inr later ↦ Contains-append_right (rows_with first first.entry) (tracked_rows rest) (tracked_row child entry) (row_in rest child entry later is)
    ]

-- ---- no two of one path

all_step : (P : List ℕ → Type 0) (child : Line) (rest : List FlatRow) (o : Option Entry) → P (path_of child) → AllByRecursion P (map (λ row. row.path) rest) → AllByRecursion P (map (λ row. row.path) (rows_with child o ++ rest))
all_step P child rest None here later = later
all_step P child rest (Some entry) here later = (here, later)

all_rows : (P : List ℕ → Type 0) (children : List Line) → AllByRecursion P (paths_of children) → AllByRecursion P (map (λ row. row.path) (tracked_rows children))
all_rows P [] all = tt
all_rows P (child ∷ children) all = all_step P child (tracked_rows children) child.entry all.0 (all_rows P children all.1)

own_step : (child : Line) (rest : List FlatRow) (o : Option Entry) → AllByRecursion (λ p. bytes_eq (path_of child) p ≡ false) (map (λ row. row.path) rest) → HaveOwnPaths rest → HaveOwnPaths (rows_with child o ++ rest)
unfolding IsDistinct
own_step child rest None apart own = own
own_step child rest (Some entry) apart own = (apart, own)

pub own_rows : (children : List Line) → IsDistinct bytes_eq (paths_of children) → HaveOwnPaths (tracked_rows children)
unfolding IsDistinct
own_rows [] own = tt
own_rows (child ∷ children) own =
    own_step child (tracked_rows children) child.entry (all_rows (λ p. bytes_eq (path_of child) p ≡ false) children own.0) (own_rows children own.1)

apart_from : (path : List ℕ) (children : List Line) → AllByRecursion (λ p. bytes_eq path p ≡ false) (paths_of children) → (child : Line) → Contains children child → path_of child ≡ path → ⊥
apart_from path [] all child has same = none_there child has
apart_from path (first ∷ rest) all child has same =
    elim (either first rest child has) [
      | inl is ↦
          let equal = (bytes_eq-Decides path (path_of first)).1 (sym same ∙ ap path_of (sym is)) in let never = all.0 in true≢false (sym equal ∙ never)
      | inr later ↦ apart_from path rest all.1 child later same
    ]

-- a path has one node
pub one_node : (children : List Line) → IsDistinct bytes_eq (paths_of children) → (x y : Line) → Contains children x → Contains children y → path_of x ≡ path_of y → x ≡ y
unfolding IsDistinct
one_node [] own x y left right same = absurd (none_there x left)
one_node (first ∷ rest) own x y left right same =
    elim (either first rest x left) [
      | inl is_x ↦
          elim (either first rest y right) [
            | inl is_y ↦ sym is_x ∙ is_y
            | inr later_y ↦ absurd (apart_from (path_of first) rest own.0 y later_y (sym same ∙ ap path_of (sym is_x)))
          ]
      | inr later_x ↦
          elim (either first rest y right) [
            | inl is_y ↦ absurd (apart_from (path_of first) rest own.0 x later_x (same ∙ ap path_of (sym is_y)))
            | inr later_y ↦ one_node rest own.1 x y later_x later_y same
          ]
    ]

-- ---- what the record says

or_cases : (a b : Bool) → (a || b) ≡ true → (a ≡ true) ⊎ (b ≡ true)
or_cases true b is = inl refl
or_cases false b is = inr is

any_has : (children : List Line) (path : List ℕ) → list_any (bytes_eq path) (paths_of children) ≡ true → (child : Line) × Contains children child × (path_of child ≡ path)
any_has [] path is = absurd (true≢false (sym is))
any_has (first ∷ rest) path is =
    elim (or_cases (bytes_eq path (path_of first)) (list_any (bytes_eq path) (paths_of rest)) is) [
      | inl here ↦ (first, Contains-append_left (first ∷ []) rest first (Contains-push [] first), sym ((bytes_eq-Decides path (path_of first)).0 here))
      | inr later ↦ let from = any_has rest path later in (from.0, Contains-append_right (first ∷ []) rest from.0 from.1, from.2)
    ]

entry_there : (o : Option Entry) (entry : EntryData) → option_map view o ≡ Some entry → (e : Entry) × (o ≡ Some e)
entry_there None entry is = absurd (true≢false (sym (ap is_some is)))
entry_there (Some e) entry is = (e, refl)

entry_node : (t : Table) → IsFormed t → (path : List ℕ) (entry : EntryData) → t.entries path ≡ Some entry → t.nodes path ≡ true
entry_node t formed path entry is = elim (cases_Bool (t.nodes path)) [
  | inl node ↦ node
  | inr none ↦ absurd (true≢false (ap is_some (sym is ∙ formed.entries path none)))
]

module _ (held : Held) (children : List Line) (are : AreGathered held (λ path. true) children) (formed : IsFormed (table held)) where
  pub shows : (child : Line) → Contains children child → Shows held child
  shows child has = (All-contains (λ (row : Line). (true ≡ true) × ((table held).nodes (path_of row) ≡ true) × Shows held row) children child (All-from_recursion (λ (row : Line). (true ≡ true) × ((table held).nodes (path_of row) ≡ true) × Shows held row) children are.each) has).2

  -- a path with an entry has its node
  pub node_of : (path : List ℕ) (entry : EntryData) → (table held).entries path ≡ Some entry → (child : Line) × (e : Entry) × Contains children child × (path_of child ≡ path) × (child.entry ≡ Some e)
  node_of path entry is =
      let has = any_has children path (are.all path refl (entry_node (table held) formed path entry is)) in
      let there = entry_there has.0.entry entry ((shows has.0 has.1).entry ∙ ap (table held).entries has.2 ∙ is) in
      (has.0, there.0, has.1, has.2, there.1)

  abbrev said : List ℕ → EntryData → Recorded
  said path entry = (entry, (table held).sources path)

  recorded_row : (path : List ℕ) (o : Option FlatRow) → row_at (tracked_rows children) path ≡ o → option_map shown_row o ≡ recorded_at (table held) path
  recorded_row path (Some row) is =
      let found = found_has (tracked_rows children) path row is in
      let from = row_from children row found.0 in
      let child = from.0 in
      let shown = shows child from.2 in
      let shown_as : Option (List ℕ) → Recorded = λ source. (view from.1, source) in
      ap (λ (r : FlatRow). Some (shown_row r)) from.4
      ∙ ap (λ (s : Option (List ℕ)). Some (shown_as s)) shown.source
      ∙ ap (option_map (said (path_of child))) (sym (ap (option_map view) from.3) ∙ shown.entry)
      ∙ ap (recorded_at (table held)) (sym (ap (λ (r : FlatRow). r.path) from.4) ∙ found.1)
  recorded_row path None is = none ((table held).entries path) refl
    where
      none : (o : Option EntryData) → (table held).entries path ≡ o → None ≡ option_map (said path) o
      none None same = refl
      none (Some entry) same =
          let node = node_of path entry same in
          let at = found_at (tracked_rows children) (own_rows children are.own) (tracked_row node.0 node.1) (row_in children node.0 node.1 node.2 node.4) in
          absurd (true≢false (sym (ap is_some at) ∙ ap (λ (p : List ℕ). is_some (row_at (tracked_rows children) p)) node.3 ∙ ap is_some is))

  pub rows_record : Records (table held) (row_at (tracked_rows children))
  rows_record path = recorded_row path (row_at (tracked_rows children) path) refl

  -- they stand for the record as a map
  pub rows_flat : (p1 p2 : List ℕ) → p1 ≡ (table held).p1 → p2 ≡ (table held).p2 → flat_from p1 p2 (row_at (tracked_rows children)) ≡ flat_of (table held)
  rows_flat p1 p2 first second = flat_recorded (table held) p1 p2 (row_at (tracked_rows children)) formed.sources first second rows_record

-- ---- by halving

-- within a list the default says nothing
get_or_same : (children : List Line) (at : ℕ) (d e : Line) → at < length children → get_or children at d ≡ get_or children at e
get_or_same [] at d e below = absurd (omega (arith, below))
get_or_same (child ∷ children) zero d e below = refl
get_or_same (child ∷ children) (suc at) d e below = get_or_same children at d e (omega (arith, below))

flipped : (a b : List ℕ) → slice_cmp nat_cmp a b ≡ Less → is_lt (slice_cmp nat_cmp b a) ≡ false
flipped a b less = ap is_lt (nat_list_cmp_total.antisymm b a ∙ ap ordering_reverse less)

in_order : (children : List Line) → AreInOrder children → IsSortedBy (λ a b. is_lt (slice_cmp nat_cmp (path_of a) (path_of b))) children
unfolding IsStrictlySortedBy
in_order [] sorted k d least below = absurd (omega (arith, below))
in_order (x ∷ []) sorted k d least below = absurd (omega (arith, below))
in_order (x ∷ y ∷ rest) sorted zero d least below = flipped (path_of x) (path_of y) sorted.0.0
in_order (x ∷ y ∷ rest) sorted (suc k) d least below =
    let rises = in_order (y ∷ rest) sorted.1 k d (omega arith) (omega (arith, below)) in simp unary_clauses (simp unary_clauses at rises)

-- what isn't found has no node
pub searched_none : (lent children : List Line) (path : List ℕ) (at : ℕ) → lent ≡ children → AreInOrder children → IsBinarySearchResult (λ child. slice_cmp nat_cmp (path_of child) path) lent (Err at)
    → (child : Line) → Contains children child → path_of child ≡ path → ⊥
searched_none lent children path at same sorted parted child has is =
    let sides = subst (λ (l : List Line). IsBinarySearchResult (λ c. slice_cmp nat_cmp (path_of c) path) l (Err at)) same parted
    (searchable_from_sorted nat_list_cmp_total path_of children path (in_order children sorted)) in
    let equal : slice_cmp nat_cmp (path_of child) path ≡ Equal = ap (λ (p : List ℕ). slice_cmp nat_cmp p path) is ∙ tied_itself nat_list_cmp_total path in
    elim (cases_lt has.0 at) [
      | inl before ↦
          let less = sides.0 has.0 child (omega arith) before in
          let here = ap (λ (c : Line). slice_cmp nat_cmp (path_of c) path) has.2 in absurd (cc (less, here, equal))
      | inr behind ↦
          let greater = sides.1 has.0 child behind has.1 in
          let here = ap (λ (c : Line). slice_cmp nat_cmp (path_of c) path) has.2 in absurd (cc (greater, here, equal))
    ]

-- what is found is a node of the path
pub searched_place : (lent children : List Line) (path : List ℕ) (at : ℕ) → lent ≡ children → at < length lent → IsBinarySearchResult (λ c. slice_cmp nat_cmp (path_of c) path) lent (Ok at) → IsPlaceOf children path at
searched_place lent children path at same below equal = record {
  within = subst (λ (l : List Line). at < length l) same below;
  is = λ d. exact_bytes (path_of (get_or children at d)) path (subst (λ (l : List Line). slice_cmp nat_cmp (path_of (get_or l at d)) path ≡ Equal) same (equal d));
}

-- a node that is known to be of the path
pub place_at : (children : List Line) (path : List ℕ) (at : ℕ) (child : Line) → at < length children → child ≡ get_or children at child → bytes_eq (path_of child) path ≡ true → IsPlaceOf children path at
place_at children path at child below is same = record {
  within = below;
  is = λ d. ap path_of (get_or_same children at d child below) ∙ ap path_of (sym is) ∙ (bytes_eq-Decides (path_of child) path).0 same;
}

-- a node whose path is told to be the path
pub joined_at : (children : List Line) (path : List ℕ) (at : ℕ) (child : Line) → at < length children → child ≡ get_or children at child → path_of child ≡ path → IsPlaceOf children path at
joined_at children path at child below is same = record {
  within = below;
  is = λ d. ap path_of (get_or_same children at d child below) ∙ ap path_of (sym is) ∙ same;
}

-- ---- which paths have an entry, and which are marked

pub entry_at : (children : List Line) → IsDistinct bytes_eq (paths_of children) → (path : List ℕ) (at : ℕ) (child : Line) → IsPlaceOf children path at → child ≡ get_or children at child → is_some child.entry ≡ has_entry children path
entry_at children own path at child place is = by child.entry refl
  where
    has : Contains children child
    has = (at, place.within, sym is)

    of : path_of child ≡ path
    of = ap path_of is ∙ place.is child

    none_by : child.entry ≡ None → (o : Option FlatRow) → row_at (tracked_rows children) path ≡ o → is_some o ≡ false
    none_by none None same = refl
    none_by none (Some row) same =
        let found = found_has (tracked_rows children) path row same in
        let from = row_from children row found.0 in
        let one = one_node children own child from.0 has from.2 (of ∙ sym found.1 ∙ ap (λ (r : FlatRow). r.path) from.4) in
        absurd (true≢false (sym (ap is_some from.3) ∙ ap (λ (c : Line). is_some c.entry) (sym one) ∙ ap is_some none))

    by : (o : Option Entry) → child.entry ≡ o → is_some child.entry ≡ has_entry children path
    by None same = ap is_some same ∙ sym (none_by same (row_at (tracked_rows children) path) refl)
    by (Some entry) same =
        ap is_some same
        ∙ sym (ap is_some (sym (ap (row_at (tracked_rows children)) of) ∙ found_at (tracked_rows children) (own_rows children own) (tracked_row child entry) (row_in children child entry has same)))

pub no_entry : (children : List Line) (path : List ℕ) → ((child : Line) → Contains children child → path_of child ≡ path → ⊥) → has_entry children path ≡ false
no_entry children path none = by (row_at (tracked_rows children) path) refl
  where
    by : (o : Option FlatRow) → row_at (tracked_rows children) path ≡ o → is_some o ≡ false
    by None same = refl
    by (Some row) same =
        let found = found_has (tracked_rows children) path row same in
        let from = row_from children row found.0 in
        absurd (none from.0 from.2 (sym (ap (λ (r : FlatRow). r.path) from.4) ∙ found.1))

marked_later : (a rest : Bool) → rest ≡ true → (a || rest) ≡ true
marked_later true rest is = refl
marked_later false rest is = is

-- a child and the mark at its place that meet a test
pub marked_at : (test : Line → Mark → Bool) (children : List Line) (marks : List Mark) (at : ℕ) (child : Line) (mark : Mark) → at < length children → at < length marks → test (get_or children at child) (get_or marks at mark) ≡ true
    → any_marked test children marks ≡ true
marked_at test [] marks at child mark below within is = absurd (omega (arith, below))
marked_at test (first ∷ rest) [] at child mark below within is = absurd (omega (arith, within))
marked_at test (first ∷ rest) (m ∷ marks) zero child mark below within is = ap (λ (b : Bool). b || any_marked test rest marks) is
marked_at test (first ∷ rest) (m ∷ marks) (suc at) child mark below within is =
    marked_later (test first m) (any_marked test rest marks) (marked_at test rest marks at child mark (omega (arith, below)) (omega (arith, within)) is)

pub passed_at : (children : List Line) (marks : List Mark) (path : List ℕ) (at : ℕ) (child : Line) (mark : Mark) → at < length children → at < length marks → path_of (get_or children at child) ≡ path → is_no_dir (get_or marks at mark) ≡ true
    → was_passed children marks path ≡ true
passed_at children marks path at child mark below within of is =
    marked_at (λ c m. bytes_eq (path_of c) path && is_no_dir m) children marks at child mark below within
    (and_from (bytes_eq (path_of (get_or children at child)) path) (is_no_dir (get_or marks at mark)) ((bytes_eq-Decides (path_of (get_or children at child)) path).1 of) is)

pub entered_at : (children : List Line) (marks : List Mark) (dir : List ℕ) (at : ℕ) (mark : Mark) → at < length marks → IsPlaceBelow children dir at → stands (get_or marks at mark) ≡ true → was_entered children marks dir ≡ true
entered_at children marks dir at mark within place is = by children marks at within place.within place.is is
  where
    by : (children : List Line) (marks : List Mark) (at : ℕ) → at < length marks → at < length children → ((d : Line) → is_below dir (path_of (get_or children at d)) ≡ true) → stands (get_or marks at mark) ≡ true
        → was_entered children marks dir ≡ true
    by [] marks at within below under is = absurd (omega (arith, below))
    by (first ∷ rest) [] at within below under is = absurd (omega (arith, within))
    by (first ∷ rest) (m ∷ marks) zero within below under is = ap (λ (b : Bool). b || was_entered rest marks dir) (and_from (is_below dir (path_of first)) (stands m) (under first) is)
    by (first ∷ rest) (m ∷ marks) (suc at) within below under is =
        marked_later (is_below dir (path_of first) && stands m) (was_entered rest marks dir) (by rest marks at (omega (arith, within)) (omega (arith, below)) under is)

-- a node that is known to be below a directory
pub below_at : (children : List Line) (dir : List ℕ) (at : ℕ) (child : Line) → at < length children → child ≡ get_or children at child → is_below dir (path_of child) ≡ true → IsPlaceBelow children dir at
below_at children dir at child below is under = record {
  within = below;
  is = λ d. ap (λ (c : Line). is_below dir (path_of c)) (get_or_same children at d child below ∙ sym is) ∙ under;
}

-- the node whose mark meets a test
pub marked_node : (Is : Line → Mark → Type 0) (test : Line → Mark → Bool) (children : List Line) (marks : List Mark) → AreMarked Is children marks → any_marked test children marks ≡ true
    → (child : Line) × (mark : Mark) × Is child mark × (test child mark ≡ true)
marked_node Is test [] marks are is = absurd (true≢false (sym is))
marked_node Is test (first ∷ rest) [] are is = absurd (true≢false (sym is))
marked_node Is test (first ∷ rest) (m ∷ marks) are is =
    elim (or_cases (test first m) (any_marked test rest marks) is) [ inl here ↦ (first, m, are.0, here) | inr later ↦ marked_node Is test rest marks are.1 later ]

-- ---- nodes by their places

pub node_here : (children : List Line) (at : ℕ) (child : Line) → at < length children → child ≡ get_or children at child → IsNodeAt (paths_of children) at (path_of child)
node_here children at child below is = let long : length (paths_of children) ≡ length children = length-map children path_of in record {
  within = omega (arith, below, long);
  is = get_or-map path_of children at child (path_of child) below ∙ ap path_of (sym is);
}

pub node_end : (children : List Line) (at : ℕ) → length children ≤ at → length (paths_of children) ≤ at
node_end children at past = let long : length (paths_of children) ≡ length children = length-map children path_of in omega (arith, past, long)
