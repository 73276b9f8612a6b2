-- Lists of an image are taken into memory, and the table as a whole stays.
use Rattle.std.proofs.Common.{ℕ, zero, suc, ◌≡◌, ◌+◌, ◌*◌, ◌<◌, Bool, true, false, cond, ◌||◌, List, [], ◌∷◌, Option, Some, None, refl, sym, ap, ◌∙◌, subst, true≢false, inl, inr, ◌⊎◌, arith}
use Rattle.std.specs.Prelude.{is_some}
use Rattle.std.specs.Option.{option_and_then, option_map}
use Rattle.std.specs.Str.{bytes_eq}
use Rattle.std.proofs.lemmas.Bool.{cases_Bool, cases_order, cond-true, cond-false, or_left, or_right, both_ways, false_from_ne_true}
use Rattle.hg_base.specs.PathText.{base_of, is_below, is_path, is_same_dir, joined, parent_of}
use Rattle.hg_base.specs.Within.{is_above}
use Rattle.hg_base.specs.declared.path.PathRef.{PathRef}
use Rattle.hg_base.proofs.Below.{below_itself, below_trans}
use Rattle.hg_base.proofs.Children.{below_by_parent, below_parent, below_through, path_through, same_dir, same_dir_itself}
use Rattle.hg_base.proofs.Components.{joined_parent, parent_joined}
use Rattle.hg_base.proofs.Paths.{path_above}
use Rattle.hg_base.proofs.Within.{above_none, equal_bytes, same_bytes, within_below, within_path}
use Rattle.hg_docket.specs.Docket.{Contents}
use Rattle.hg_entry.specs.Entry.{cache_of, entry_of}
use Rattle.hg_entry.specs.Table.{Table}
use Rattle.hg_image.specs.Node.{fields_of, path_of, record_at}
use Rattle.hg_image.specs.Reading.{row_at}
use Rattle.hg_image.specs.Reading as reading
use Rattle.hg_image.specs.Rows.{Row, row_of}
use Rattle.hg_image.specs.View.{dir_of, name_at, rows_in}
use Rattle.hg_image.specs.declared.opened.List.{List as NodeList}
use Rattle.hg_image.proofs.RowsOf.{rows_step, rows_whole}
use Rattle.hg_image.proofs.Sound.{list_at}
use Rattle.hg_nodes.specs.Drop.{bare}
use Rattle.hg_nodes.specs.Edits.{IsFormed, IsSame}
use Rattle.hg_mixed.specs.Lent.{IsLentPut, as_dir, covers, lent_at}
use Rattle.hg_mixed.specs.Held.{is_lent_in}
use Rattle.hg_nodes.specs.Lists.{dir_text, or_root}
use Rattle.hg_mixed.specs.Own.{InMemory, memory_table}
use Rattle.hg_nodes.specs.Node.{NodeData, entry_in, node_at, source_in, IsThere}
use Rattle.hg_mixed.specs.Opened.{node_of}
use Rattle.hg_mixed.specs.Parted.{IsMoved, IsParted, whole}
use Rattle.hg_mixed.specs.Taken.{AddsNodes, AddsSome, AreOthersKept, AreServed, CoversLess, IsBare, IsNotOf, IsOpen, LendsKids, path_at}
use Rattle.hg_nodes.specs.Adding.{IsAsBefore}
use Rattle.hg_nodes.specs.Times.{time_at}
use Rattle.hg_nodes.proofs.Edited.{same_trans, update_here, update_other}
use Rattle.hg_image.proofs.Found.{found_row, row_above, row_is_path, row_rooted}
use Rattle.hg_mixed.proofs.Kept.{lent_same}
use Rattle.hg_mixed.proofs.Lents.{covered_by, covers_some, same_bools}

-- ---- tables that say the same

pub formed_same : (a b : Table) → IsSame a b → IsFormed b → IsFormed a
formed_same a b same formed = record {
  paths = λ at h. formed.paths at (sym (same.nodes at) ∙ h);
  rooted = λ dir at below h. same.nodes dir ∙ formed.rooted dir at below (sym (same.nodes at) ∙ h);
  entries = λ at h. same.entries at ∙ formed.entries at (sym (same.nodes at) ∙ h);
  sources = λ at h. same.sources at ∙ formed.sources at (sym (same.entries at) ∙ h);
  caches = λ at h. let had = formed.caches at (sym (ap is_some (same.caches at)) ∙ h) in (same.nodes at ∙ had.0, same.entries at ∙ had.1);
}

-- the parents and the hash are no part of it
pub formed_bare : (own : InMemory) → IsFormed (bare own.rows own.times) → IsFormed (memory_table own)
formed_bare own formed = record {
  paths = formed.paths;
  rooted = formed.rooted;
  entries = formed.entries;
  sources = formed.sources;
  caches = formed.caches;
}

pub record IsSameAt (a b : Table) (at : List ℕ) : Type 0 where
  pub entries : a.entries at ≡ b.entries at
  pub sources : a.sources at ≡ b.sources at
  pub nodes : a.nodes at ≡ b.nodes at
  pub caches : a.caches at ≡ b.caches at

pub none_is : {X : Type 0} (o : Option X) → (is_some o ≡ true → ⊥) → o ≡ None
none_is None h = refl
none_is (Some x) h = absurd (h refl)

pub some_never : {X : Type 0} (o : Option X) → o ≡ None → is_some o ≡ true → ⊥
some_never o none h = true≢false (sym h ∙ ap is_some none)

-- a path in memory that has what it had
same_as_before : (own now : InMemory) (at : List ℕ) → IsAsBefore at own.rows own.times now.rows now.times → IsSameAt (memory_table now) (memory_table own) at
same_as_before own now at stays = record { entries = ap entry_in stays.node; sources = ap source_in stays.node; nodes = ap is_some stays.node; caches = stays.time }

-- one that has what a row of the image says, and one that has nothing, as the image
module _ (docket : Contents) (rows : List Row) (now : InMemory) (at : List ℕ) where
  same_as_row : (r : Row) → row_at rows at ≡ Some r → node_at now.rows at ≡ Some (node_of r) → time_at now.times at ≡ cache_of (fields_of r.rec) → IsSameAt (memory_table now) (reading.table_of docket rows) at
  same_as_row r is node time = record {
    entries = ap entry_in node ∙ sym (ap (option_and_then (λ (x : Row). entry_of (fields_of x.rec))) is);
    sources = ap source_in node ∙ sym (ap (option_and_then (λ (x : Row). x.source)) is);
    nodes = ap is_some node ∙ sym (ap is_some is);
    caches = time ∙ sym (ap (option_and_then (λ (x : Row). cache_of (fields_of x.rec))) is);
  }

  pub same_as_none : IsFormed (memory_table now) → row_at rows at ≡ None → (is_some (node_at now.rows at) ≡ true → ⊥) → IsSameAt (memory_table now) (reading.table_of docket rows) at
  same_as_none formed is never =
      let none : is_some (node_at now.rows at) ≡ false = false_from_ne_true (is_some (node_at now.rows at)) never in
      record {
        entries = formed.entries at none ∙ sym (ap (option_and_then (λ (x : Row). entry_of (fields_of x.rec))) is);
        sources = formed.sources at (formed.entries at none) ∙ sym (ap (option_and_then (λ (x : Row). x.source)) is);
        nodes = none ∙ sym (ap is_some is);
        caches = none_is (time_at now.times at) (λ h. never (formed.caches at h).0) ∙ sym (ap (option_and_then (λ (x : Row). cache_of (fields_of x.rec))) is);
      }

-- ---- what was covered and what is

-- where a path was the image's and isn't any more, memory has what the image has; where it is in memory still, memory has what it had
abbrev pub Agrees : Table → Table → Table → List ℕ → Bool → Bool → Type 0
Agrees image own now at true true = Unit {0}
Agrees image own now at true false = IsSameAt now image at
Agrees image own now at false true = ⊥
Agrees image own now at false false = IsSameAt now own at

module _ {X : Type 0} (image own now : Table) (at : List ℕ) (f : Table → X) (same : (a b : Table) → IsSameAt a b at → f a ≡ f b) where
  one_part : (was is : Bool) → Agrees image own now at was is → cond is (f image) (f now) ≡ cond was (f image) (f own)
  one_part true true agrees = refl
  one_part true false agrees = same now image agrees
  one_part false true agrees = absurd agrees
  one_part false false agrees = same now own agrees

module _ (docket : Contents) (rows : List Row) (left : List (List ℕ × List Row)) (own : InMemory) (left_now : List (List ℕ × List Row)) (now : InMemory) (kept : AreOthersKept own now) where
  pub merged_same : ((at : List ℕ) → Agrees (reading.table_of docket rows) (memory_table own) (memory_table now) at (covers left at) (covers left_now at))
      → IsSame (whole docket rows left_now (memory_table now)) (whole docket rows left (memory_table own))
  merged_same agrees = record {
    p1 = kept.p1;
    p2 = kept.p2;
    hash = kept.hash;
    entries = λ at. one_part (reading.table_of docket rows) (memory_table own) (memory_table now) at (λ t. t.entries at) (λ a b e. e.entries) (covers left at) (covers left_now at) (agrees at);
    sources = λ at. one_part (reading.table_of docket rows) (memory_table own) (memory_table now) at (λ t. t.sources at) (λ a b e. e.sources) (covers left at) (covers left_now at) (agrees at);
    nodes = λ at. one_part (reading.table_of docket rows) (memory_table own) (memory_table now) at (λ t. t.nodes at) (λ a b e. e.nodes) (covers left at) (covers left_now at) (agrees at);
    caches = λ at. one_part (reading.table_of docket rows) (memory_table own) (memory_table now) at (λ t. t.caches at) (λ a b e. e.caches) (covers left at) (covers left_now at) (agrees at);
  }

-- the same of a node as a whole
abbrev pub AgreeNodes : Option NodeData → Option NodeData → Option NodeData → Bool → Bool → Type 0
AgreeNodes image own now true true = Unit {0}
AgreeNodes image own now true false = now ≡ image
AgreeNodes image own now false true = ⊥
AgreeNodes image own now false false = now ≡ own

pub one_node : (image own now : Option NodeData) (was is : Bool) → AgreeNodes image own now was is → cond is image now ≡ cond was image own
one_node image own now true true agrees = refl
one_node image own now true false agrees = agrees
one_node image own now false true agrees = absurd agrees
one_node image own now false false agrees = agrees

pub others_kept : (own : InMemory) → AreOthersKept own own
others_kept own = record { p1 = refl; p2 = refl; hash = refl; changed = refl; kept = refl }

module _ (docket : Contents) (rows : List Row) where
  pub moved_trans : (a : List (List ℕ × List Row)) (s : InMemory) (b : List (List ℕ × List Row)) (t : InMemory) (c : List (List ℕ × List Row)) (u : InMemory)
      → IsMoved docket rows a s b t → IsMoved docket rows b t c u → IsMoved docket rows a s c u
  moved_trans a s b t c u p q = record {
    parted = q.parted;
    same = same_trans (whole docket rows c (memory_table u)) (whole docket rows b (memory_table t)) (whole docket rows a (memory_table s)) q.same p.same;
    nodes = λ at. q.nodes at ∙ p.nodes at;
    lent = λ dir. q.lent dir ∙ p.lent dir;
    changed = q.changed ∙ p.changed;
  }

-- ---- directories

pub as_path : (text : List ℕ) → is_path text ≡ true → as_dir text ≡ Some text
as_path [] good = absurd (true≢false (sym good))
as_path (b ∷ text) good = refl

or_root_as : (dir : Option PathRef) → as_dir (or_root (option_map (λ d. d.text.now) dir)) ≡ option_map (λ d. d.text.now) dir
or_root_as None = refl
or_root_as (Some dir) = as_path dir.text.now dir.is_path

-- the text of a list's directory is that directory
pub as_own : (list : NodeList) → as_dir (or_root (dir_of list)) ≡ dir_of list
as_own list = or_root_as list.dir

some_list : (a b : List ℕ) → Some a ≡ Some b → a ≡ b
some_list a b e = cc

-- a directory that is a text is that text
pub as_dir_is : (text dir : List ℕ) → as_dir text ≡ Some dir → text ≡ dir
as_dir_is [] dir h = absurd (cc)
as_dir_is (b ∷ text) dir h = some_list (b ∷ text) dir h

pub right_above : (dir : Option (List ℕ)) (at : List ℕ) → parent_of at ≡ dir → is_above dir at ≡ true
right_above None at is = refl
right_above (Some d) at is = below_parent d at is

above_trans : (dir : Option (List ℕ)) (e at : List ℕ) → is_above dir e ≡ true → is_below e at ≡ true → is_above dir at ≡ true
above_trans None e at above below = refl
above_trans (Some d) e at above below = below_trans d e at above below

-- what stands below a directory, and not right in it, stands below something right in it
pub between : (dir : Option (List ℕ)) (at : List ℕ) → is_path at ≡ true → is_above dir at ≡ true → is_same_dir dir (parent_of at) ≡ false
    → (e : List ℕ) × (parent_of e ≡ dir) × (is_path e ≡ true) × (is_below e at ≡ true)
between None at good above other =
    let found = path_through at in
    elim found.2 [
      | inl e ↦ absurd (both_ways (is_same_dir None (parent_of at)) other (ap (is_same_dir None) (ap parent_of e ∙ parent_joined None found.0 found.1)))
      | inr more ↦ (found.0, parent_joined None found.0 found.1, path_above found.0 at more good, more)
    ]
between (Some d) at good above other =
    let found = below_through d at above in
    elim found.2 [
      | inl e ↦ absurd (both_ways (is_same_dir (Some d) (parent_of at)) other
          (ap (is_same_dir (Some d)) (ap parent_of e ∙ parent_joined (Some d) found.0 found.1) ∙ same_dir_itself (Some d)))
      | inr more ↦ (joined (Some d) found.0, parent_joined (Some d) found.0 found.1, path_above (joined (Some d) found.0) at more good, more)
    ]

-- no directory stands in itself
not_in_itself : (dir : Option (List ℕ)) → is_path (or_root dir) ≡ true → parent_of (or_root dir) ≡ dir → ⊥
not_in_itself None good is = true≢false (sym good)
not_in_itself (Some d) good is = both_ways (is_below d d) (below_itself d) (below_parent d d is)

-- ---- the nodes of a list

search_path : (list : NodeList) (n : ℕ) (at : List ℕ) → ((i : ℕ) × (i < n) × (path_at list i ≡ at)) ⊎ ((i : ℕ) → i < n → bytes_eq (path_at list i) at ≡ false)
search_path list zero at = inr (λ i less. absurd (omega (arith, less)))
search_path list (suc n) at = elim (cases_Bool (bytes_eq (path_at list n) at)) [
  | inl same ↦ inl (n, omega arith, same_bytes (path_at list n) at same)
  | inr other ↦ elim (search_path list n at) [
    | inl found ↦ inl (found.0, omega (arith, found.1), found.2)
    | inr none ↦ inr (λ i less. elim (cases_order i n) [
      | inl e ↦ ap (λ (k : ℕ). bytes_eq (path_at list k) at) e ∙ other
      | inr (inl l) ↦ none i l
      | inr (inr g) ↦ absurd (omega (arith, less, g))
    ])
  ]
]

-- a row right in a list's directory is that of one of its nodes
pub placed_at : (list : NodeList) (at : List ℕ) → is_path at ≡ true → parent_of at ≡ dir_of list → is_some (row_at (rows_in list) at) ≡ true → (i : ℕ) × (i < list.count) × (path_at list i ≡ at)
placed_at list at good placed some = elim (search_path list list.count at) [
  | inl found ↦ found
  | inr none ↦
      absurd (some_never (row_at (rows_in list) at)
      (sym (found_row list at None good placed (λ i inside same. both_ways (bytes_eq (path_at list i) at) (none i inside)
      (ap (λ (p : List ℕ). bytes_eq p at) (is_at i inside same) ∙ equal_bytes at))))
      some)
]
  where
    is_at : (i : ℕ) → i < list.count → name_at list i ≡ base_of at → path_at list i ≡ at
    is_at i inside same =
        sym (joined_parent (path_at list i))
        ∙ (λ k. joined (((list_at list.depth list.bytes.now (dir_of list) list.start list.count i inside list.is_sound).node.parent ∙ sym placed) k) (same k))
        ∙ joined_parent at

-- a list with a node has a row right in its directory
pub first_row : (list : NodeList) → 0 < list.count → (at : List ℕ) × (parent_of at ≡ dir_of list) × (is_some (row_at (rows_in list) at) ≡ true)
first_row list some =
    let start : list.start + 44 * 0 ≡ list.start = omega arith in
    let path = path_of list.bytes.now (record_at list.bytes.now list.start) in (
      path,
      (λ k. parent_of (path_of list.bytes.now (record_at list.bytes.now (sym start k))))
          ∙ (list_at list.depth list.bytes.now (dir_of list) list.start list.count 0 some list.is_sound).node.parent,
      ap (λ (r : List Row). is_some (row_at r path))
          (rows_whole list.depth list.bytes.now (dir_of list) list.start list.count list.is_sound ∙ rows_step _ list.bytes.now list.start list.count some)
          ∙ ap is_some (cond-true (bytes_eq path path) (Some (row_of list.bytes.now (record_at list.bytes.now list.start))) _ (equal_bytes path)),
    )

-- ---- what isn't covered

-- right in a directory whose list isn't lent, nor any above it, nothing is covered
pub bare_in : (left : List (List ℕ × List Row)) (dir : List ℕ) → lent_at left dir ≡ None → IsOpen left (as_dir dir) → IsBare left (as_dir dir)
bare_in left dir gone free at good is = false_from_ne_true (covers left at) (λ h. let found = covers_some left at h in never dir gone free at good is found.0 found.1.0 found.1.1)
  where
    never : (dir : List ℕ) → lent_at left dir ≡ None → IsOpen left (as_dir dir) → (at : List ℕ) → is_path at ≡ true → parent_of at ≡ as_dir dir → (e : List ℕ) → is_some (lent_at left e) ≡ true → is_above (as_dir e) at ≡ true → ⊥
    never [] gone free at good is [] some above = some_never (lent_at left []) gone some
    never [] gone free at good is (b ∷ e) some above = both_ways (is_below (b ∷ e) at) (above_none at good is (b ∷ e)) above
    never (c ∷ d) gone free at good is [] some above = both_ways (covers left (c ∷ d)) (free (c ∷ d) refl) (covered_by left [] (c ∷ d) some refl)
    never (c ∷ d) gone free at good is (b ∷ e) some above = elim (below_by_parent (b ∷ e) (c ∷ d) at good is above) [
      | inl same ↦ some_never (lent_at left (c ∷ d)) gone (ap (λ (p : List ℕ). is_some (lent_at left p)) (sym same) ∙ some)
      | inr more ↦ both_ways (covers left (c ∷ d)) (free (c ∷ d) refl) (covered_by left (b ∷ e) (c ∷ d) some more)
    ]

-- what stands below the directory of a list that is lent is covered
covered_in : (list : NodeList) (left : List (List ℕ × List Row)) → lent_at left (or_root (dir_of list)) ≡ Some (rows_in list) → (at : List ℕ) → is_above (dir_of list) at ≡ true → covers left at ≡ true
covered_in list left there at above = covered_by left (or_root (dir_of list)) at (ap is_some there) (ap (λ (d : Option (List ℕ)). is_above d at) (as_own list) ∙ above)

-- a list is lent no more
module _ (dir : List ℕ) (old new : List (List ℕ × List Row)) (gone : IsLentPut dir None old new) where
  pub removed_here : lent_at new dir ≡ None
  removed_here = gone dir ∙ update_here (lent_at old) dir None

  removed_other : (e : List ℕ) → bytes_eq dir e ≡ false → lent_at new e ≡ lent_at old e
  removed_other e other = gone e ∙ update_other (lent_at old) dir None e other

  -- what another directory has is what it had
  removed_was : (e : List ℕ) → is_some (lent_at new e) ≡ true → lent_at new e ≡ lent_at old e
  removed_was e some = elim (cases_Bool (bytes_eq dir e)) [
    | inl same ↦ absurd (some_never (lent_at new e) (ap (lent_at new) (sym (same_bytes dir e same)) ∙ removed_here) some)
    | inr other ↦ removed_other e other
  ]

  pub removed_less : CoversLess old new
  removed_less at h = let found = covers_some new at h in covered_by old found.0 at (sym (ap is_some (removed_was found.0 found.1.0)) ∙ found.1.0) found.1.1

-- ---- the kids' lists are lent

module _ (list : NodeList) (left now : List (List ℕ × List Row)) (lends : LendsKids list left now) (there : lent_at left (or_root (dir_of list)) ≡ Some (rows_in list)) where
  lends_more : (at : List ℕ) → covers left at ≡ true → covers now at ≡ true
  lends_more at h =
      let found = covers_some left at h in
      elim (lends found.0) [
        | inl same ↦ covered_by now found.0 at (ap is_some same ∙ found.1.0) found.1.1
        | inr kid ↦ covered_by now found.0 at (ap is_some kid.there) found.1.1
      ]

  pub lends_less : CoversLess left now
  lends_less at h =
      let found = covers_some now at h in
      elim (lends found.0) [
        | inl same ↦ covered_by left found.0 at (sym (ap is_some same) ∙ found.1.0) found.1.1
        | inr kid ↦
            covered_in list left there at
            (above_trans (dir_of list) found.0 at (right_above (dir_of list) found.0 kid.parent)
            (sym (ap (λ (d : Option (List ℕ)). is_above d at) (as_path found.0 kid.path)) ∙ found.1.1))
      ]

  -- the same is covered
  pub lends_same : (at : List ℕ) → covers now at ≡ covers left at
  lends_same at = elim (cases_Bool (covers left at)) [
    | inl yes_there ↦ lends_more at yes_there ∙ sym yes_there
    | inr none ↦ false_from_ne_true (covers now at) (λ h. both_ways (covers left at) none (lends_less at h)) ∙ sym none
  ]

  -- the list itself is lent still
  pub lent_still : lent_at now (or_root (dir_of list)) ≡ Some (rows_in list)
  lent_still = elim (lends (or_root (dir_of list))) [
    | inl same ↦ same ∙ there
    | inr kid ↦ absurd (not_in_itself (dir_of list) kid.path kid.parent)
  ]

same_rows : (a b : List Row) → Some a ≡ Some b → a ≡ b
same_rows a b e = cc

module _ (docket : Contents) (rows : List Row) (list : NodeList) (left : List (List ℕ × List Row)) (own : InMemory) (parted : IsParted docket rows left (memory_table own))
    (there : lent_at left (or_root (dir_of list)) ≡ Some (rows_in list)) where
  -- in the list stands what stands in the image
  in_image : (at : List ℕ) → is_above (dir_of list) at ≡ true → row_at (rows_in list) at ≡ row_at rows at
  in_image at above = parted.lists (or_root (dir_of list)) (rows_in list) there at (ap (λ (d : Option (List ℕ)). is_above d at) (as_own list) ∙ above)

  -- a node stands at its directory, where it has any node
  pub dir_there : IsOpen left (dir_of list) → 0 < list.count → IsThere own.rows (dir_of list)
  dir_there free some d is =
      let first = first_row list some in
      let below : is_below d first.0 ≡ true = below_parent d first.0 (first.1 ∙ is) in
      let above : is_above (dir_of list) first.0 ≡ true = right_above (dir_of list) first.0 first.1 in
      let covered : covers left first.0 ≡ true = covered_in list left there first.0 above in
      let stands : (whole docket rows left (memory_table own)).nodes first.0 ≡ true =
      cond-true (covers left first.0) (is_some (row_at rows first.0)) (is_some (node_at own.rows first.0)) covered ∙ sym (ap is_some (in_image first.0 above)) ∙ first.2 in
      sym (cond-false (covers left d) (is_some (row_at rows d)) (is_some (node_at own.rows d)) (free d is)) ∙ parted.formed.rooted d first.0 below stands

  pub moved_lends : (now : List (List ℕ × List Row)) → LendsKids list left now → IsMoved docket rows left own now own
  moved_lends now lends = record {
    parted = record {
      lists = λ e r is at above. elim (lends e) [
        | inl same ↦ parted.lists e r (sym same ∙ is) at above
        | inr kid ↦
            let below : is_below e at ≡ true = sym (ap (λ (d : Option (List ℕ)). is_above d at) (as_path e kid.path)) ∙ above in
            ap (λ (x : List Row). row_at x at) (same_rows r kid.rows (sym is ∙ kid.there))
            ∙ kid.below at below
            ∙ in_image at (above_trans (dir_of list) e at (right_above (dir_of list) e kid.parent) below)
      ];
      placed = λ at dir h is. lends_same list left now lends there dir ∙ parted.placed at dir h is;
      known = λ at h covered. parted.known at h (sym (lends_same list left now lends there at) ∙ covered);
      paths = parted.paths;
      formed = formed_same (whole docket rows now (memory_table own)) (whole docket rows left (memory_table own)) same parted.formed;
    };
    same = same;
    nodes = λ at. ap (λ (b : Bool). cond b (option_map node_of (row_at rows at)) (node_at own.rows at)) (lends_same list left now lends there at);
    lent = lent_same rows parted.paths left now own.kept own.kept (λ at some. ap (λ (b : Bool). b || is_some (lent_at own.kept (dir_text at))) (lends_same list left now lends there at));
    changed = refl;
  }
    where
      same : IsSame (whole docket rows now (memory_table own)) (whole docket rows left (memory_table own))
      same = record {
        p1 = refl;
        p2 = refl;
        hash = refl;
        entries = λ at. ap (λ (b : Bool). cond b ((reading.table_of docket rows).entries at) ((memory_table own).entries at)) (lends_same list left now lends there at);
        sources = λ at. ap (λ (b : Bool). cond b ((reading.table_of docket rows).sources at) ((memory_table own).sources at)) (lends_same list left now lends there at);
        nodes = λ at. ap (λ (b : Bool). cond b ((reading.table_of docket rows).nodes at) ((memory_table own).nodes at)) (lends_same list left now lends there at);
        caches = λ at. ap (λ (b : Bool). cond b ((reading.table_of docket rows).caches at) ((memory_table own).caches at)) (lends_same list left now lends there at);
      }

  -- the list is noted as one that is as the image has it
  pub moved_kept : (now : InMemory) → IsLentPut (or_root (dir_of list)) (Some (rows_in list)) own.kept now.kept → now ≡ record own { kept = now.kept } → IsMoved docket rows left own left now
  moved_kept now put rest =
      subst (IsMoved docket rows left own left) (sym rest) (record {
        parted = parted;
        same = record { p1 = refl; p2 = refl; hash = refl; entries = λ at. refl; sources = λ at. refl; nodes = λ at. refl; caches = λ at. refl };
        nodes = λ at. refl;
        lent = lent_same rows parted.paths left left own.kept now.kept (λ at some.
            same_bools (covers left at || is_some (lent_at now.kept (dir_text at))) (covers left at || is_some (lent_at own.kept (dir_text at))) (was_lent at (paths at some)) (is_lent at));
        changed = refl;
      })
    where
      paths : (at : List ℕ) → is_some (row_at rows at) ≡ true → is_path at ≡ true
      paths = parted.paths

      put_some : (b : Bool) (o : Option (List Row)) → is_some o ≡ true → is_some (cond b (Some (rows_in list)) o) ≡ true
      put_some true o h = refl
      put_some false o h = h

      is_lent : (at : List ℕ) → (covers left at || is_some (lent_at own.kept (dir_text at))) ≡ true → (covers left at || is_some (lent_at now.kept (dir_text at))) ≡ true
      is_lent at h = elim (cases_Bool (covers left at)) [
        | inl here ↦ or_left (covers left at) (is_some (lent_at now.kept (dir_text at))) here
        | inr other ↦
            or_right (covers left at) (is_some (lent_at now.kept (dir_text at)))
            (ap is_some (put (dir_text at))
            ∙ put_some (bytes_eq (or_root (dir_of list)) (dir_text at)) (lent_at own.kept (dir_text at)) (sym (ap (λ (b : Bool). b || is_some (lent_at own.kept (dir_text at))) other) ∙ h))
      ]

      was_lent : (at : List ℕ) → is_path at ≡ true → (covers left at || is_some (lent_at now.kept (dir_text at))) ≡ true → (covers left at || is_some (lent_at own.kept (dir_text at))) ≡ true
      was_lent at good h = elim (cases_Bool (covers left at)) [
        | inl here ↦ or_left (covers left at) (is_some (lent_at own.kept (dir_text at))) here
        | inr other ↦ elim (cases_Bool (bytes_eq (or_root (dir_of list)) (dir_text at))) [
          | inl same ↦
              absurd (both_ways (covers left at) other (covered_by left (dir_text at) at
              (ap (λ (d : List ℕ). is_some (lent_at left d)) (sym (same_bytes (or_root (dir_of list)) (dir_text at) same)) ∙ ap is_some there) (own_above at good (parent_of at) refl)))
          | inr apart ↦
              or_right (covers left at) (is_some (lent_at own.kept (dir_text at)))
              (sym (ap is_some (put (dir_text at) ∙ update_other (lent_at own.kept) (or_root (dir_of list)) (Some (rows_in list)) (dir_text at) apart))
              ∙ sym (ap (λ (b : Bool). b || is_some (lent_at now.kept (dir_text at))) other) ∙ h)
        ]
      ]
        where
          own_above : (path : List ℕ) → is_path path ≡ true → (d : Option (List ℕ)) → parent_of path ≡ d → is_above (as_dir (dir_text path)) path ≡ true
          own_above path fine None is = ap (λ (d : Option (List ℕ)). is_above (as_dir (or_root d)) path) is
          own_above path fine (Some d) is =
              ap (λ (e : Option (List ℕ)). is_above (as_dir (or_root e)) path) is
              ∙ ap (λ (e : Option (List ℕ)). is_above e path) (as_path d (within_path d path (within_below d path (below_parent d path is)) fine))
              ∙ below_parent d path is

  covered_right : (at : List ℕ) → parent_of at ≡ dir_of list → covers left at ≡ true
  covered_right at is = covered_in list left there at (right_above (dir_of list) at is)

  -- memory was wanting while the nodes were taken
  pub moved_some : (now : InMemory) → IsOpen left (dir_of list) → AddsSome list own.rows own.times now.rows now.times → AreOthersKept own now → IsMoved docket rows left own left now
  moved_some now free adds kept = record {
    parted = record {
      lists = parted.lists;
      placed = λ at dir h is. elim (adds.each at) [
        | inl stays ↦ parted.placed at dir (sym (ap is_some stays.node) ∙ h) is
        | inr right ↦ free dir (sym right.0 ∙ is)
      ];
      known = λ at h covered. elim (adds.each at) [
        | inl stays ↦ parted.known at (sym (ap is_some stays.node) ∙ h) covered
        | inr right ↦ sym (ap is_some (in_image at (right_above (dir_of list) at right.0))) ∙ right.1
      ];
      paths = parted.paths;
      formed = formed_same (whole docket rows left (memory_table now)) (whole docket rows left (memory_table own)) same parted.formed;
    };
    same = same;
    nodes = λ at. one_node (option_map node_of (row_at rows at)) (node_at own.rows at) (node_at now.rows at) (covers left at) (covers left at) (nodes_agree at (covers left at) refl);
    lent = λ dir. ap (λ (k : List (List ℕ × List Row)). is_lent_in rows left k dir) kept.kept;
    changed = kept.changed;
  }
    where
      nodes_agree : (at : List ℕ) (was : Bool) → covers left at ≡ was → AgreeNodes (option_map node_of (row_at rows at)) (node_at own.rows at) (node_at now.rows at) was was
      nodes_agree at true h = tt
      nodes_agree at false h = elim (adds.each at) [
        | inl stays ↦ stays.node
        | inr right ↦ absurd (both_ways (covers left at) h (covered_right at right.0))
      ]

      agrees : (at : List ℕ) (was : Bool) → covers left at ≡ was → Agrees (reading.table_of docket rows) (memory_table own) (memory_table now) at was was
      agrees at true h = tt
      agrees at false h = elim (adds.each at) [
        | inl stays ↦ same_as_before own now at stays
        | inr right ↦ absurd (both_ways (covers left at) h (covered_right at right.0))
      ]

      same : IsSame (whole docket rows left (memory_table now)) (whole docket rows left (memory_table own))
      same = merged_same docket rows left own left now kept (λ at. agrees at (covers left at) refl)

  -- a row of the list that isn't at one of its nodes is covered still
  module _ (left_now : List (List ℕ × List Row)) (served : AreServed list list.count left) (gone : IsLentPut (or_root (dir_of list)) None left left_now) where
    kid_covered : (e at : List ℕ) → is_path e ≡ true → parent_of e ≡ dir_of list → is_below e at ≡ true → is_some (lent_at left e) ≡ true → covers left_now at ≡ true
    kid_covered e at good placed below some =
        covered_by left_now e at
        (ap is_some
        (removed_other (or_root (dir_of list)) left left_now gone e
        (false_from_ne_true (bytes_eq (or_root (dir_of list)) e) (λ same.
        let is : or_root (dir_of list) ≡ e = same_bytes (or_root (dir_of list)) e same in
        not_in_itself (dir_of list) (ap is_path is ∙ good) (ap parent_of is ∙ placed))))
        ∙ some)
        (ap (λ (d : Option (List ℕ)). is_above d at) (as_path e good) ∙ below)

    row_covered : (at : List ℕ) → is_some (row_at (rows_in list) at) ≡ true → ((i : ℕ) → i < list.count → bytes_eq (path_at list i) at ≡ false) → covers left_now at ≡ true
    row_covered at some none = step (cases_Bool (is_same_dir (dir_of list) (parent_of at)))
      where
        good : is_path at ≡ true
        good = row_is_path list at some

        deep : (e : List ℕ) × (parent_of e ≡ dir_of list) × (is_path e ≡ true) × (is_below e at ≡ true) → covers left_now at ≡ true
        deep e =
            let place = placed_at list e.0 e.2 e.1 (row_rooted list e.0 at (right_above (dir_of list) e.0 e.1) e.3 some) in
            elim (served place.0 place.1) [
              | inl lent ↦ kid_covered e.0 at e.2 e.1 e.3 (ap (λ (p : List ℕ). is_some (lent_at left p)) (sym place.2) ∙ lent)
              | inr nothing ↦ absurd (some_never (row_at (rows_in list) at) (nothing at (ap (λ (p : List ℕ). is_below p at) place.2 ∙ e.3)) some)
            ]

        step : (is_same_dir (dir_of list) (parent_of at) ≡ true) ⊎ (is_same_dir (dir_of list) (parent_of at) ≡ false) → covers left_now at ≡ true
        step (inl right) =
            let place = placed_at list at good (sym (same_dir (dir_of list) (parent_of at) right)) some in
            absurd (both_ways (bytes_eq (path_at list place.0) at) (none place.0 place.1) (ap (λ (p : List ℕ). bytes_eq p at) place.2 ∙ equal_bytes at))
        step (inr other) = deep (between (dir_of list) at good (row_above list at some) other)

    -- what was covered and isn't stands below the list's directory
    above_of : (at : List ℕ) → covers left at ≡ true → covers left_now at ≡ false → is_above (dir_of list) at ≡ true
    above_of at was is =
        let found = covers_some left at was in
        elim (cases_Bool (bytes_eq (or_root (dir_of list)) found.0)) [
          | inl same ↦
              (λ k. is_above (sym (as_own list) k) at) ∙ ap (λ (d : List ℕ). is_above (as_dir d) at) (same_bytes (or_root (dir_of list)) found.0 same) ∙ found.1.1
          | inr other ↦
              absurd (both_ways (covers left_now at) is
              (covered_by left_now found.0 at (ap is_some (removed_other (or_root (dir_of list)) left left_now gone found.0 other) ∙ found.1.0) found.1.1))
        ]

    -- the nodes were taken, and the list is lent no more
    pub moved_all : (now : InMemory) → is_some (lent_at own.kept (or_root (dir_of list))) ≡ true → IsOpen left (dir_of list) → AddsNodes list list.count own.rows own.times now.rows now.times → AreOthersKept own now → IsMoved docket rows left own left_now now
    moved_all now known free adds kept = record {
      parted = record {
        lists = λ e r is at above.
            parted.lists e r (sym (removed_was (or_root (dir_of list)) left left_now gone e (ap is_some is)) ∙ is) at above;
        placed = λ at dir h is. elim (adds.each at) [
          | inl not_of ↦
              false_from_ne_true (covers left_now dir) (λ covered.
              both_ways (covers left dir) (parted.placed at dir (sym (ap is_some not_of.stays.node) ∙ h) is) (removed_less (or_root (dir_of list)) left left_now gone dir covered))
          | inr has ↦
              false_from_ne_true (covers left_now dir) (λ covered.
              both_ways (covers left dir) (free dir (sym has.dir ∙ is)) (removed_less (or_root (dir_of list)) left left_now gone dir covered))
        ];
        known = λ at h covered. elim (adds.each at) [
          | inl not_of ↦ parted.known at (sym (ap is_some not_of.stays.node) ∙ h) (removed_less (or_root (dir_of list)) left left_now gone at covered)
          | inr has ↦ sym (ap is_some (in_image at (right_above (dir_of list) at has.dir))) ∙ ap is_some has.there
        ];
        paths = parted.paths;
        formed = formed_same (whole docket rows left_now (memory_table now)) (whole docket rows left (memory_table own)) same parted.formed;
      };
      same = same;
      nodes = λ at. one_node (option_map node_of (row_at rows at)) (node_at own.rows at) (node_at now.rows at) (covers left at) (covers left_now at) (nodes_agree at (covers left at) (covers left_now at) refl refl);
      lent = λ dir. ap (λ (k : List (List ℕ × List Row)). is_lent_in rows left_now k dir) kept.kept ∙ lent_same rows parted.paths left left_now own.kept own.kept lent_at_row dir;
      changed = kept.changed;
    }
      where
        -- a row that isn't covered any more is that of a node of the list, which is kept
        row_kept : (at : List ℕ) → is_some (row_at rows at) ≡ true → covers left at ≡ true → (covers left_now at || is_some (lent_at own.kept (dir_text at))) ≡ true
        row_kept at some was = elim (cases_Bool (covers left_now at)) [
          | inl is ↦ or_left (covers left_now at) (is_some (lent_at own.kept (dir_text at))) is
          | inr not_now ↦ or_right (covers left_now at) (is_some (lent_at own.kept (dir_text at))) (elim (adds.each at) [
            | inl not_of ↦
                absurd (both_ways (covers left_now at) not_now (row_covered at (ap is_some (in_image at (above_of at was not_now)) ∙ some) not_of.none))
            | inr has ↦ ap (λ (d : Option (List ℕ)). is_some (lent_at own.kept (or_root d))) has.dir ∙ known
          ])
        ]

        or_known : (a b c : Bool) → (a ≡ true → c ≡ true) → (a || b) ≡ true → (c || b) ≡ true
        or_known true b c f h = or_left c b (f refl)
        or_known false b c f h = or_right c b h

        lent_at_row : (at : List ℕ) → is_some (row_at rows at) ≡ true → (covers left_now at || is_some (lent_at own.kept (dir_text at))) ≡ (covers left at || is_some (lent_at own.kept (dir_text at)))
        lent_at_row at some =
            same_bools (covers left_now at || is_some (lent_at own.kept (dir_text at))) (covers left at || is_some (lent_at own.kept (dir_text at)))
            (or_known (covers left_now at) (is_some (lent_at own.kept (dir_text at))) (covers left at) (removed_less (or_root (dir_of list)) left left_now gone at))
            (λ h. elim (cases_Bool (covers left at)) [
              | inl was ↦ row_kept at some was
              | inr never ↦ or_right (covers left_now at) (is_some (lent_at own.kept (dir_text at))) (sym (ap (λ (b : Bool). b || is_some (lent_at own.kept (dir_text at))) never) ∙ h)
            ])

        none_there : (at : List ℕ) → covers left at ≡ true → covers left_now at ≡ false → IsNotOf list list.count at own.rows own.times now.rows now.times → row_at rows at ≡ None
        none_there at was is not_of =
            sym (in_image at (above_of at was is))
            ∙ none_is (row_at (rows_in list) at) (λ some. both_ways (covers left_now at) is (row_covered at some not_of.none))

        nodes_agree : (at : List ℕ) (was is : Bool) → covers left at ≡ was → covers left_now at ≡ is → AgreeNodes (option_map node_of (row_at rows at)) (node_at own.rows at) (node_at now.rows at) was is
        nodes_agree at true true c d = tt
        nodes_agree at true false c d = elim (adds.each at) [
          | inl not_of ↦
              none_is (node_at now.rows at) (λ h. some_never (row_at rows at) (none_there at c d not_of) (parted.known at (sym (ap is_some not_of.stays.node) ∙ h) c))
              ∙ sym (ap (option_map node_of) (none_there at c d not_of))
          | inr has ↦ has.node ∙ sym (ap (option_map node_of) (sym (in_image at (right_above (dir_of list) at has.dir)) ∙ has.there))
        ]
        nodes_agree at false true c d = both_ways (covers left at) c (removed_less (or_root (dir_of list)) left left_now gone at d)
        nodes_agree at false false c d = elim (adds.each at) [
          | inl not_of ↦ not_of.stays.node
          | inr has ↦ absurd (both_ways (covers left at) c (covered_right at has.dir))
        ]

        agrees : (at : List ℕ) (was is : Bool) → covers left at ≡ was → covers left_now at ≡ is → Agrees (reading.table_of docket rows) (memory_table own) (memory_table now) at was is
        agrees at true true c d = tt
        agrees at true false c d = elim (adds.each at) [
          | inl not_of ↦
              same_as_none docket rows now at (formed_bare now adds.formed) (none_there at c d not_of)
              (λ h. some_never (row_at rows at) (none_there at c d not_of) (parted.known at (sym (ap is_some not_of.stays.node) ∙ h) c))
          | inr has ↦ same_as_row docket rows now at has.row (sym (in_image at (right_above (dir_of list) at has.dir)) ∙ has.there) has.node has.time
        ]
        agrees at false true c d = both_ways (covers left at) c (removed_less (or_root (dir_of list)) left left_now gone at d)
        agrees at false false c d = elim (adds.each at) [
          | inl not_of ↦ same_as_before own now at not_of.stays
          | inr has ↦ absurd (both_ways (covers left at) c (covered_right at has.dir))
        ]

        same : IsSame (whole docket rows left_now (memory_table now)) (whole docket rows left (memory_table own))
        same = merged_same docket rows left own left_now now kept (λ at. agrees at (covers left at) (covers left_now at) refl refl)
