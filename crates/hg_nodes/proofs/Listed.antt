-- A change of one path, in the list of its directory and in all lists.
use Rattle.std.proofs.Common.{ℕ, ◌≡◌, Bool, true, false, not, ◌||◌, cond, List, [], ◌∷◌, length, eqb, Option, Some, None, String, refl, sym, ap, ◌∙◌, subst, inl, inr, true≢false, arith}
use Rattle.std.specs.Prelude.{IsSome, is_some}
use Rattle.std.specs.Option.{option_map, option_and_then}
use Rattle.std.specs.List.{AllByRecursion}
use Rattle.std.specs.List.Sorted.{IsStrictlySortedBy}
use Rattle.std.specs.Map.{lookup, keys_of, update, remove_entry, set_value}
use Rattle.std.specs.BTreeMap.{BTreeMap, WritesThrough, get_by_text, is_at, insert_entry}
use Rattle.std.specs.Str.{bytes_eq}
use Rattle.std.specs.String.{string_bytes, string_cmp}
use Rattle.std.specs.Ordering.{eq_by_cmp, is_eq, match_ordering}
use Rattle.std.specs.declared.cmp.Ordering.{Ordering}
use Rattle.std.specs.declared.cmp.Ordering.TheVariants.{Less, Equal, Greater}
use Rattle.std.proofs.lemmas.Bool.{cases_Bool, cond-true, cond-false, both_ways, false_from_ne_true, or_left, or_from, or_parts, ne_eqb}
use Rattle.std.proofs.lemmas.Map.Keys.{IsDistinct-from_sorted, IsDistinct-head, sorted_tail}
use Rattle.std.proofs.lemmas.Map.Text.{btree_map_updates_text, text_cmp, is_eq-slice_cmp}
use Rattle.std.proofs.lemmas.List.Folds.{list_any-append}
use Rattle.hg_base.proofs.Within.{same_bytes, equal_bytes}
use Rattle.hg_nodes.specs.Node.{AreSame, IsPut, NodeData, node_at}
use Rattle.hg_nodes.specs.Lists.{data_of, dir_text, look, rows_in, rows_of, IsListOf, AreListed, AreChanged, AreKept, IsChanged, has_rows_in}
use Rattle.hg_nodes.specs.declared.node.Node.{Node}
use Rattle.hg_nodes.proofs.Rows.{apart_keys, row_of}

pick : {A : Type 0} (P : A → Type 0) (o : Ordering) (less equal greater : A) → (o ≡ Less → P less) → (o ≡ Equal → P equal) → (o ≡ Greater → P greater) → P (match_ordering o less equal greater)
pick P Less less equal greater l e g = l refl
pick P Equal less equal greater l e g = e refl
pick P Greater less equal greater l e g = g refl

choose : {A : Type 0} (P : A → Type 0) (b : Bool) (x y : A) → (b ≡ true → P x) → (b ≡ false → P y) → P (cond b x y)
choose P true x y t f = t refl
choose P false x y t f = f refl

is_there : {X : Type 0} (o : Option X) (x : X) → Some x ≡ o → IsSome o
is_there None x h = absurd (cc)
is_there (Some y) x h = refl

or_false : (b : Bool) → (b || false) ≡ b
or_false b = elim b as (λ v. (v || false) ≡ v) [ true ↦ refl | false ↦ refl ]

module _ {Y : Type 0} where
  -- ---- the paths of one list

  pub placed_insert : (dir : List ℕ) (key : String Y) (node : Node) (nodes : List (String Y × Node)) → dir_text (string_bytes key) ≡ dir
      → IsListOf dir (keys_of nodes) → IsListOf dir (keys_of (insert_entry string_cmp nodes key node))
  placed_insert dir key node [] here placed = (here, tt)
  placed_insert dir key node (e ∷ nodes) here placed =
      pick (λ es. IsListOf dir (keys_of es)) (string_cmp key e.0) ((key, node) ∷ e ∷ nodes) ((e.0, node) ∷ nodes) (e ∷ insert_entry string_cmp nodes key node)
      (λ _. (here, placed)) (λ _. placed) (λ _. (placed.0, placed_insert dir key node nodes here placed.1))

  pub placed_remove : (dir : List ℕ) (test : String Y → Bool) (nodes : List (String Y × Node)) → IsListOf dir (keys_of nodes) → IsListOf dir (keys_of (remove_entry test nodes))
  placed_remove dir test [] placed = tt
  placed_remove dir test (e ∷ nodes) placed =
      choose (λ es. IsListOf dir (keys_of es)) (test e.0) nodes (e ∷ remove_entry test nodes)
      (λ _. placed.1) (λ _. (placed.0, placed_remove dir test nodes placed.1))

  -- ---- the paths of all lists

  abbrev pub ArePlaced : List (String Y × BTreeMap (String Y) Node) → Type 0
  ArePlaced lists = AllByRecursion (λ list. IsListOf (string_bytes list.0) (keys_of list.1.entries)) lists

  pub all_insert : (key : String Y) (list : BTreeMap (String Y) Node) (lists : List (String Y × BTreeMap (String Y) Node)) → IsListOf (string_bytes key) (keys_of list.entries)
      → ArePlaced lists → ArePlaced (insert_entry string_cmp lists key list)
  all_insert key list [] here placed = (here, tt)
  all_insert key list (e ∷ lists) here placed =
      pick ArePlaced (string_cmp key e.0) ((key, list) ∷ e ∷ lists) ((e.0, list) ∷ lists) (e ∷ insert_entry string_cmp lists key list)
      (λ _. (here, placed))
      (λ same. (
        subst (λ (d : List ℕ). IsListOf d (keys_of list.entries)) (same_bytes (string_bytes key) (string_bytes e.0) (sym (is_eq-slice_cmp (string_bytes key) (string_bytes e.0)) ∙ ap is_eq same)) here,
        placed.1,
      ))
      (λ _. (placed.0, all_insert key list lists here placed.1))

  pub all_set : (dir : List ℕ) (list : BTreeMap (String Y) Node) (lists : List (String Y × BTreeMap (String Y) Node)) → IsListOf dir (keys_of list.entries)
      → ArePlaced lists → ArePlaced (set_value (is_at (text_cmp dir)) lists list)
  all_set dir list [] here placed = tt
  all_set dir list (e ∷ lists) here placed =
      choose ArePlaced (is_at (text_cmp dir) e.0) ((e.0, list) ∷ lists) (e ∷ set_value (is_at (text_cmp dir)) lists list)
      (λ same. (
        subst (λ (d : List ℕ). IsListOf d (keys_of list.entries)) (same_bytes dir (string_bytes e.0) (sym (is_eq-slice_cmp dir (string_bytes e.0)) ∙ same)) here,
        placed.1,
      ))
      (λ _. (placed.0, all_set dir list lists here placed.1))

  pub all_remove : (test : String Y → Bool) (lists : List (String Y × BTreeMap (String Y) Node)) → ArePlaced lists → ArePlaced (remove_entry test lists)
  all_remove test [] placed = tt
  all_remove test (e ∷ lists) placed =
      choose ArePlaced (test e.0) lists (e ∷ remove_entry test lists) (λ _. placed.1) (λ _. (placed.0, all_remove test lists placed.1))

  -- the list of a directory is placed
  pub one_placed : (dir : List ℕ) (lists : List (String Y × BTreeMap (String Y) Node)) (list : BTreeMap (String Y) Node) → ArePlaced lists
      → lookup (is_at (text_cmp dir)) lists ≡ Some list → IsListOf dir (keys_of list.entries)
  one_placed dir [] list placed found = absurd (cc)
  one_placed dir (e ∷ lists) list placed found = elim (cases_Bool (is_at (text_cmp dir) e.0)) [
    | inl same ↦
        let is : Some e.1 ≡ Some list = sym (cond-true (is_at (text_cmp dir) e.0) (Some e.1) (lookup (is_at (text_cmp dir)) lists) same) ∙ found in
        let it : e.1 ≡ list = cc in
        subst (λ (l : BTreeMap (String Y) Node). IsListOf dir (keys_of l.entries)) it
        (subst (λ (d : List ℕ). IsListOf d (keys_of e.1.entries)) (sym (same_bytes dir (string_bytes e.0) (sym (is_eq-slice_cmp dir (string_bytes e.0)) ∙ same))) placed.0)
    | inr other ↦ one_placed dir lists list placed.1 (sym (cond-false (is_at (text_cmp dir) e.0) (Some e.1) (lookup (is_at (text_cmp dir)) lists) other) ∙ found)
  ]

  -- ---- what is found

  -- what the list of a directory has at a path
  abbrev pub there : BTreeMap (String Y) (BTreeMap (String Y) Node) → List ℕ → List ℕ → Option Node
  there lists dir at = option_and_then (λ list. get_by_text list at) (get_by_text lists dir)

  pub found_changed : (path : List ℕ) (node : Option Node) (old new : BTreeMap (String Y) (BTreeMap (String Y) Node)) (list : BTreeMap (String Y) Node)
      → ((dir : List ℕ) → get_by_text new dir ≡ update bytes_eq (get_by_text old) (dir_text path) (Some list) dir)
      → ((at : List ℕ) → get_by_text list at ≡ update bytes_eq (there old (dir_text path)) path node at)
      → (at : List ℕ) → look new at ≡ update bytes_eq (look old) path node at
  found_changed path node old new list updates changed at = elim (cases_Bool (bytes_eq (dir_text path) (dir_text at))) [
    | inl same ↦
        ap (option_and_then (λ l. get_by_text l at)) (updates (dir_text at) ∙ cond-true (bytes_eq (dir_text path) (dir_text at)) (Some list) (get_by_text old (dir_text at)) same)
        ∙ changed at
        ∙ ap (λ (d : List ℕ). cond (bytes_eq path at) node (there old d at)) (same_bytes (dir_text path) (dir_text at) same)
    | inr other ↦
        let apart : bytes_eq path at ≡ false = false_from_ne_true (bytes_eq path at) (λ h.
        both_ways (bytes_eq (dir_text path) (dir_text at)) other (ap (λ (p : List ℕ). bytes_eq (dir_text p) (dir_text at)) (same_bytes path at h) ∙ equal_bytes (dir_text at))) in
        ap (option_and_then (λ l. get_by_text l at)) (updates (dir_text at) ∙ cond-false (bytes_eq (dir_text path) (dir_text at)) (Some list) (get_by_text old (dir_text at)) other)
        ∙ sym (cond-false (bytes_eq path at) node (look old at) apart)
  ]

  -- ---- whether there are any

  abbrev pub is_list : BTreeMap (String Y) Node → Bool
  is_list list = not (eqb (length list.entries) 0)

  abbrev pub has_list : Option (BTreeMap (String Y) Node) → Bool
  has_list None = false
  has_list (Some list) = is_list list

  has_here : (dir : List ℕ) (nodes : List (String Y × Node)) → IsListOf dir (keys_of nodes) → has_rows_in (rows_in nodes) dir ≡ not (eqb (length nodes) 0)
  has_here dir [] placed = refl
  has_here dir (e ∷ nodes) placed =
      let some : eqb (length (e ∷ nodes)) 0 ≡ false = ne_eqb (length (e ∷ nodes)) 0 (λ h. omega arith) in
      or_left (bytes_eq (dir_text (string_bytes e.0)) dir) (has_rows_in (rows_in nodes) dir) (ap (λ (d : List ℕ). bytes_eq d dir) placed.0 ∙ equal_bytes dir)
      ∙ sym (ap not some)

  has_elsewhere : (dir other : List ℕ) (nodes : List (String Y × Node)) → IsListOf other (keys_of nodes) → bytes_eq dir other ≡ false → has_rows_in (rows_in nodes) dir ≡ false
  has_elsewhere dir other [] placed apart = refl
  has_elsewhere dir other (e ∷ nodes) placed apart =
      or_from (bytes_eq (dir_text (string_bytes e.0)) dir) (has_rows_in (rows_in nodes) dir)
      (false_from_ne_true (bytes_eq (dir_text (string_bytes e.0)) dir) (λ same.
      both_ways (bytes_eq dir other) apart (ap (bytes_eq dir) (sym placed.0 ∙ same_bytes (dir_text (string_bytes e.0)) dir same) ∙ equal_bytes dir)))
      (has_elsewhere dir other nodes placed.1 apart)

  has_none : (dir : List ℕ) (lists : List (String Y × BTreeMap (String Y) Node)) → ArePlaced lists → AllByRecursion (λ key. bytes_eq dir (string_bytes key) ≡ false) (keys_of lists)
      → has_rows_in (rows_of lists) dir ≡ false
  has_none dir [] placed others = refl
  has_none dir (list ∷ lists) placed others =
      list_any-append (λ row. bytes_eq (dir_text row.0) dir) (rows_in list.1.entries) (rows_of lists)
      ∙ or_from (has_rows_in (rows_in list.1.entries) dir) (has_rows_in (rows_of lists) dir)
      (has_elsewhere dir (string_bytes list.0) list.1.entries placed.0 others.0) (has_none dir lists placed.1 others.1)

  pub has_rows : (dir : List ℕ) (lists : List (String Y × BTreeMap (String Y) Node)) → AreListed lists
      → has_rows_in (rows_of lists) dir ≡ has_list (lookup (is_at (text_cmp dir)) lists)
  has_rows dir [] fit = refl
  has_rows dir (list ∷ lists) fit = elim (cases_Bool (bytes_eq dir (string_bytes list.0))) [
    | inl same ↦
        let found : is_at (text_cmp dir) list.0 ≡ true = is_eq-slice_cmp dir (string_bytes list.0) ∙ same in
        let here = has_here dir list.1.entries (subst (λ (d : List ℕ). IsListOf d (keys_of list.1.entries)) (sym (same_bytes dir (string_bytes list.0) same)) fit.placed.0) in
        let rest = has_none dir lists fit.placed.1 (apart_keys dir list.0 (keys_of lists) same
        (IsDistinct-head (eq_by_cmp string_cmp) list.0 (keys_of lists) (IsDistinct-from_sorted string_cmp (list.0 ∷ keys_of lists) fit.ordered))) in
        list_any-append (λ row. bytes_eq (dir_text row.0) dir) (rows_in list.1.entries) (rows_of lists)
        ∙ ap (λ (b : Bool). has_rows_in (rows_in list.1.entries) dir || b) rest
        ∙ or_false (has_rows_in (rows_in list.1.entries) dir)
        ∙ here
        ∙ sym (ap has_list (cond-true (is_at (text_cmp dir) list.0) (Some list.1) (lookup (is_at (text_cmp dir)) lists) found))
    | inr other ↦
        let missed : is_at (text_cmp dir) list.0 ≡ false = is_eq-slice_cmp dir (string_bytes list.0) ∙ other in
        list_any-append (λ row. bytes_eq (dir_text row.0) dir) (rows_in list.1.entries) (rows_of lists)
        ∙ ap (λ (b : Bool). b || has_rows_in (rows_of lists) dir) (has_elsewhere dir (string_bytes list.0) list.1.entries fit.placed.0 other)
        ∙ has_rows dir lists (record { ordered = sorted_tail string_cmp list.0 (keys_of lists) fit.ordered; placed = fit.placed.1 })
        ∙ sym (ap has_list (cond-false (is_at (text_cmp dir) list.0) (Some list.1) (lookup (is_at (text_cmp dir)) lists) missed))
  ]

-- no row stands in a directory
pub rows_none : (rows : List (List ℕ × NodeData)) (dir at : List ℕ) → has_rows_in rows dir ≡ false → dir_text at ≡ dir → node_at rows at ≡ None
rows_none [] dir at none in_dir = refl
rows_none (row ∷ rows) dir at none in_dir =
    let parts = or_parts (bytes_eq (dir_text row.0) dir) (has_rows_in rows dir) none in
    cond-false (bytes_eq at row.0) (Some row.1) (node_at rows at)
    (false_from_ne_true (bytes_eq at row.0) (λ same.
    both_ways (bytes_eq (dir_text row.0) dir) parts.0 (ap (λ (p : List ℕ). bytes_eq (dir_text p) dir) (sym (same_bytes at row.0 same)) ∙ ap (λ (d : List ℕ). bytes_eq d dir) in_dir ∙ equal_bytes dir)))
    ∙ rows_none rows dir at parts.1 in_dir

-- one does
pub rows_some : (rows : List (List ℕ × NodeData)) (dir : List ℕ) → has_rows_in rows dir ≡ true → (at : List ℕ) × (dir_text at ≡ dir) × (is_some (node_at rows at) ≡ true)
rows_some [] dir some = absurd (true≢false (sym some))
rows_some (row ∷ rows) dir some = elim (cases_Bool (bytes_eq (dir_text row.0) dir)) [
  | inl here ↦ (row.0, same_bytes (dir_text row.0) dir here, ap is_some (cond-true (bytes_eq row.0 row.0) (Some row.1) (node_at rows row.0) (equal_bytes row.0)))
  | inr other ↦
      let more = rows_some rows dir (sym (ap (λ (b : Bool). b || has_rows_in rows dir) other) ∙ some) in
      (more.0, more.1, choose (λ o. is_some o ≡ true) (bytes_eq more.0 row.0) (Some row.1) (node_at rows more.0) (λ _. refl) (λ _. more.2))
]

none_back : (o : Option Node) → option_map data_of o ≡ None → o ≡ None
none_back None h = refl
none_back (Some n) h = absurd (cc)

module _ {Y : Type 0} where
  -- where no row stands in a directory, nothing is found there
  pub look_none : (lists : BTreeMap (String Y) (BTreeMap (String Y) Node)) (dir at : List ℕ) → AreListed lists.entries → has_rows_in (rows_of lists.entries) dir ≡ false → dir_text at ≡ dir → look lists at ≡ None
  look_none lists dir at fit none in_dir =
      none_back (look lists at) (sym (row_of lists.entries fit at) ∙ rows_none (rows_of lists.entries) dir at none in_dir)

  -- a directory's list goes in which no node is
  pub found_dropped : (dir : List ℕ) (old new : BTreeMap (String Y) (BTreeMap (String Y) Node)) → AreListed old.entries → has_rows_in (rows_of old.entries) dir ≡ false
      → ((d : List ℕ) → get_by_text new d ≡ update bytes_eq (get_by_text old) dir None d) → (at : List ℕ) → look new at ≡ look old at
  found_dropped dir old new fit none updates at = elim (cases_Bool (bytes_eq dir (dir_text at))) [
    | inl same ↦
        ap (option_and_then (λ l. get_by_text l at)) (updates (dir_text at) ∙ cond-true (bytes_eq dir (dir_text at)) None (get_by_text old (dir_text at)) same)
        ∙ sym (look_none old dir at fit none (sym (same_bytes dir (dir_text at) same)))
    | inr other ↦
        ap (option_and_then (λ l. get_by_text l at)) (updates (dir_text at) ∙ cond-false (bytes_eq dir (dir_text at)) None (get_by_text old (dir_text at)) other)
  ]

  -- nothing is taken where there is no list
  pub found_nothing : (path : List ℕ) (lists : BTreeMap (String Y) (BTreeMap (String Y) Node)) → get_by_text lists (dir_text path) ≡ None
      → (at : List ℕ) → look lists at ≡ update bytes_eq (look lists) path None at
  found_nothing path lists none at = elim (cases_Bool (bytes_eq path at)) [
    | inl same ↦
        ap (look lists) (sym (same_bytes path at same)) ∙ ap (option_and_then (λ l. get_by_text l path)) none ∙ sym (cond-true (bytes_eq path at) None (look lists at) same)
    | inr other ↦ sym (cond-false (bytes_eq path at) None (look lists at) other)
  ]

  -- ---- through what a map lends

  pub node_written : (path : List ℕ) (node : Node) (old new : BTreeMap (String Y) Node) → IsSome (get_by_text old path)
      → WritesThrough string_cmp (text_cmp path) old node new → IsChanged path (Some node) old new
  node_written path node old new some writes = record {
    found = λ at. btree_map_updates_text path old new (Some node) (writes.3 some) at;
    placed = λ dir here placed. subst (IsListOf dir) (sym writes.1) placed;
  }

  module _ (path dir : List ℕ) (in_dir : dir ≡ dir_text path) (old new : BTreeMap (String Y) (BTreeMap (String Y) Node)) (list written : BTreeMap (String Y) Node)
      (fit : AreListed old.entries) (was : Some list ≡ get_by_text old dir) (writes : WritesThrough string_cmp (text_cmp dir) old written new) where
    at_dir : Some list ≡ get_by_text old (dir_text path)
    at_dir = was ∙ ap (get_by_text old) in_dir

    updates : (d : List ℕ) → get_by_text new d ≡ update bytes_eq (get_by_text old) (dir_text path) (Some written) d
    updates d =
        btree_map_updates_text dir old new (Some written) (writes.3 (is_there (get_by_text old dir) list was)) d
        ∙ ap (λ (x : List ℕ). update bytes_eq (get_by_text old) x (Some written) d) in_dir

    listed : IsListOf dir (keys_of written.entries) → AreListed new.entries
    listed placed = record {
      ordered = writes.4;
      placed = subst ArePlaced (sym writes.0) (all_set dir written old.entries placed fit.placed);
    }

    was_placed : IsListOf dir (keys_of list.entries)
    was_placed = one_placed dir old.entries list fit.placed (sym was)

    pub list_changed : (node : Option Node) → IsChanged path node list written → AreChanged path node old new
    list_changed node changed = record {
      found = found_changed path node old new written updates (λ at.
          changed.found at ∙ ap (λ (o : Option (BTreeMap (String Y) Node)). cond (bytes_eq path at) node (option_and_then (λ l. get_by_text l at) o)) at_dir);
      listed = listed (changed.placed dir (sym in_dir) was_placed);
    }

    pub list_kept : written.entries ≡ list.entries → AreKept old new
    list_kept same = record {
      found = λ at. elim (cases_Bool (bytes_eq (dir_text path) (dir_text at))) [
        | inl here ↦
            ap (option_and_then (λ l. get_by_text l at)) (updates (dir_text at) ∙ cond-true (bytes_eq (dir_text path) (dir_text at)) (Some written) (get_by_text old (dir_text at)) here)
            ∙ ap (lookup (is_at (text_cmp at))) same
            ∙ ap (option_and_then (λ l. get_by_text l at)) (at_dir ∙ ap (get_by_text old) (same_bytes (dir_text path) (dir_text at) here))
        | inr other ↦
            ap (option_and_then (λ l. get_by_text l at)) (updates (dir_text at) ∙ cond-false (bytes_eq (dir_text path) (dir_text at)) (Some written) (get_by_text old (dir_text at)) other)
      ];
      listed = listed (subst (λ es. IsListOf dir (keys_of es)) (sym same) was_placed);
    }

  -- a list of one node, where its directory had none
  pub list_added : (path dir : List ℕ) (key : String Y) (node : Node) (old new : BTreeMap (String Y) (BTreeMap (String Y) Node)) (none list : BTreeMap (String Y) Node)
      → dir_text path ≡ dir → string_bytes key ≡ dir → AreListed old.entries → get_by_text old dir ≡ None → none.entries ≡ []
      → IsChanged path (Some node) none list
      → ((d : List ℕ) → get_by_text new d ≡ update bytes_eq (get_by_text old) (string_bytes key) (Some list) d)
      → new.entries ≡ insert_entry string_cmp old.entries key list → IsStrictlySortedBy string_cmp (keys_of new.entries) → AreChanged path (Some node) old new
  list_added path dir key node old new none list in_dir is_key fit absent empty changed updates entries ordered = record {
    found = found_changed path (Some node) old new list
        (λ d. updates d ∙ ap (λ (x : List ℕ). update bytes_eq (get_by_text old) x (Some list) d) (is_key ∙ sym in_dir))
        (λ at.
        changed.found at
        ∙ ap (λ (o : Option Node). cond (bytes_eq path at) (Some node) o)
        (ap (lookup (is_at (text_cmp at))) empty ∙ sym (ap (option_and_then (λ l. get_by_text l at)) (ap (get_by_text old) in_dir ∙ absent))));
    listed = record {
      ordered = ordered;
      placed = subst ArePlaced (sym entries) (all_insert key list old.entries
          (subst (λ (d : List ℕ). IsListOf d (keys_of list.entries)) (in_dir ∙ sym is_key) (changed.placed (dir_text path) refl (subst (λ es. IsListOf (dir_text path) (keys_of es)) (sym empty) tt)))
          fit.placed);
    };
  }

option_cond : (b : Bool) (here was : Option Node) → option_map data_of (cond b here was) ≡ cond b (option_map data_of here) (option_map data_of was)
option_cond true here was = refl
option_cond false here was = refl

some_back : (o : Option Node) → is_some (option_map data_of o) ≡ true → IsSome o
some_back None h = absurd (true≢false (sym h))
some_back (Some node) h = refl

module _ {Y : Type 0} (old new : BTreeMap (String Y) (BTreeMap (String Y) Node)) (rows : List (List ℕ × NodeData)) (fit : AreListed old.entries) (are : rows_of old.entries ≡ rows) where
  -- the same of the rows
  pub rows_changed : (path : List ℕ) (here : Option Node) → AreChanged path here old new → IsPut path (option_map data_of here) rows (rows_of new.entries)
  rows_changed path here changed at =
      row_of new.entries changed.listed at
      ∙ ap (option_map data_of) (changed.found at)
      ∙ option_cond (bytes_eq path at) here (look old at)
      ∙ ap (cond (bytes_eq path at) (option_map data_of here)) (sym (row_of old.entries fit at) ∙ ap (λ (r : List (List ℕ × NodeData)). node_at r at) are)

  pub rows_kept : AreKept old new → AreSame rows (rows_of new.entries)
  rows_kept kept at =
      row_of new.entries kept.listed at ∙ ap (option_map data_of) (kept.found at) ∙ sym (row_of old.entries fit at) ∙ ap (λ (r : List (List ℕ × NodeData)). node_at r at) are

  -- where a row is, a node is
  pub node_is : (at : List ℕ) → is_some (node_at rows at) ≡ true → IsSome (look old at)
  node_is at some = some_back (look old at) (ap is_some (sym (row_of old.entries fit at)) ∙ ap (λ (r : List (List ℕ × NodeData)). is_some (node_at r at)) are ∙ some)
