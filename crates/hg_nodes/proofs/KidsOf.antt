-- The nodes of a directory's list are all that stand right in it.
use Rattle.std.proofs.Common.{ℕ, ◌≡◌, Bool, true, false, cond, ◌||◌, List, [], ◌∷◌, Option, Some, None, String, refl, sym, ap, ◌∙◌, subst, true≢false, nat_cmp}
use Rattle.std.specs.Prelude.{is_some}
use Rattle.std.specs.Option.{option_map, option_and_then}
use Rattle.std.specs.List.{AllByRecursion, list_any}
use Rattle.std.specs.List.Sorted.{IsStrictlySortedBy}
use Rattle.std.specs.Map.{lookup, keys_of}
use Rattle.std.specs.BTreeMap.{BTreeMap, get_by_text, is_at}
use Rattle.std.specs.Cmp.Lexicographic.{slice_cmp}
use Rattle.std.specs.Ordering.{is_eq, ordering_reverse}
use Rattle.std.specs.declared.cmp.Ordering.TheVariants.{Less}
use Rattle.std.specs.Str.{bytes_eq}
use Rattle.std.specs.String.{string_bytes, string_cmp}
use Rattle.std.proofs.lemmas.Cmp.{nat_list_cmp_total}
use Rattle.std.proofs.lemmas.Bool.{cond-true, cond-false}
use Rattle.std.proofs.lemmas.Map.Keys.{sorted_head, sorted_tail}
use Rattle.std.proofs.lemmas.Map.Text.{text_cmp, is_eq-slice_cmp}
use Rattle.hg_base.proofs.Within.{equal_bytes}
use Rattle.hg_nodes.specs.Kids.{AreKids}
use Rattle.hg_nodes.specs.Lists.{data_of, dir_text, rows_in, rows_of, IsListOf, AreListed}
use Rattle.hg_nodes.specs.Node.{NodeData, node_at}
use Rattle.hg_nodes.specs.declared.node.Node.{Node}
use Rattle.hg_nodes.proofs.Rows.{row_in, row_of}
use Rattle.hg_nodes.proofs.Listed.{one_placed}

any_step : (b : Bool) (x : NodeData) (o : Option NodeData) → is_some (cond b (Some x) o) ≡ (b || is_some o)
any_step true x o = refl
any_step false x o = refl

-- a path is among rows exactly where a row is found
pub among_rows : (rows : List (List ℕ × NodeData)) (at : List ℕ) → list_any (λ row. bytes_eq at row.0) rows ≡ is_some (node_at rows at)
among_rows [] at = refl
among_rows (row ∷ rows) at =
    ap (λ (b : Bool). bytes_eq at row.0 || b) (among_rows rows at) ∙ sym (any_step (bytes_eq at row.0) row.1 (node_at rows at))

module _ {Y : Type 0} where
  sorted_rows : (nodes : List (String Y × Node)) → IsStrictlySortedBy string_cmp (keys_of nodes) → IsStrictlySortedBy (slice_cmp nat_cmp) (keys_of (rows_in nodes))
  unfolding IsStrictlySortedBy
  sorted_rows [] sorted = tt
  sorted_rows (e ∷ nodes) sorted = (later nodes sorted.0, sorted_rows nodes sorted.1)
    where
      later : (more : List (String Y × Node)) → AllByRecursion (λ y. string_cmp e.0 y ≡ Less) (keys_of more) → AllByRecursion (λ y. slice_cmp nat_cmp (string_bytes e.0) y ≡ Less) (keys_of (rows_in more))
      later [] all = tt
      later (x ∷ more) all = (all.0, later more all.1)

  -- each of the nodes is found at its path
  abbrev AreFound : List (String Y × Node) → List (String Y × Node) → Type 0
  AreFound nodes some = AllByRecursion (λ e. lookup (is_at (text_cmp (string_bytes e.0))) nodes ≡ Some e.1) some

  found_later : (e : String Y × Node) (nodes some : List (String Y × Node)) → AllByRecursion (λ y. string_cmp e.0 y ≡ Less) (keys_of some) → AreFound nodes some → AreFound (e ∷ nodes) some
  found_later e nodes [] all found = tt
  found_later e nodes (x ∷ some) all found = (
    let other : is_at (text_cmp (string_bytes x.0)) e.0 ≡ false = ap is_eq (nat_list_cmp_total.antisymm (string_bytes x.0) (string_bytes e.0) ∙ ap ordering_reverse all.0) in
        cond-false (is_at (text_cmp (string_bytes x.0)) e.0) (Some e.1) (lookup (is_at (text_cmp (string_bytes x.0))) nodes) other ∙ found.0,
    found_later e nodes some all.1 found.1,
  )

  all_found : (nodes : List (String Y × Node)) → IsStrictlySortedBy string_cmp (keys_of nodes) → AreFound nodes nodes
  all_found [] sorted = tt
  all_found (e ∷ nodes) sorted = (
    cond-true (is_at (text_cmp (string_bytes e.0)) e.0) (Some e.1) (lookup (is_at (text_cmp (string_bytes e.0))) nodes) (is_eq-slice_cmp (string_bytes e.0) (string_bytes e.0) ∙ equal_bytes (string_bytes e.0)),
    found_later e nodes nodes (sorted_head string_cmp e.0 (keys_of nodes) sorted) (all_found nodes (sorted_tail string_cmp e.0 (keys_of nodes) sorted)),
  )

  module _ (lists : BTreeMap (String Y) (BTreeMap (String Y) Node)) (dir : List ℕ) (rows : List (List ℕ × NodeData)) (fit : AreListed lists.entries) (are : rows_of lists.entries ≡ rows) where
    in_list : (o : Option (BTreeMap (String Y) Node)) → get_by_text lists dir ≡ o → (at : List ℕ) → dir_text at ≡ dir → node_at rows at ≡ option_map data_of (option_and_then (λ l. get_by_text l at) o)
    in_list o found at here =
        sym (ap (λ (r : List (List ℕ × NodeData)). node_at r at) are)
        ∙ row_of lists.entries fit at
        ∙ ap (λ (l : Option (BTreeMap (String Y) Node)). option_map data_of (option_and_then (λ l. get_by_text l at) l)) (ap (get_by_text lists) here ∙ found)

    pub kids_none : None ≡ get_by_text lists dir → AreKids rows dir []
    unfolding IsStrictlySortedBy
    kids_none none = record {
      sorted = tt;
      each = tt;
      all = λ at here some. absurd (true≢false (sym some ∙ ap is_some (in_list None (sym none) at here)));
    }

    module _ (list : BTreeMap (String Y) Node) (there : Some list ≡ get_by_text lists dir) where
      each_kid : (some : List (String Y × Node)) → IsListOf dir (keys_of some) → AreFound list.entries some
          → AllByRecursion (λ kid. (dir_text kid.0 ≡ dir) × (node_at rows kid.0 ≡ Some kid.1)) (rows_in some)
      each_kid [] placed found = tt
      each_kid (e ∷ some) placed found = (
        (placed.0, in_list (Some list) (sym there) (string_bytes e.0) placed.0 ∙ ap (option_map data_of) found.0),
        each_kid some placed.1 found.1,
      )

      pub kids_some : (nodes : List (String Y × Node)) → nodes ≡ list.entries → IsStrictlySortedBy string_cmp (keys_of list.entries) → AreKids rows dir (rows_in nodes)
      kids_some nodes same sorted = subst (λ ns. AreKids rows dir (rows_in ns)) (sym same) (record {
        sorted = sorted_rows list.entries sorted;
        each = each_kid list.entries (one_placed dir lists.entries list fit.placed (sym there)) (all_found list.entries sorted);
        all = λ at here some.
            among_rows (rows_in list.entries) at ∙ ap is_some (row_in list.entries at)
            ∙ sym (ap is_some (in_list (Some list) (sym there) at here)) ∙ some;
      })
