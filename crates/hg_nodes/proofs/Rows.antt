-- The lists of nodes as rows: the row of a path is in the list of its directory.
use Rattle.std.proofs.Common.{ℕ, ◌≡◌, Bool, true, false, cond, List, [], ◌∷◌, ◌++◌, Option, Some, None, String, refl, sym, ap, ◌∙◌, inl, inr}
use Rattle.std.specs.Option.{option_map, option_and_then}
use Rattle.std.specs.List.{AllByRecursion}
use Rattle.std.specs.Map.{lookup, keys_of}
use Rattle.std.specs.Borrow.{Bor}
use Rattle.std.specs.BTreeMap.{BTreeMap, get_by_text, is_at}
use Rattle.std.specs.Str.{bytes_eq}
use Rattle.std.specs.String.{string_bytes, string_cmp}
use Rattle.std.specs.Ordering.{eq_by_cmp}
use Rattle.std.proofs.lemmas.Bool.{cases_Bool, cond-false, both_ways, false_from_ne_true}
use Rattle.std.proofs.lemmas.Map.Keys.{IsDistinct-from_sorted, IsDistinct-head, sorted_tail}
use Rattle.std.proofs.lemmas.Map.Text.{text_cmp, is_eq-slice_cmp}
use Rattle.hg_base.proofs.Within.{same_bytes, equal_bytes}
use Rattle.hg_nodes.specs.Node.{NodeData, node_at}
use Rattle.hg_nodes.specs.Lists.{data_of, dir_text, rows_in, rows_of, IsListOf, AreListed}
use Rattle.hg_nodes.specs.declared.node.Node.{Node}

-- the first, where it is there, else the second
abbrev or_else : Option NodeData → Option NodeData → Option NodeData
or_else None second = second
or_else (Some first) second = Some first

at_step : (b : Bool) (x : NodeData) (xs ys : Option NodeData) → cond b (Some x) (or_else xs ys) ≡ or_else (cond b (Some x) xs) ys
at_step true x xs ys = refl
at_step false x xs ys = refl

at_append : (xs ys : List (List ℕ × NodeData)) (at : List ℕ) → node_at (xs ++ ys) at ≡ or_else (node_at xs at) (node_at ys at)
at_append [] ys at = refl
at_append (x ∷ xs) ys at =
    ap (cond (bytes_eq at x.0) (Some x.1)) (at_append xs ys at) ∙ at_step (bytes_eq at x.0) x.1 (node_at xs at) (node_at ys at)

in_step : (b : Bool) (node : Node) (found : Option Node) → cond b (Some (data_of node)) (option_map data_of found) ≡ option_map data_of (cond b (Some node) found)
in_step true node found = refl
in_step false node found = refl

or_none : (o : Option NodeData) → or_else o None ≡ o
or_none None = refl
or_none (Some x) = refl

pub map_now : (o : Option (Bor Node)) → option_map (λ n. data_of n.now) o ≡ option_map data_of (option_map (λ n. n.now) o)
map_now None = refl
map_now (Some n) = refl

module _ {Y : Type 0} where
  -- a row of one list
  pub row_in : (nodes : List (String Y × Node)) (at : List ℕ) → node_at (rows_in nodes) at ≡ option_map data_of (lookup (is_at (text_cmp at)) nodes)
  row_in [] at = refl
  row_in (e ∷ nodes) at =
      ap (λ (b : Bool). cond b (Some (data_of e.1)) (node_at (rows_in nodes) at)) (sym (is_eq-slice_cmp at (string_bytes e.0)))
      ∙ ap (cond (is_at (text_cmp at) e.0) (Some (data_of e.1))) (row_in nodes at)
      ∙ in_step (is_at (text_cmp at) e.0) e.1 (lookup (is_at (text_cmp at)) nodes)

  -- no row of a list is of a path in another directory
  not_in : (dir : List ℕ) (nodes : List (String Y × Node)) (at : List ℕ) → IsListOf dir (keys_of nodes) → bytes_eq (dir_text at) dir ≡ false → node_at (rows_in nodes) at ≡ None
  not_in dir [] at placed other = refl
  not_in dir (e ∷ nodes) at placed other =
      cond-false (bytes_eq at (string_bytes e.0)) (Some (data_of e.1)) (node_at (rows_in nodes) at)
      (false_from_ne_true (bytes_eq at (string_bytes e.0)) (λ same.
      both_ways (bytes_eq (dir_text at) dir) other
      (ap (λ (p : List ℕ). bytes_eq (dir_text p) dir) (same_bytes at (string_bytes e.0) same) ∙ ap (λ (d : List ℕ). bytes_eq d dir) placed.0 ∙ equal_bytes dir)))
      ∙ not_in dir nodes at placed.1 other

  none_of : (lists : List (String Y × BTreeMap (String Y) Node)) (at : List ℕ)
      → AllByRecursion (λ list. IsListOf (string_bytes list.0) (keys_of list.1.entries)) lists
      → AllByRecursion (λ key. bytes_eq (dir_text at) (string_bytes key) ≡ false) (keys_of lists)
      → node_at (rows_of lists) at ≡ None
  none_of [] at placed others = refl
  none_of (list ∷ lists) at placed others =
      at_append (rows_in list.1.entries) (rows_of lists) at
      ∙ ap (λ (o : Option NodeData). or_else o (node_at (rows_of lists) at)) (not_in (string_bytes list.0) list.1.entries at placed.0 others.0)
      ∙ none_of lists at placed.1 others.1

  pub apart_keys : (dir : List ℕ) (key : String Y) (keys : List (String Y)) → bytes_eq dir (string_bytes key) ≡ true
      → AllByRecursion (λ other. eq_by_cmp string_cmp key other ≡ false) keys
      → AllByRecursion (λ other. bytes_eq dir (string_bytes other) ≡ false) keys
  apart_keys dir key [] same others = tt
  apart_keys dir key (next ∷ keys) same others = (
    ap (λ (d : List ℕ). bytes_eq d (string_bytes next)) (same_bytes dir (string_bytes key) same) ∙ sym (is_eq-slice_cmp (string_bytes key) (string_bytes next)) ∙ others.0,
    apart_keys dir key keys same others.1,
  )

  -- the row of a path is that of the node in the list of its directory
  pub row_of : (lists : List (String Y × BTreeMap (String Y) Node)) → AreListed lists → (at : List ℕ)
      → node_at (rows_of lists) at ≡ option_map data_of (option_and_then (λ list. get_by_text list at) (lookup (is_at (text_cmp (dir_text at))) lists))
  row_of [] fit at = refl
  row_of (list ∷ lists) fit at = elim (cases_Bool (bytes_eq (dir_text at) (string_bytes list.0))) [
    | inl same ↦
        let found : is_at (text_cmp (dir_text at)) list.0 ≡ true = is_eq-slice_cmp (dir_text at) (string_bytes list.0) ∙ same in
        at_append (rows_in list.1.entries) (rows_of lists) at
        ∙ ap (or_else (node_at (rows_in list.1.entries) at))
        (none_of lists at fit.placed.1
        (apart_keys (dir_text at) list.0 (keys_of lists) same
        (IsDistinct-head (eq_by_cmp string_cmp) list.0 (keys_of lists) (IsDistinct-from_sorted string_cmp (list.0 ∷ keys_of lists) fit.ordered))))
        ∙ or_none (node_at (rows_in list.1.entries) at)
        ∙ row_in list.1.entries at
        ∙ sym (ap (λ (b : Bool). option_map data_of (option_and_then (λ l. get_by_text l at) (cond b (Some list.1) (lookup (is_at (text_cmp (dir_text at))) lists)))) found)
    | inr other ↦
        let missed : is_at (text_cmp (dir_text at)) list.0 ≡ false = is_eq-slice_cmp (dir_text at) (string_bytes list.0) ∙ other in
        at_append (rows_in list.1.entries) (rows_of lists) at
        ∙ ap (λ (o : Option NodeData). or_else o (node_at (rows_of lists) at)) (not_in (string_bytes list.0) list.1.entries at fit.placed.0 other)
        ∙ row_of lists (record { ordered = sorted_tail string_cmp list.0 (keys_of lists) fit.ordered; placed = fit.placed.1 }) at
        ∙ sym (ap (λ (b : Bool). option_map data_of (option_and_then (λ l. get_by_text l at) (cond b (Some list.1) (lookup (is_at (text_cmp (dir_text at))) lists)))) missed)
  ]
