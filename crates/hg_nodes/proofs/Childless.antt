-- The mark of nodes that have both an entry and children.
use Rattle.std.proofs.Common.{ℕ, ◌≡◌, ◌<◌, inl, inr, Bool, true, false, true≢false, ◌&&◌, ◌||◌, List, length, Option, Some, None, sym, ap, ◌∙◌, arith}
use Rattle.std.specs.Prelude.{is_some}
use Rattle.std.specs.Str.{bytes_eq}
use Rattle.std.proofs.lemmas.Bool.{cases_Bool, cond-false, cond-true, false_from_ne_true, or_parts}
use Rattle.hg_base.specs.PathText.{is_path, parent_of}
use Rattle.hg_base.proofs.Children.{parent_length}
use Rattle.hg_base.proofs.Paths.{path_some}
use Rattle.hg_base.proofs.Within.{same_bytes}
use Rattle.hg_nodes.specs.Kids.{AreChildless, IsMarked, has_entry_in, is_below_entry}
use Rattle.hg_nodes.specs.Lists.{dir_text, has_rows_in}
use Rattle.hg_nodes.specs.Node.{AreSame, IsPut, NodeData, entry_in, node_at}
use Rattle.hg_nodes.proofs.LeftBefore.{beside_in}
use Rattle.hg_nodes.proofs.Listed.{rows_none, rows_some}

-- a directory in which a node stands has nodes
pub has_from : (rows : List (List ℕ × NodeData)) (dir at : List ℕ) → dir_text at ≡ dir → is_some (node_at rows at) ≡ true → has_rows_in rows dir ≡ true
has_from rows dir at here some = elim (cases_Bool (has_rows_in rows dir)) [
  | inl has ↦ has
  | inr none ↦ absurd (true≢false (sym some ∙ ap is_some (rows_none rows dir at none here)))
]

-- a node was put or taken out, and where it stands in a directory with an entry, nodes stood there already
pub childless_put : (rows new : List (List ℕ × NodeData)) (path : List ℕ) (node : Option NodeData) → IsPut path node rows new → AreChildless rows
    → (is_some (entry_in node) ≡ true → has_rows_in rows path ≡ false)
    → ((at : List ℕ) → is_path at ≡ true → dir_text path ≡ at → is_some node ≡ true → is_some (entry_in (node_at new at)) ≡ true → has_rows_in rows at ≡ true)
    → AreChildless new
childless_put rows new path node put childless own above at good entry = false_from_ne_true (has_rows_in new at) (λ has.
    let kid = rows_some new at has in
    let had : has_rows_in rows at ≡ true = elim (cases_Bool (bytes_eq path kid.0)) [
      | inl same ↦
          let there : is_some node ≡ true = ap is_some (sym (put kid.0 ∙ cond-true (bytes_eq path kid.0) node (node_at rows kid.0) same)) ∙ kid.2 in
          above at good (ap dir_text (same_bytes path kid.0 same) ∙ kid.1) there entry
      | inr other ↦ has_from rows at kid.0 kid.1 (ap is_some (sym (put kid.0 ∙ cond-false (bytes_eq path kid.0) node (node_at rows kid.0) other)) ∙ kid.2)
    ] in
    elim (cases_Bool (bytes_eq path at)) [
      | inl same ↦
          let mine : is_some (entry_in node) ≡ true = ap (λ (n : Option NodeData). is_some (entry_in n)) (sym (put at ∙ cond-true (bytes_eq path at) node (node_at rows at) same)) ∙ entry in
          true≢false (sym had ∙ ap (has_rows_in rows) (sym (same_bytes path at same)) ∙ own mine)
      | inr other ↦
          let was : is_some (entry_in (node_at rows at)) ≡ true = ap (λ (n : Option NodeData). is_some (entry_in n)) (sym (put at ∙ cond-false (bytes_eq path at) node (node_at rows at) other)) ∙ entry in
          true≢false (sym had ∙ childless at good was)
    ])

not_both : (a b : Bool) → (a && b) ≡ false → a ≡ true → b ≡ false
not_both true b h e = h
not_both false b h e = absurd (true≢false (sym e))

module _ (rows new : List (List ℕ × NodeData)) (path : List ℕ) (node : NodeData) (put : IsPut path (Some node) rows new) (stacked : Bool) (marked : IsMarked stacked rows) where
  -- another node where one stood
  pub marked_replaced : is_some (node_at rows path) ≡ true → (stacks : Bool) → stacks ≡ (is_some node.entry && has_rows_in rows path) → IsMarked (stacked || stacks) new
  marked_replaced there stacks is clear =
      let parts = or_parts stacked stacks clear in
      childless_put rows new path (Some node) put (marked parts.0) (not_both (is_some node.entry) (has_rows_in rows path) (sym is ∙ parts.1))
      (λ at good here _ _. has_from rows at path here there)

  -- a node where perhaps none stood
  pub marked_put : is_path path ≡ true → (stacks : Bool) → stacks ≡ ((is_some node.entry && has_rows_in rows path) || is_below_entry rows path) → IsMarked (stacked || stacks) new
  marked_put good stacks is clear =
      let parts = or_parts stacked stacks clear in
      let both = or_parts (is_some node.entry && has_rows_in rows path) (is_below_entry rows path) (sym is ∙ parts.1) in
      childless_put rows new path (Some node) put (marked parts.0) (not_both (is_some node.entry) (has_rows_in rows path) both.0)
      (λ at at_good here _ entry.
      let above : parent_of path ≡ Some at = beside_in at (parent_of path) (path_some at at_good) here in
      let apart : bytes_eq path at ≡ false = false_from_ne_true (bytes_eq path at) (λ same. longer at (parent_length at path above) (same_bytes path at same)) in
      let was : is_some (entry_in (node_at rows at)) ≡ true = ap (λ (n : Option NodeData). is_some (entry_in n)) (sym (put at ∙ cond-false (bytes_eq path at) (Some node) (node_at rows at) apart)) ∙ entry in
      absurd (true≢false (sym was ∙ sym (ap (has_entry_in rows) above) ∙ both.1)))
    where
      longer : (at : List ℕ) → length at < length path → path ≡ at → ⊥
      longer at less same = let e : length path ≡ length at = ap length same in absurd (omega (arith, less, e))

-- one node less
pub marked_removed : (rows new : List (List ℕ × NodeData)) (path : List ℕ) (stacked : Bool) → IsPut path None rows new → IsMarked stacked rows → IsMarked stacked new
marked_removed rows new path stacked put marked clear =
    childless_put rows new path None put (marked clear) (λ h. absurd (true≢false (sym h))) (λ at good here some entry. absurd (true≢false (sym some)))

-- the same nodes
pub marked_same : (rows new : List (List ℕ × NodeData)) (stacked : Bool) → AreSame rows new → IsMarked stacked rows → IsMarked stacked new
marked_same rows new stacked same marked clear at good entry = false_from_ne_true (has_rows_in new at) (λ has.
    let kid = rows_some new at has in
    true≢false (sym (has_from rows at kid.0 kid.1 (ap is_some (sym (same kid.0)) ∙ kid.2))
    ∙ marked clear at good (ap (λ (n : Option NodeData). is_some (entry_in n)) (sym (same at)) ∙ entry)))
