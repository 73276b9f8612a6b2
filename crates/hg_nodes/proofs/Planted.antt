-- A node is put at a path, and nodes at the directories above it, from the path upwards.
use Rattle.std.proofs.Common.{ℕ, ◌≡◌, Bool, true, cond, ◌||◌, List, Option, Some, None, inl, inr, refl, sym, ◌∙◌, ap, true≢false}
use Rattle.std.specs.Prelude.{is_some}
use Rattle.std.specs.Str.{bytes_eq}
use Rattle.std.specs.Map.{update}
use Rattle.std.proofs.lemmas.Bool.{cases_Bool, cond-true, cond-false}
use Rattle.hg_base.specs.PathText.{is_below, is_path, parent_of}
use Rattle.hg_base.proofs.Below.{below_trans, below_not_back}
use Rattle.hg_base.proofs.Children.{below_parent}
use Rattle.hg_base.proofs.Within.{above_is, apart_above, apart_below, same_bytes, within_split}
use Rattle.hg_nodes.specs.Node.{AreRootedAbove, IsPut, NodeData, blank, node_at, or_blank, planted}

module _ (path dir : List ℕ) (good : is_path path ≡ true) (parent : parent_of path ≡ Some dir) where
  up : is_below dir path ≡ true
  up = below_parent dir path parent

  -- nodes stand above a path where one stands at its directory
  pub all_above : (nodes : List ℕ → Option NodeData) → AreRootedAbove path nodes → is_some (nodes dir) ≡ true
      → (at : List ℕ) → is_below at path ≡ true → is_some (nodes at) ≡ true
  all_above nodes rooted here at above = elim (within_split at dir (sym (above_is dir path good parent at) ∙ above)) [
    | inl e ↦ ap (λ (p : List ℕ). is_some (nodes p)) (sym e) ∙ here
    | inr below ↦ rooted at dir up below here
  ]

  module _ (node : NodeData) (was put : List ℕ → Option NodeData) (as_put : (at : List ℕ) → put at ≡ update bytes_eq was path (Some node) at) where
    put_other : (at : List ℕ) → is_below at path ≡ true → put at ≡ was at
    put_other at above = as_put at ∙ cond-false (bytes_eq path at) (Some node) (was at) (apart_above at path above)

    -- the nodes above the directory stay when the path is put
    pub rooted_above_parent : AreRootedAbove path was → AreRootedAbove dir put
    rooted_above_parent rooted above at at_above dir_above is =
        let at_path = below_trans at dir path at_above up in
        let dir_path = below_trans above at path dir_above at_path in
        ap is_some (put_other above dir_path) ∙ rooted above at at_path dir_above (sym (ap is_some (put_other at at_path)) ∙ is)

    -- so does that the directory is missing
    pub still_missing : was dir ≡ None → put dir ≡ None
    still_missing none = put_other dir up ∙ none

    -- what was planted above the path and the path are planted
    pub planted_up : was dir ≡ None → (done : List ℕ → Option NodeData) → ((at : List ℕ) → done at ≡ planted dir blank put at)
        → (at : List ℕ) → done at ≡ planted path node was at
    planted_up none done as_done at = elim (cases_Bool (bytes_eq path at)) [
      | inl here ↦
          let up_at : is_below dir at ≡ true = ap (is_below dir) (sym (same_bytes path at here)) ∙ up in
          as_done at
          ∙ cond-false (bytes_eq dir at) (Some blank) (cond (is_below at dir) (Some (or_blank (put at))) (put at)) (apart_below dir at up_at)
          ∙ cond-false (is_below at dir) (Some (or_blank (put at))) (put at) (below_not_back dir at up_at)
          ∙ as_put at
          ∙ cond-true (bytes_eq path at) (Some node) (was at) here
          ∙ sym (cond-true (bytes_eq path at) (Some node) (cond (is_below at path) (Some (or_blank (was at))) (was at)) here)
      | inr apart ↦
          let kept : put at ≡ was at = as_put at ∙ cond-false (bytes_eq path at) (Some node) (was at) apart in
          let right = cond-false (bytes_eq path at) (Some node) (cond (is_below at path) (Some (or_blank (was at))) (was at)) apart in
          elim (cases_Bool (bytes_eq dir at)) [
            | inl first ↦
                let same = same_bytes dir at first in
                let up_at : is_below at path ≡ true = ap (λ (p : List ℕ). is_below p path) (sym same) ∙ up in
                as_done at
                ∙ cond-true (bytes_eq dir at) (Some blank) (cond (is_below at dir) (Some (or_blank (put at))) (put at)) first
                ∙ ap (λ (o : Option NodeData). Some (or_blank o)) (sym (ap was (sym same) ∙ none))
                ∙ sym (cond-true (is_below at path) (Some (or_blank (was at))) (was at) up_at)
                ∙ sym right
            | inr other ↦
                let alike : is_below at path ≡ is_below at dir = above_is dir path good parent at ∙ ap (λ (t : Bool). t || is_below at dir) other in
                as_done at
                ∙ cond-false (bytes_eq dir at) (Some blank) (cond (is_below at dir) (Some (or_blank (put at))) (put at)) other
                ∙ ap (λ (o : Option NodeData). cond (is_below at dir) (Some (or_blank o)) o) kept
                ∙ sym (ap (λ (t : Bool). cond t (Some (or_blank (was at))) (was at)) alike)
                ∙ sym right
          ]
    ]

there : (o : Option NodeData) → is_some o ≡ true → o ≡ Some (or_blank o)
there None h = absurd (true≢false (sym h))
there (Some node) h = refl

-- where a node stands at each directory above, none is made
pub planted_alone : (path : List ℕ) (node : NodeData) (was put : List ℕ → Option NodeData) → ((at : List ℕ) → is_below at path ≡ true → is_some (was at) ≡ true)
    → ((at : List ℕ) → put at ≡ update bytes_eq was path (Some node) at) → (at : List ℕ) → put at ≡ planted path node was at
planted_alone path node was put above as_put at =
    as_put at ∙ ap (λ (o : Option NodeData). cond (bytes_eq path at) (Some node) o) (elim (cases_Bool (is_below at path)) [
      | inl up ↦ there (was at) (above at up) ∙ sym (cond-true (is_below at path) (Some (or_blank (was at))) (was at) up)
      | inr not_up ↦ sym (cond-false (is_below at path) (Some (or_blank (was at))) (was at) not_up)
    ])

-- what was put and taken out again is as it was
pub unplanted : (path : List ℕ) (node : NodeData) (was put failed back : List ℕ → Option NodeData) → was path ≡ None
    → ((at : List ℕ) → put at ≡ update bytes_eq was path (Some node) at) → ((at : List ℕ) → failed at ≡ put at)
    → ((at : List ℕ) → back at ≡ update bytes_eq failed path None at) → (at : List ℕ) → back at ≡ was at
unplanted path node was put failed back none as_put as_failed as_back at = elim (cases_Bool (bytes_eq path at)) [
  | inl here ↦
      as_back at ∙ cond-true (bytes_eq path at) None (failed at) here ∙ sym none ∙ ap was (same_bytes path at here)
  | inr apart ↦
      as_back at
      ∙ cond-false (bytes_eq path at) None (failed at) apart
      ∙ as_failed at
      ∙ as_put at
      ∙ cond-false (bytes_eq path at) (Some node) (was at) apart
]

-- the second of two nodes that are put at one path
pub put_twice : (path : List ℕ) (first second : Option NodeData) (was put done : List (List ℕ × NodeData)) → IsPut path first was put → IsPut path second put done → IsPut path second was done
put_twice path first second was put done as_put as_done at = elim (cases_Bool (bytes_eq path at)) [
  | inl here ↦ as_done at ∙ cond-true (bytes_eq path at) second (node_at put at) here ∙ sym (cond-true (bytes_eq path at) second (node_at was at) here)
  | inr apart ↦
      as_done at ∙ cond-false (bytes_eq path at) second (node_at put at) apart ∙ as_put at ∙ cond-false (bytes_eq path at) first (node_at was at) apart
      ∙ sym (cond-false (bytes_eq path at) second (node_at was at) apart)
]
