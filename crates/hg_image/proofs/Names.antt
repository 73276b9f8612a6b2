-- The names of a list rise, so that one of them is found by halves.
use Rattle.std.proofs.Common.{◌≡◌, ℕ, zero, suc, ◌+◌, ◌*◌, ◌<◌, ◌≤◌, List, Option, Some, None, ◌⊎◌, inl, inr, refl, sym, ap, ◌∙◌, arith, Less, Equal, Greater, nat_cmp}
use Rattle.std.specs.Ordering.{is_lt, is_eq, ordering_reverse}
use Rattle.std.proofs.lemmas.Bool.{cases_order}
use Rattle.std.proofs.lemmas.Map.Text.{is_eq-slice_cmp}
use Rattle.std.proofs.lemmas.Slice.Eq.{bytes_eq-Decides}
use Rattle.std.specs.Cmp.Lexicographic.{slice_cmp, nat_list_cmp_total}
use Rattle.hg_node.specs.declared.record.Rec.{Rec}
use Rattle.hg_image.specs.Node.{record_at, name_of, is_after}
use Rattle.hg_image.specs.Walk.{list_fault}
use Rattle.hg_image.proofs.Sound.{before_at, list_at}
use Rattle.hg_image.proofs.Apart.{less_is, not_after_itself}

-- the name of a node of a list
abbrev pub name_in : List ℕ → ℕ → ℕ → List ℕ
name_in bytes start i = name_of bytes (record_at bytes (start + 44 * i))

before_is : (bytes : List ℕ) (before : Option (List ℕ)) (start i : ℕ) → before_at bytes before start (suc i) ≡ Some (name_in bytes start i)
unfolding before_at
before_is bytes before start i = refl

below_next : (i j : ℕ) → i < suc j → (i < j) ⊎ (i ≡ j)
below_next i j h = elim (cases_order i j) [
  | inl e ↦ inr e
  | inr (inl l) ↦ inl l
  | inr (inr g) ↦ absurd (omega arith)
]

module _ (depth : ℕ) (bytes : List ℕ) (dir : Option (List ℕ)) (start count : ℕ) (sound : list_fault depth bytes dir start count ≡ None) where
  next_rises : (i : ℕ) → suc i < count → slice_cmp nat_cmp (name_in bytes start i) (name_in bytes start (suc i)) ≡ Less
  next_rises i inside =
      let member = list_at depth bytes dir start count (suc i) inside sound in
      less_is _ (ap (λ (b : Option (List ℕ)). is_after b (name_in bytes start (suc i))) (sym (before_is bytes None start i)) ∙ member.node.order)

  pub names_rise : (i j : ℕ) → i < j → j < count → slice_cmp nat_cmp (name_in bytes start i) (name_in bytes start j) ≡ Less
  names_rise i zero less inside = absurd (omega arith)
  names_rise i (suc j) less inside =
      elim (below_next i j less) [
        | inl l ↦ nat_list_cmp_total.trans _ (name_in bytes start j) _ (names_rise i j l (omega arith)) (next_rises j inside)
        | inr e ↦ ap (λ (k : ℕ). slice_cmp nat_cmp (name_in bytes start k) (name_in bytes start (suc j))) e ∙ next_rises j inside
      ]

  -- what is before a lesser name is lesser
  pub lesser : (name : List ℕ) (i j : ℕ) → i < j + 1 → j < count → slice_cmp nat_cmp (name_in bytes start j) name ≡ Less → slice_cmp nat_cmp (name_in bytes start i) name ≡ Less
  lesser name i j upto inside less =
      elim (cases_order i j) [
        | inl e ↦ ap (λ (k : ℕ). slice_cmp nat_cmp (name_in bytes start k) name) e ∙ less
        | inr (inl l) ↦ nat_list_cmp_total.trans _ (name_in bytes start j) _ (names_rise i j l inside) less
        | inr (inr g) ↦ absurd (omega arith)
      ]

  -- and what is behind a greater name is greater
  pub greater : (name : List ℕ) (i j : ℕ) → j ≤ i → i < count → slice_cmp nat_cmp (name_in bytes start j) name ≡ Greater → slice_cmp nat_cmp (name_in bytes start i) name ≡ Greater
  greater name i j from inside more =
      elim (cases_order j i) [
        | inl e ↦ ap (λ (k : ℕ). slice_cmp nat_cmp (name_in bytes start k) name) (sym e) ∙ more
        | inr (inl l) ↦
            let back : slice_cmp nat_cmp name (name_in bytes start j) ≡ Less = nat_list_cmp_total.antisymm name (name_in bytes start j) ∙ ap ordering_reverse more in
            nat_list_cmp_total.antisymm (name_in bytes start i) name
            ∙ ap ordering_reverse (nat_list_cmp_total.trans _ (name_in bytes start j) _ back (names_rise j i l inside))
        | inr (inr g) ↦ absurd (omega arith)
      ]

-- two texts that differ by their order differ
pub same_equal : (a b : List ℕ) → slice_cmp nat_cmp a b ≡ Equal → a ≡ b
same_equal a b e = (bytes_eq-Decides a b).0 (sym (is_eq-slice_cmp a b) ∙ ap is_eq e)

pub less_differs : (a b : List ℕ) → slice_cmp nat_cmp a b ≡ Less → a ≡ b → ⊥
less_differs a b less e = not_after_itself b (ap is_lt (ap (λ (x : List ℕ). slice_cmp nat_cmp x b) (sym e) ∙ less))

pub greater_differs : (a b : List ℕ) → slice_cmp nat_cmp a b ≡ Greater → a ≡ b → ⊥
greater_differs a b more e =
    less_differs b a (nat_list_cmp_total.antisymm b a ∙ ap ordering_reverse more) (sym e)

-- the name of a node that was read
pub name_read : (bytes other : List ℕ) (rec : Rec) (start i : ℕ) (name : List ℕ) → other ≡ bytes → rec ≡ record_at bytes (start + 44 * i) → name ≡ name_of other rec → name ≡ name_in bytes start i
name_read bytes other rec start i name same is named = named ∙ ap (λ (b : List ℕ). name_of b rec) same ∙ ap (name_of bytes) is
