-- Full listings of the same are equal: each has the rows of the other, and both ascend.
use Rattle.std.proofs.Common.{ℕ, ◌≡◌, List, [], ◌∷◌, refl, sym, ◌∙◌, subst, inl, inr, ◌⊎◌, ⊎_elim, arith}
use Rattle.std.specs.List.{AllByRecursion, Contains}
use Rattle.std.specs.List.Sorted.{IsStrictlySortedBy}
use Rattle.std.specs.Cmp.{IsTotalOrder, nat_cmp_total, on_total, tied_itself, then_total}
use Rattle.std.specs.Cmp.Lexicographic.{nat_list_cmp_total}
use Rattle.std.specs.declared.cmp.Ordering.TheVariants.{Less}
use Rattle.std.proofs.lemmas.List.Elements.{Contains-append_cases, Contains-append_left, Contains-append_right, Contains-push, Contains-push_cases}
use Rattle.hg_listing.specs.Full.{OneListing}
use Rattle.hg_listing.specs.Order.{group_of, row_order}
use Rattle.hg_listing.specs.declared.row.Row.{Row}

row_order_total : IsTotalOrder row_order
row_order_total = then_total (on_total (λ (row : Row). group_of row.letter) nat_cmp_total) (on_total (λ (row : Row). row.path) nat_list_cmp_total)

pub never_itself : (row : Row) → row_order row row ≡ Less → ⊥
never_itself row less = absurd (cc (less, tied_itself row_order_total row))

never_both : (a b : Row) → row_order a b ≡ Less → row_order b a ≡ Less → ⊥
never_both a b there back = never_itself a (row_order_total.trans a b a there back)

-- ---- the first row and the others

none : (row : Row) → Contains [] row → ⊥
none row has = let inside = has.1 in absurd (omega arith)

first : (row : Row) (rows : List Row) → Contains (row ∷ rows) row
first row rows = Contains-append_left (row ∷ []) rows row (Contains-push [] row)

single : (row other : Row) → Contains (row ∷ []) other → row ≡ other
single row other has = ⊎_elim (λ nowhere. absurd (none other nowhere)) (λ is. is) (Contains-push_cases [] row other has)

pub first_or_later : (row : Row) (rows : List Row) (other : Row) → Contains (row ∷ rows) other → (row ≡ other) ⊎ Contains rows other
first_or_later row rows other has = ⊎_elim (λ at. inl (single row other at)) (λ later. inr later) (Contains-append_cases (row ∷ []) rows other has)

less_than : (a : Row) (rows : List Row) (b : Row) → AllByRecursion (λ row. row_order a row ≡ Less) rows → Contains rows b → row_order a b ≡ Less
less_than a [] b less has = absurd (none b has)
less_than a (row ∷ rows) b less has =
    ⊎_elim (λ (is : row ≡ b). subst (λ (r : Row). row_order a r ≡ Less) is less.0) (λ later. less_than a rows b less.1 later) (first_or_later row rows b has)

-- ---- two lists that ascend and have the same rows

heads : (a b : Row) (xs ys : List Row) → AllByRecursion (λ row. row_order a row ≡ Less) xs → AllByRecursion (λ row. row_order b row ≡ Less) ys → Contains (b ∷ ys) a → Contains (a ∷ xs) b → a ≡ b
heads a b xs ys above_a above_b has_a has_b =
    ⊎_elim (λ (is : b ≡ a). sym is)
    (λ (a_later : Contains ys a). ⊎_elim (λ (is : a ≡ b). is)
    (λ (b_later : Contains xs b). absurd (never_both a b (less_than a xs b above_a b_later) (less_than b ys a above_b a_later)))
    (first_or_later a xs b has_b))
    (first_or_later b ys a has_a)

later_too : (a b : Row) (xs ys : List Row) → a ≡ b → AllByRecursion (λ row. row_order a row ≡ Less) xs → ((row : Row) → Contains (a ∷ xs) row → Contains (b ∷ ys) row) → (row : Row) → Contains xs row → Contains ys row
later_too a b xs ys is above goes row has =
    ⊎_elim
    (λ (at : b ≡ row). absurd (never_itself a (subst (λ (r : Row). row_order a r ≡ Less) (sym (is ∙ at)) (less_than a xs row above has))))
    (λ later. later)
    (first_or_later b ys row (goes row (Contains-append_right (a ∷ []) xs row has)))

one_list : (xs ys : List Row) → IsStrictlySortedBy row_order xs → IsStrictlySortedBy row_order ys → ((row : Row) → Contains xs row → Contains ys row) → ((row : Row) → Contains ys row → Contains xs row) → xs ≡ ys
unfolding IsStrictlySortedBy
one_list [] [] up_x up_y there back = refl
one_list [] (b ∷ ys) up_x up_y there back = absurd (none b (back b (first b ys)))
one_list (a ∷ xs) [] up_x up_y there back = absurd (none a (there a (first a xs)))
one_list (a ∷ xs) (b ∷ ys) up_x up_y there back =
    let head : a ≡ b = heads a b xs ys up_x.0 up_y.0 (there a (first a xs)) (back b (first b ys)) in
    let rest : xs ≡ ys = one_list xs ys up_x.1 up_y.1 (later_too a b xs ys head up_x.0 there) (later_too b a ys xs (sym head) up_y.0 back) in
    λ i. head i ∷ rest i

pub alone : (Ignored : List ℕ → Type 0) → OneListing Ignored
alone Ignored flat moment rows wanted a b is_a is_b =
    one_list a b is_a.ascending is_b.ascending (λ row has. is_b.all row (is_a.sound row has)) (λ row has. is_a.all row (is_b.sound row has))
