-- A table has one tree.
use Rattle.std.proofs.Common.{◌≡◌, ℕ, ◌+◌, Bool, true, false, MatchBool, ◌||◌, ◌&&◌, cond, ◌⊎◌, inl, inr, List, [], ◌∷◌, ◌++◌, map, Option, Some, None, refl, sym, ap, subst, ◌∙◌, arith, nat_cmp, Less, true≢false}
use Rattle.std.specs.List.{AllByRecursion, list_any, sum_by}
use Rattle.std.specs.List.Sorted.{IsStrictlySortedBy}
use Rattle.std.specs.Str.{bytes_eq}
use Rattle.std.specs.Ordering.{is_lt}
use Rattle.std.specs.Cmp.Lexicographic.{slice_cmp, nat_list_cmp_total}
use Rattle.std.proofs.lemmas.Bool.{both_ways}
use Rattle.std.proofs.lemmas.List.Sums.{sum_by-append, sum_by-cons}
use Rattle.std.proofs.lemmas.Map.Keys.{sorted_head, sorted_tail}
use Rattle.hg_base.specs.PathText.{parent_of}
use Rattle.hg_base.proofs.Within.{equal_bytes, same_bytes}
use Rattle.hg_entry.specs.Entry.{has_entry}
use Rattle.hg_image.specs.Rows.{Row, rows_of}
use Rattle.hg_image.proofs.Apart.{not_after_itself}
use Rattle.hg_mixed.specs.Children.{AreChildren, IsChild}
use Rattle.hg_nodes.specs.Children.{ChildData}
use Rattle.hg_mixed.specs.Held.{Held, is_lent, source_at, table, text_at}
use Rattle.hg_append.specs.declared.kept.Kept.{Kept}
use Rattle.hg_append.specs.Keeps.{Keeps, keeps_nothing}
use Rattle.hg_append.specs.Tree.{AreBelowIn, AreKids, IsTreeIn, IsTreeOf, Nothing, Node, Tree, heads, kept_of, nodes}
use Rattle.hg_append.specs.Layout.{node_size, size_of}
use Rattle.hg_append.specs.Lost.{is_at, lost, lost_of, named_length, reached}

abbrev Paths : List ChildData → List (List ℕ)
Paths xs = map (λ child. child.path) xs

-- whether a node has children is decided
same_kids : (held : Held) (path : List ℕ) (a b : Bool)
    → MatchBool a ((kid : List ℕ) × ((table held).nodes kid ≡ true) × (parent_of kid ≡ Some path)) ((kid : List ℕ) → parent_of kid ≡ Some path → (table held).nodes kid ≡ false)
    → MatchBool b ((kid : List ℕ) × ((table held).nodes kid ≡ true) × (parent_of kid ≡ Some path)) ((kid : List ℕ) → parent_of kid ≡ Some path → (table held).nodes kid ≡ false)
    → a ≡ b
same_kids held path true true p q = refl
same_kids held path false false p q = refl
same_kids held path true false p q = absurd (both_ways ((table held).nodes p.0) (q p.0 p.2) p.1)
same_kids held path false true p q = absurd (both_ways ((table held).nodes q.0) (p q.0 q.2) q.1)

-- a child is what the table says of its path
one_child : (held : Held) (dir : Option (List ℕ)) (a b : ChildData) → IsChild held dir a → IsChild held dir b → a.path ≡ b.path → a ≡ b
one_child held dir a b p q same =
    let kids : a.has_kids ≡ b.has_kids = same_kids held b.path a.has_kids b.has_kids (subst (λ (at : List ℕ). MatchBool a.has_kids ((kid : List ℕ) × ((table held).nodes kid ≡ true) × (parent_of kid ≡ Some at)) ((kid : List ℕ) → parent_of kid ≡ Some at → (table held).nodes kid ≡ false)) same p.kids) q.kids in
    let entry : a.entry ≡ b.entry = p.entry ∙ ap (table held).entries same ∙ sym q.entry in
    let source : a.source ≡ b.source = p.source ∙ ap (table held).sources same ∙ sym q.source in
    let cache : a.cache ≡ b.cache = p.cache ∙ ap (table held).caches same ∙ sym q.cache in
    let text : a.text_at ≡ b.text_at = p.text ∙ ap (text_at held) same ∙ sym q.text in
    let source_text : a.source_at ≡ b.source_at = p.source_text ∙ ap (source_at held) same ∙ sym q.source_text in
    λ i. record { path = same i; entry = entry i; source = source i; cache = cache i; has_kids = kids i; text_at = text i; source_at = source_text i }

-- a path among later ones is greater
later_less : (path at : List ℕ) (xs : List ChildData) → AllByRecursion (λ y. slice_cmp nat_cmp path y ≡ Less) (Paths xs) → list_any (λ child. bytes_eq at child.path) xs ≡ true → slice_cmp nat_cmp path at ≡ Less
later_less path at [] less among = absurd (cc)
later_less path at (x ∷ xs) less among = step (bytes_eq at x.path) refl among (later_less path at xs less.1)
  where
    step : (t : Bool) → bytes_eq at x.path ≡ t → (t || list_any (λ child. bytes_eq at child.path) xs) ≡ true → (list_any (λ child. bytes_eq at child.path) xs ≡ true → slice_cmp nat_cmp path at ≡ Less) → slice_cmp nat_cmp path at ≡ Less
    step true is h more = ap (slice_cmp nat_cmp path) (same_bytes at x.path is) ∙ less.0
    step false is h more = more h

not_less_itself : (path : List ℕ) → slice_cmp nat_cmp path path ≡ Less → ⊥
not_less_itself path h = not_after_itself path (ap is_lt h)

-- the same paths are among two lists
abbrev SamePaths : List ChildData → List ChildData → Type 0
SamePaths xs ys = (at : List ℕ) → list_any (λ child. bytes_eq at child.path) xs ≡ true → list_any (λ child. bytes_eq at child.path) ys ≡ true

first_or : (at : List ℕ) (y : ChildData) (ys : List ChildData) → list_any (λ child. bytes_eq at child.path) (y ∷ ys) ≡ true → (at ≡ y.path) ⊎ (list_any (λ child. bytes_eq at child.path) ys ≡ true)
first_or at y ys h = step (bytes_eq at y.path) refl h
  where
    step : (t : Bool) → bytes_eq at y.path ≡ t → (t || list_any (λ child. bytes_eq at child.path) ys) ≡ true → (at ≡ y.path) ⊎ (list_any (λ child. bytes_eq at child.path) ys ≡ true)
    step true is h = inl (same_bytes at y.path is)
    step false is h = inr h

among_first : (x : ChildData) (xs : List ChildData) → list_any (λ child. bytes_eq x.path child.path) (x ∷ xs) ≡ true
among_first x xs = ap (λ (t : Bool). t || list_any (λ child. bytes_eq x.path child.path) xs) (equal_bytes x.path)

among_later : (at : List ℕ) (x : ChildData) (xs : List ChildData) → list_any (λ child. bytes_eq at child.path) xs ≡ true → list_any (λ child. bytes_eq at child.path) (x ∷ xs) ≡ true
among_later at x xs h = step (bytes_eq at x.path)
  where
    step : (t : Bool) → (t || list_any (λ child. bytes_eq at child.path) xs) ≡ true
    step true = refl
    step false = h

-- what is left of two lists behind the same first path
same_rest : (x y : ChildData) (xs ys : List ChildData) → x.path ≡ y.path → IsStrictlySortedBy (slice_cmp nat_cmp) (Paths (x ∷ xs)) → SamePaths (x ∷ xs) (y ∷ ys) → SamePaths xs ys
same_rest x y xs ys same sorted to at among = elim (first_or at y ys (to at (among_later at x xs among))) [
  | inl e ↦
      let less : slice_cmp nat_cmp x.path at ≡ Less = later_less x.path at xs (sorted_head (slice_cmp nat_cmp) x.path (Paths xs) sorted) among in
      absurd (not_less_itself at (ap (λ (p : List ℕ). slice_cmp nat_cmp p at) (e ∙ sym same) ∙ less))
  | inr h ↦ h
]

one_list : (held : Held) (dir : Option (List ℕ)) (xs ys : List ChildData) → AllByRecursion (IsChild held dir) xs → AllByRecursion (IsChild held dir) ys
    → IsStrictlySortedBy (slice_cmp nat_cmp) (Paths xs) → IsStrictlySortedBy (slice_cmp nat_cmp) (Paths ys) → SamePaths xs ys → SamePaths ys xs → xs ≡ ys
one_list held dir [] [] p q s t to back = refl
one_list held dir [] (y ∷ ys) p q s t to back = absurd (true≢false (sym (back y.path (among_first y ys))))
one_list held dir (x ∷ xs) [] p q s t to back = absurd (true≢false (sym (to x.path (among_first x xs))))
one_list held dir (x ∷ xs) (y ∷ ys) p q s t to back =
    let same : x.path ≡ y.path = first_same in
    let rest : xs ≡ ys = one_list held dir xs ys p.1 q.1 (sorted_tail (slice_cmp nat_cmp) x.path (Paths xs) s) (sorted_tail (slice_cmp nat_cmp) y.path (Paths ys) t)
    (same_rest x y xs ys same s to) (same_rest y x ys xs (sym same) t back) in
    ap (λ (c : ChildData). c ∷ xs) (one_child held dir x y p.0 q.0 same) ∙ ap (λ (l : List ChildData). y ∷ l) rest
  where
    first_same : x.path ≡ y.path
    first_same = elim (first_or x.path y ys (to x.path (among_first x xs))) [
      | inl e ↦ e
      | inr h ↦ elim (first_or y.path x xs (back y.path (among_first y ys))) [
        | inl e ↦ sym e
        | inr g ↦
            let up : slice_cmp nat_cmp y.path x.path ≡ Less = later_less y.path x.path ys (sorted_head (slice_cmp nat_cmp) y.path (Paths ys) t) h in
            let down : slice_cmp nat_cmp x.path y.path ≡ Less = later_less x.path y.path xs (sorted_head (slice_cmp nat_cmp) x.path (Paths xs) s) g in
            absurd (not_less_itself x.path (nat_list_cmp_total.trans x.path y.path x.path down up))
      ]
    ]

each_node : (held : Held) (dir : Option (List ℕ)) (xs : List ChildData) (at : List ℕ) → AllByRecursion (IsChild held dir) xs → list_any (λ child. bytes_eq at child.path) xs ≡ true
    → ((table held).nodes at ≡ true) × (parent_of at ≡ dir)
each_node held dir [] at all among = absurd (cc)
each_node held dir (x ∷ xs) at all among = elim (first_or at x xs among) [
  | inl e ↦ (ap (table held).nodes e ∙ all.0.node, ap parent_of e ∙ all.0.parent)
  | inr h ↦ each_node held dir xs at all.1 h
]

same_lists : (held : Held) (dir : Option (List ℕ)) (xs ys : List ChildData) → AreChildren held dir xs → AreChildren held dir ys → xs ≡ ys
same_lists held dir xs ys a b =
    one_list held dir xs ys a.each b.each a.ascending b.ascending
    (λ at among. let n = each_node held dir xs at a.each among in b.all at n.0 n.1)
    (λ at among. let n = each_node held dir ys at b.each among in a.all at n.0 n.1)

heads_first : (c d : ChildData) (xs ys : List ChildData) → c ∷ xs ≡ d ∷ ys → (c ≡ d) × (xs ≡ ys)
heads_first c d xs ys h = (cc, cc)

same_kid_lists : (held : Held) (list : Option Kept) (path : List ℕ) (xs ys : List ChildData) → AreKids held list path xs → AreKids held list path ys → xs ≡ ys
same_kid_lists held None path xs ys p q = same_lists held (Some path) xs ys p q
same_kid_lists held (Some list) path xs ys p q = p ∙ sym q

same_trees : (held : Held) (keeps : Keeps) (a b : Tree) → heads a ≡ heads b → AreBelowIn held keeps a → AreBelowIn held keeps b → a ≡ b
same_trees held keeps Nothing Nothing h p q = refl
same_trees held keeps Nothing (Node d u r) h p q = absurd (cc)
same_trees held keeps (Node c u r) Nothing h p q = absurd (cc)
same_trees held keeps (Node c u r) (Node d v s) h p q =
    let first = heads_first c d (heads r) (heads s) h in
    let lists : heads u ≡ heads v = same_kid_lists held (kept_of keeps d) d.path (heads u) (heads v) (subst (λ (x : ChildData). AreKids held (kept_of keeps x) x.path (heads u)) first.0 p.0) q.0 in
    let under : u ≡ v = same_trees held keeps u v lists p.1.0 q.1.0 in
    let behind : r ≡ s = same_trees held keeps r s first.1 p.1.1 q.1.1 in
    λ i. Node (first.0 i) (under i) (behind i)

pub one_tree_in : (held : Held) (keeps : Keeps) (dir : Option (List ℕ)) (a b : Tree) → IsTreeIn held keeps dir a → IsTreeIn held keeps dir b → a ≡ b
one_tree_in held keeps dir a b p q = same_trees held keeps a b (same_lists held dir (heads a) (heads b) p.children q.children) p.below q.below

pub one_tree : (held : Held) (dir : Option (List ℕ)) (a b : Tree) → IsTreeOf held dir a → IsTreeOf held dir b → a ≡ b
one_tree held dir a b p q = one_tree_in held keeps_nothing dir a b p q

pub plain_size : (tree : Tree) → size_of tree ≡ sum_by node_size (nodes tree)
plain_size Nothing = refl
plain_size (Node child below behind) =
    let one : sum_by node_size (child ∷ (nodes below ++ nodes behind)) ≡ node_size child + sum_by node_size (nodes below ++ nodes behind) = sum_by-cons node_size child (nodes below ++ nodes behind) in
    let two : sum_by node_size (nodes below ++ nodes behind) ≡ sum_by node_size (nodes below) + sum_by node_size (nodes behind) = sum_by-append node_size (nodes below) (nodes behind) in
    let a : size_of below ≡ sum_by node_size (nodes below) = plain_size below in
    let b : size_of behind ≡ sum_by node_size (nodes behind) = plain_size behind in
    omega (arith, one, two, a, b)

-- a row of an image of which nothing is lent
lost_all : (held : Held) → ((dir : Option (List ℕ)) → is_lent held dir ≡ false) → ((at : List ℕ) → text_at held at ≡ None) → ((at : List ℕ) → source_at held at ≡ None) → (row : Row) → lost_of held row ≡ reached row
lost_all held none texts sources row =
    ap (λ (t : Bool). cond t 0 (44 + cond (is_at (text_at held row.path) row.rec.path_start) 0 row.rec.path_len + cond (has_entry row.rec.flags && is_at (source_at held row.path) row.rec.copy_start) 0 (named_length row))) (none (parent_of row.path))
    ∙ ap (λ (o : Option ℕ). 44 + cond (is_at o row.rec.path_start) 0 row.rec.path_len + cond (has_entry row.rec.flags && is_at (source_at held row.path) row.rec.copy_start) 0 (named_length row)) (texts row.path)
    ∙ ap (λ (o : Option ℕ). 44 + row.rec.path_len + cond (has_entry row.rec.flags && is_at o row.rec.copy_start) 0 (named_length row)) (sources row.path)
    ∙ ap (λ (t : Bool). 44 + row.rec.path_len + cond t 0 (named_length row)) (and_false (has_entry row.rec.flags))
  where
    and_false : (t : Bool) → (t && false) ≡ false
    and_false true = refl
    and_false false = refl

pub all_lost : (held : Held) → ((dir : Option (List ℕ)) → is_lent held dir ≡ false) → ((at : List ℕ) → text_at held at ≡ None) → ((at : List ℕ) → source_at held at ≡ None)
    → lost held ≡ held.docket.unreachable + sum_by reached (rows_of held.docket held.bytes)
all_lost held none texts sources = ap (λ (f : Row → ℕ). held.docket.unreachable + sum_by f (rows_of held.docket held.bytes)) (λ i row. lost_all held none texts sources row i)
