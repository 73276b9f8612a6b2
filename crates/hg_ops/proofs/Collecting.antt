-- What a walk over all nodes collects, directory by directory.
use Rattle.std.proofs.Common.{ℕ, ◌≡◌, ◌<◌, ◌≤◌, Bool, true, false, ◌||◌, ◌⊎◌, inl, inr, List, [], ◌∷◌, ◌++◌, length, Option, Some, None, option_map, refl, sym, ap, ◌∙◌, subst, true≢false}
use Rattle.std.specs.Prelude.{is_some, MatchBool}
use Rattle.std.specs.List.{list_any}
use Rattle.std.specs.Str.{bytes_eq}
use Rattle.std.proofs.lemmas.Bool.{cases_Bool, or_left, or_right, both_ways}
use Rattle.std.proofs.lemmas.List.Folds.{list_any-append}
use Rattle.hg_base.specs.PathText.{is_below, joined, parent_of}
use Rattle.hg_base.specs.Within.{is_above, is_within}
use Rattle.hg_base.proofs.Children.{below_through, parent_length, path_through}
use Rattle.hg_base.proofs.Components.{parent_joined}
use Rattle.hg_base.proofs.Paths.{path_parts, path_some}
use Rattle.hg_base.proofs.Within.{equal_bytes, same_bytes, within_below, within_itself}
use Rattle.hg_entry.specs.Entry.{view}
use Rattle.hg_mixed.specs.Child.{shown_child}
use Rattle.hg_mixed.specs.Children.{AreChildren, IsChild}
use Rattle.hg_nodes.specs.Children.{ChildData}
use Rattle.hg_nodes.specs.Edits.{IsFormed}
use Rattle.hg_mixed.specs.Held.{Held, table}
use Rattle.hg_nodes.specs.Lists.{or_root}
use Rattle.hg_mixed.specs.declared.child.Child.{Child}
use Rattle.hg_ops.specs.Collected.{AreLeft, Collects, CollectsAt, is_left, path_of}
use Rattle.hg_ops.specs.Setting.{is_among}

pub or_cases : (a b : Bool) → (a || b) ≡ true → (a ≡ true) ⊎ (b ≡ true)
or_cases true b h = inl refl
or_cases false b h = inr h

-- ---- one path more

pub among_more : (at path : List ℕ) (old : List (List ℕ)) → is_among old at ≡ true → is_among (old ++ path ∷ []) at ≡ true
among_more at path old is = list_any-append (bytes_eq at) old (path ∷ []) ∙ or_left (is_among old at) (is_among (path ∷ []) at) is

pub among_last : (path : List ℕ) (old : List (List ℕ)) → is_among (old ++ path ∷ []) path ≡ true
among_last path old =
    list_any-append (bytes_eq path) old (path ∷ []) ∙ or_right (is_among old path) (is_among (path ∷ []) path) (or_left (bytes_eq path path) false (equal_bytes path))

pub own_more : (child : Child) (old new : List (List ℕ)) → new ≡ old ++ path_of child ∷ [] → CollectsAt child old new
own_more child old new is = record {
  kept = λ at h. subst (λ (l : List (List ℕ)). is_among l at ≡ true) (sym is) (among_more at (path_of child) old h);
  own = λ some. subst (λ (l : List (List ℕ)). is_among l (path_of child) ≡ true) (sym is) (among_last (path_of child) old);
}

some_map : {X Y : Type 0} (f : X → Y) (o : Option X) → is_some (option_map f o) ≡ is_some o
some_map f None = refl
some_map f (Some x) = refl

module _ (held : Held) (formed : IsFormed (table held)) where
  entry_node : (at : List ℕ) → is_some ((table held).entries at) ≡ true → (table held).nodes at ≡ true
  entry_node at some = elim (cases_Bool ((table held).nodes at)) [
    | inl node ↦ node
    | inr none ↦ absurd (true≢false (sym some ∙ ap is_some (formed.entries at none)))
  ]

  -- what stands below a directory is at a node right in it, or below one
  at_kid : (dir : Option (List ℕ)) (p : List ℕ) → is_above dir p ≡ true → (table held).nodes p ≡ true
      → (kid : List ℕ) × (parent_of kid ≡ dir) × ((table held).nodes kid ≡ true) × (is_within kid p ≡ true)
  at_kid None p above node =
      let through = path_through p in (
        through.0,
        parent_joined None through.0 through.1,
        elim through.2 [ inl e ↦ sym (ap (table held).nodes e) ∙ node | inr below ↦ formed.rooted through.0 p below node ],
        elim through.2 [ inl e ↦ ap (is_within through.0) e ∙ within_itself through.0 | inr below ↦ within_below through.0 p below ],
      )
  at_kid (Some dir) p above node =
      let through = below_through dir p above in
      let kid : List ℕ = joined (Some dir) through.0 in (
        kid,
        parent_joined (Some dir) through.0 through.1,
        elim through.2 [ inl e ↦ sym (ap (table held).nodes e) ∙ node | inr below ↦ formed.rooted kid p below node ],
        elim through.2 [ inl e ↦ ap (is_within kid) e ∙ within_itself kid | inr below ↦ within_below kid p below ],
      )

  -- nothing stands below a path without children
  pub below_none : (child : Child) (paths : List (List ℕ)) → IsChild held (parent_of (path_of child)) (shown_child child) → child.has_kids ≡ false
      → Collects held (is_below (path_of child)) paths paths
  below_none child paths is none = record {
    kept = λ at h. h;
    all = λ p below some.
        let kid = at_kid (Some (path_of child)) p below (entry_node p some) in
        let never : (k : List ℕ) → parent_of k ≡ Some (path_of child) → (table held).nodes k ≡ false =
        subst (λ (b : Bool). MatchBool b ((k : List ℕ) × ((table held).nodes k ≡ true) × (parent_of k ≡ Some (path_of child))) ((k : List ℕ) → parent_of k ≡ Some (path_of child) → (table held).nodes k ≡ false)) none is.kids in
        absurd (both_ways ((table held).nodes kid.0) (never kid.0 kid.1) kid.2);
  }

  any_left : (kid p : List ℕ) (children : List ChildData) → is_within kid p ≡ true → list_any (λ child. bytes_eq kid child.path) children ≡ true → is_left children p ≡ true
  any_left kid p [] within any = absurd (true≢false (sym any))
  any_left kid p (child ∷ children) within any = elim (or_cases (bytes_eq kid child.path) (list_any (λ c. bytes_eq kid c.path) children) any) [
    | inl same ↦ or_left (is_within child.path p) (is_left children p) (ap (λ (q : List ℕ). is_within q p) (sym (same_bytes kid child.path same)) ∙ within)
    | inr later ↦ or_right (is_within child.path p) (is_left children p) (any_left kid p children within later)
  ]

  module _ (dir : Option (List ℕ)) where
    pub left_first : (children : List ChildData) (paths : List (List ℕ)) → AreChildren held dir children → AreLeft held dir children paths paths
    left_first children paths are = record {
      each = are.each;
      kept = λ at h. h;
      all = λ p above some.
          let kid = at_kid dir p above (entry_node p some) in
          inl (any_left kid.0 p children kid.3 (are.all kid.0 kid.2 kid.1));
    }

    pub left_done : (left : List ChildData) (old new : List (List ℕ)) → left ≡ [] → AreLeft held dir left old new → Collects held (is_above dir) old new
    left_done left old new none are = record {
      kept = are.kept;
      all = λ p above some. elim (are.all p above some) [
        | inl here ↦ absurd (true≢false (sym here ∙ ap (λ (l : List ChildData). is_left l p) none))
        | inr done ↦ done
      ];
    }

    module _ (child : Child) (left rest : List ChildData) (split : left ≡ shown_child child ∷ rest) (old now : List (List ℕ)) (are : AreLeft held dir left old now) where
      here : AreLeft held dir (shown_child child ∷ rest) old now
      here = subst (λ (l : List ChildData). AreLeft held dir l old now) split are

      pub child_is : IsChild held (parent_of (path_of child)) (shown_child child)
      child_is = subst (λ (d : Option (List ℕ)). IsChild held d (shown_child child)) (sym here.each.0.parent) here.each.0

      pub child_short : length (path_of child) ≤ 65535
      child_short = (path_parts (path_of child) (formed.paths (path_of child) here.each.0.node)).short

      pub child_longer : length (or_root dir) < length (path_of child)
      child_longer = longer dir here.each.0.parent
        where
          longer : (d : Option (List ℕ)) → parent_of (path_of child) ≡ d → length (or_root d) < length (path_of child)
          longer None e = path_some (path_of child) (formed.paths (path_of child) here.each.0.node)
          longer (Some d) e = parent_length d (path_of child) e

      -- one child more
      pub left_more : (own new : List (List ℕ)) → CollectsAt child now own → Collects held (is_below (path_of child)) own new → AreLeft held dir rest old new
      left_more own new mine below = record {
        each = here.each.1;
        kept = λ at h. below.kept at (mine.kept at (are.kept at h));
        all = λ p above some. elim (here.all p above some) [
          | inr done ↦ inr (below.kept p (mine.kept p done))
          | inl left ↦ elim (or_cases (is_within (path_of child) p) (is_left rest p) left) [
            | inr later ↦ inl later
            | inl within ↦ elim (or_cases (bytes_eq p (path_of child)) (is_below (path_of child) p) within) [
              | inl same ↦
                  let at : p ≡ path_of child = same_bytes p (path_of child) same in
                  let has : is_some child.entry ≡ true = sym (some_map view child.entry) ∙ ap is_some here.each.0.entry ∙ sym (ap (λ (q : List ℕ). is_some ((table held).entries q)) at) ∙ some in
                  inr (below.kept p (ap (is_among own) at ∙ mine.own has))
              | inr under ↦ inr (below.all p under some)
            ]
          ]
        ];
      }
