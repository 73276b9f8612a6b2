-- What a walk over all nodes gathers, directory by directory.
use Rattle.std.proofs.Common.{ℕ, ◌≡◌, ◌<◌, ◌≤◌, Bool, true, false, not, ◌&&◌, ◌||◌, ◌⊎◌, inl, inr, List, [], ◌∷◌, ◌++◌, map, length, Option, Some, None, refl, sym, ap, ◌∙◌, subst, true≢false, nat_cmp, arith}
use Rattle.std.specs.Prelude.{MatchBool}
use Rattle.std.specs.List.{AllByRecursion, IsDistinct, list_any}
use Rattle.std.specs.List.Sorted.{IsPermutation}
use Rattle.std.specs.Str.{bytes_eq}
use Rattle.std.specs.Cmp.Lexicographic.{slice_cmp}
use Rattle.std.specs.declared.cmp.Ordering.TheVariants.{Less}
use Rattle.std.proofs.lemmas.Bool.{and_parts, and_from, or_left, or_right, not-true, false_from_ne_true, both_ways}
use Rattle.std.proofs.lemmas.Cmp.{nat_list_cmp_total, tied_itself}
use Rattle.std.proofs.lemmas.List.{append_assoc, append-nil}
use Rattle.std.proofs.lemmas.List.Elements.{All-from_recursion, recursion_from_All}
use Rattle.std.proofs.lemmas.List.Folds.{list_any-append}
use Rattle.std.proofs.lemmas.List.Sorted.{All-permutation, IsPermutation-map, list_any-IsPermutation}
use Rattle.std.proofs.lemmas.Map.Keys.{sorted_head, sorted_tail}
use Rattle.hg_base.specs.PathText.{is_below, is_path, joined, parent_of}
use Rattle.hg_base.specs.Within.{is_above, is_within}
use Rattle.hg_base.proofs.Below.{below_compared, below_length, below_trans}
use Rattle.hg_base.proofs.Children.{below_parent, below_through, parent_length, path_through}
use Rattle.hg_base.proofs.Components.{parent_joined}
use Rattle.hg_base.proofs.Paths.{path_parts, path_some}
use Rattle.hg_base.proofs.Within.{above_is, above_none, equal_bytes, same_bytes, within_below, within_itself, within_split}
use Rattle.hg_mixed.specs.Child.{shown_child}
use Rattle.hg_mixed.specs.Children.{AreChildren, IsChild}
use Rattle.hg_nodes.specs.Children.{ChildData}
use Rattle.hg_nodes.specs.Edits.{IsFormed}
use Rattle.hg_mixed.specs.Held.{Held, table}
use Rattle.hg_nodes.specs.Lists.{or_root}
use Rattle.hg_mixed.specs.declared.child.Child.{Child}
use Rattle.hg_mixed.specs.declared.line.Line.{Line}
use Rattle.hg_mixed.specs.Gathered.{AreGathered, AreLeft, Gathers, Shows, is_done, is_left, line_of, path_of, paths_of}
use Rattle.hg_mixed.proofs.Ordered.{distinct_moved}

-- ---- lists

all_append : {X : Type 0} (P : X → Type 0) (xs ys : List X) → AllByRecursion P xs → AllByRecursion P ys → AllByRecursion P (xs ++ ys)
all_append P [] ys all more = more
all_append P (x ∷ xs) ys all more = (all.0, all_append P xs ys all.1 more)

none_of : (x : List ℕ) (ys : List (List ℕ)) → (list_any (bytes_eq x) ys ≡ true → ⊥) → AllByRecursion (λ y. bytes_eq x y ≡ false) ys
none_of x [] h = tt
none_of x (y ∷ ys) h = (
  false_from_ne_true (bytes_eq x y) (λ is. h (or_left (bytes_eq x y) (list_any (bytes_eq x) ys) is)),
  none_of x ys (λ is. h (or_right (bytes_eq x y) (list_any (bytes_eq x) ys) is)),
)

distinct_append : (xs ys : List (List ℕ)) → IsDistinct bytes_eq xs → IsDistinct bytes_eq ys → ((p : List ℕ) → list_any (bytes_eq p) xs ≡ true → list_any (bytes_eq p) ys ≡ true → ⊥)
    → IsDistinct bytes_eq (xs ++ ys)
unfolding IsDistinct
distinct_append [] ys own more apart = more
distinct_append (x ∷ xs) ys own more apart = (
  all_append (λ y. bytes_eq x y ≡ false) xs ys own.0 (none_of x ys (apart x (or_left (bytes_eq x x) (list_any (bytes_eq x) xs) (equal_bytes x)))),
  distinct_append xs ys own.1 more (λ p is. apart p (or_right (bytes_eq p x) (list_any (bytes_eq p) xs) is)),
)

paths_append : (a b : List Line) → paths_of (a ++ b) ≡ paths_of a ++ paths_of b
paths_append [] b = refl
paths_append (x ∷ a) b = ap (λ (l : List (List ℕ)). path_of x ∷ l) (paths_append a b)

or_cases : (a b : Bool) → (a || b) ≡ true → (a ≡ true) ⊎ (b ≡ true)
or_cases true b h = inl refl
or_cases false b h = inr h

module _ (held : Held) where
  abbrev IsNode : List ℕ → Type 0
  IsNode p = (table held).nodes p ≡ true

  abbrev Sound : (List ℕ → Bool) → Line → Type 0
  Sound test row = (test (path_of row) ≡ true) × ((table held).nodes (path_of row) ≡ true) × Shows held row

  weaker : (s t : List ℕ → Bool) → ((p : List ℕ) → IsNode p → s p ≡ true → t p ≡ true) → (rows : List Line) → AllByRecursion (Sound s) rows → AllByRecursion (Sound t) rows
  weaker s t goes [] all = tt
  weaker s t goes (row ∷ rows) all = ((goes (path_of row) all.0.1 all.0.0, all.0.1, all.0.2), weaker s t goes rows all.1)

  -- what is among the rows passes the test
  pub passes : (s : List ℕ → Bool) (rows : List Line) → AllByRecursion (Sound s) rows → (p : List ℕ) → list_any (bytes_eq p) (paths_of rows) ≡ true → s p ≡ true
  passes s [] all p is = absurd (true≢false (sym is))
  passes s (row ∷ rows) all p is = elim (or_cases (bytes_eq p (path_of row)) (list_any (bytes_eq p) (paths_of rows)) is) [
    | inl here ↦ ap s (same_bytes p (path_of row) here) ∙ all.0.0
    | inr later ↦ passes s rows all.1 p later
  ]

  pub gathered_none : (s : List ℕ → Bool) → ((p : List ℕ) → s p ≡ true → IsNode p → ⊥) → AreGathered held s []
  unfolding IsDistinct
  gathered_none s none = record { own = tt; each = tt; all = λ p is there. absurd (none p is there) }

  -- rows of a path each, and others, where no path passes both tests
  pub gathered_both : (s t u : List ℕ → Bool) (a b : List Line) → AreGathered held s a → AreGathered held t b
      → ((p : List ℕ) → s p ≡ true → t p ≡ true → ⊥)
      → ((p : List ℕ) → IsNode p → s p ≡ true → u p ≡ true)
      → ((p : List ℕ) → IsNode p → t p ≡ true → u p ≡ true)
      → ((p : List ℕ) → IsNode p → u p ≡ true → (s p ≡ true) ⊎ (t p ≡ true))
      → AreGathered held u (a ++ b)
  gathered_both s t u a b first second apart s_u t_u u_st = record {
    own =
        subst (IsDistinct bytes_eq) (sym (paths_append a b))
        (distinct_append (paths_of a) (paths_of b) first.own second.own (λ p in_a in_b. apart p (passes s a first.each p in_a) (passes t b second.each p in_b)));
    each = all_append (Sound u) a b (weaker s u s_u a first.each) (weaker t u t_u b second.each);
    all = λ p is there.
        ap (list_any (bytes_eq p)) (paths_append a b) ∙ list_any-append (bytes_eq p) (paths_of a) (paths_of b)
        ∙ elim (u_st p there is) [
          | inl in_s ↦ or_left (list_any (bytes_eq p) (paths_of a)) (list_any (bytes_eq p) (paths_of b)) (first.all p in_s there)
          | inr in_t ↦ or_right (list_any (bytes_eq p) (paths_of a)) (list_any (bytes_eq p) (paths_of b)) (second.all p in_t there)
        ];
  }

  pub gathered_same : (s t : List ℕ → Bool) (rows : List Line) → ((p : List ℕ) → IsNode p → s p ≡ true → t p ≡ true) → ((p : List ℕ) → IsNode p → t p ≡ true → s p ≡ true)
      → AreGathered held s rows → AreGathered held t rows
  gathered_same s t rows there back are = record {
    own = are.own;
    each = weaker s t there rows are.each;
    all = λ p is node. are.all p (back p node is) node;
  }

  -- ---- one child

  abbrev own_test : Line → List ℕ → Bool
  own_test child p = bytes_eq p (path_of child)

  pub gathered_own : (child : Line) → Shows held child → IsNode (path_of child) → AreGathered held (own_test child) (child ∷ [])
  unfolding IsDistinct
  gathered_own child shows node = record {
    own = (tt, tt);
    each = ((equal_bytes (path_of child), node, shows), tt);
    all = λ p here there. or_left (bytes_eq p (path_of child)) false here;
  }

  pub shows_child : (dir : Option (List ℕ)) (child : Child) → IsChild held dir (shown_child child) → Shows held (line_of child)
  shows_child dir child is = record { entry = is.entry; source = is.source; cache = is.cache }

  -- ---- what stands below

  module _ (formed : IsFormed (table held)) where
    -- what stands below a directory is at a node right in it, or below one
    pub at_kid : (dir : Option (List ℕ)) (p : List ℕ) → is_above dir p ≡ true → (table held).nodes p ≡ true
        → (kid : List ℕ) × (parent_of kid ≡ dir) × ((table held).nodes kid ≡ true) × (is_within kid p ≡ true)
    at_kid None p above node =
        let through = path_through p in (
          through.0,
          parent_joined None through.0 through.1,
          elim through.2 [ inl e ↦ sym (ap (table held).nodes e) ∙ node | inr below ↦ formed.rooted through.0 p below node ],
          elim through.2 [ inl e ↦ ap (is_within through.0) e ∙ within_itself through.0 | inr below ↦ within_below through.0 p below ],
        )
    at_kid (Some dir) p above node =
        let through = below_through dir p above in
        let kid : List ℕ = joined (Some dir) through.0 in (
          kid,
          parent_joined (Some dir) through.0 through.1,
          elim through.2 [ inl e ↦ sym (ap (table held).nodes e) ∙ node | inr below ↦ formed.rooted kid p below node ],
          elim through.2 [ inl e ↦ ap (is_within kid) e ∙ within_itself kid | inr below ↦ within_below kid p below ],
        )

    -- no node stands below a path without children
    pub below_none : (child : Child) → IsChild held (parent_of child.path.text.now) (shown_child child) → child.has_kids ≡ false → AreGathered held (is_below child.path.text.now) []
    below_none child is none = gathered_none (is_below child.path.text.now) (λ p below there.
        let kid = at_kid (Some child.path.text.now) p below there in
        let never : (k : List ℕ) → parent_of k ≡ Some child.path.text.now → (table held).nodes k ≡ false =
        subst (λ (b : Bool). MatchBool b ((k : List ℕ) × ((table held).nodes k ≡ true) × (parent_of k ≡ Some child.path.text.now)) ((k : List ℕ) → parent_of k ≡ Some child.path.text.now → (table held).nodes k ≡ false)) none is.kids in
        both_ways ((table held).nodes kid.0) (never kid.0 kid.1) kid.2)

    -- two nodes of one directory are one where something is at or below both
    one_within : (a b p : List ℕ) → is_path a ≡ true → is_path b ≡ true → parent_of a ≡ parent_of b → is_within a p ≡ true → is_within b p ≡ true → a ≡ b
    one_within a b p good_a good_b same in_a in_b = elim (within_split a p in_a) [
      | inl at_a ↦ elim (within_split b p in_b) [
        | inl at_b ↦ sym at_a ∙ at_b
        | inr below_b ↦ absurd (apart b a good_a good_b (sym same) (ap (is_below b) (sym at_a) ∙ below_b))
      ]
      | inr below_a ↦ elim (within_split b p in_b) [
        | inl at_b ↦ absurd (apart a b good_b good_a same (ap (is_below a) (sym at_b) ∙ below_a))
        | inr below_b ↦ elim (below_compared a b p below_a below_b) [
          | inl e ↦ e
          | inr one ↦ elim one [
            | inl a_b ↦ absurd (apart a b good_b good_a same a_b)
            | inr b_a ↦ absurd (apart b a good_a good_b (sym same) b_a)
          ]
        ]
      ]
    ]
      where
        -- no node of a directory stands below another of it
        apart_by : (o : Option (List ℕ)) (x y : List ℕ) → is_path y ≡ true → parent_of x ≡ o → parent_of y ≡ o → is_below x y ≡ true → ⊥
        apart_by None x y good px py below = true≢false (sym below ∙ above_none y good py x)
        apart_by (Some d) x y good px py below =
            let shorter : length d < length x = parent_length d x px in
            elim (within_split x d (sym (above_is d y good py x) ∙ below)) [
              | inl e ↦ let same_length : length d ≡ length x = ap length e in absurd (omega (arith, shorter, same_length))
              | inr up ↦ let longer : length x < length d = below_length x d up in absurd (omega (arith, shorter, longer))
            ]

        apart : (x y : List ℕ) → is_path y ≡ true → is_path x ≡ true → parent_of x ≡ parent_of y → is_below x y ≡ true → ⊥
        apart x y good other e below = apart_by (parent_of x) x y good refl (sym e) below

    module _ (dir : Option (List ℕ)) where
      good_child : (child : ChildData) → IsChild held dir child → is_path child.path ≡ true
      good_child child is = formed.paths child.path is.node

      -- no child of the rest is or stands above what is at a child before them, or below it
      rest_apart : (child : ChildData) (rest : List ChildData) (p : List ℕ) → IsChild held dir child → AllByRecursion (IsChild held dir) rest
          → AllByRecursion (λ y. slice_cmp nat_cmp child.path y ≡ Less) (map (λ c. c.path) rest) → is_within child.path p ≡ true → is_left rest p ≡ true → ⊥
      rest_apart child [] p is each less within left = true≢false (sym left)
      rest_apart child (x ∷ rest) p is each less within left = elim (or_cases (is_within x.path p) (is_left rest p) left) [
        | inl here ↦
            let same : child.path ≡ x.path = one_within child.path x.path p (good_child child is) (good_child x each.0) (is.parent ∙ sym each.0.parent) within here in
            let itself : slice_cmp nat_cmp child.path child.path ≡ Less = ap (slice_cmp nat_cmp child.path) same ∙ less.0 in
            absurd (cc (itself, tied_itself nat_list_cmp_total child.path))
        | inr later ↦ rest_apart child rest p is each.1 less.1 within later
      ]

      -- what is at a child or below it stands below the directory
      pub above_child : (child : ChildData) (p : List ℕ) → IsChild held dir child → is_within child.path p ≡ true → is_above dir p ≡ true
      above_child child p is within = above_by dir is.parent
        where
          above_by : (d : Option (List ℕ)) → parent_of child.path ≡ d → is_above d p ≡ true
          above_by None e = refl
          above_by (Some d) e = elim (within_split child.path p within) [
            | inl same ↦ ap (is_below d) same ∙ below_parent d child.path e
            | inr below ↦ below_trans d child.path p (below_parent d child.path e) below
          ]

      pub any_left : (kid p : List ℕ) (children : List ChildData) → is_within kid p ≡ true → list_any (λ child. bytes_eq kid child.path) children ≡ true → is_left children p ≡ true
      any_left kid p [] within any = absurd (true≢false (sym any))
      any_left kid p (child ∷ children) within any = elim (or_cases (bytes_eq kid child.path) (list_any (λ c. bytes_eq kid c.path) children) any) [
        | inl same ↦ or_left (is_within child.path p) (is_left children p) (ap (λ (q : List ℕ). is_within q p) (sym (same_bytes kid child.path same)) ∙ within)
        | inr later ↦ or_right (is_within child.path p) (is_left children p) (any_left kid p children within later)
      ]

      -- all children are left
      pub left_first : (children : List ChildData) (rows : List Line) → AreChildren held dir children → AreLeft held dir children rows rows
      left_first children rows are = record {
        sorted = are.ascending;
        each = are.each;
        gathered = (
          [],
          sym (append-nil rows),
          gathered_none (is_done dir children) (λ p done there.
              let parts = and_parts (is_above dir p) (not (is_left children p)) done in
              let kid = at_kid dir p parts.0 there in
              both_ways (is_left children p) (not-true (is_left children p) parts.1) (any_left kid.0 p children kid.3 (are.all kid.0 kid.2 kid.1))),
        );
      }

      -- none is left
      pub left_done : (left : List ChildData) (old new : List Line) → left ≡ [] → AreLeft held dir left old new → Gathers held (is_above dir) old new
      left_done left old new none are =
          let g = are.gathered in (
            g.0,
            g.1,
            gathered_same (is_done dir left) (is_above dir) g.0
                (λ p there done. (and_parts (is_above dir p) (not (is_left left p)) done).0)
                (λ p there above. and_from (is_above dir p) (not (is_left left p)) above (ap (λ (l : List ChildData). not (is_left l p)) none))
                g.2,
          )

      module _ (child : Child) (left rest : List ChildData) (split : left ≡ shown_child child ∷ rest) (old now : List Line) (are : AreLeft held dir left old now) where
        here : AreLeft held dir (shown_child child ∷ rest) old now
        here = subst (λ (l : List ChildData). AreLeft held dir l old now) split are

        pub child_is : IsChild held (parent_of child.path.text.now) (shown_child child)
        child_is = subst (λ (d : Option (List ℕ)). IsChild held d (shown_child child)) (sym here.each.0.parent) here.each.0

        pub child_short : length child.path.text.now ≤ 65535
        child_short = (path_parts child.path.text.now (good_child (shown_child child) here.each.0)).short

        pub child_longer : length (or_root dir) < length child.path.text.now
        child_longer = longer dir here.each.0.parent
          where
            longer : (d : Option (List ℕ)) → parent_of child.path.text.now ≡ d → length (or_root d) < length child.path.text.now
            longer None e = path_some child.path.text.now (good_child (shown_child child) here.each.0)
            longer (Some d) e = parent_length d child.path.text.now e

        -- one child more
        pub left_more : (own new : List Line) → own ≡ now ++ line_of child ∷ [] → Gathers held (is_below child.path.text.now) own new → AreLeft held dir rest old new
        left_more own new is below =
            let c : ChildData = shown_child child in
            let g = here.gathered in
            let mine : List Line = line_of child ∷ [] in
            let up : AllByRecursion (λ y. slice_cmp nat_cmp c.path y ≡ Less) (map (λ x. x.path) rest) = sorted_head (slice_cmp nat_cmp) c.path (map (λ x. x.path) rest) here.sorted in
            let within : AreGathered held (is_within c.path) (mine ++ below.0) =
            gathered_both (own_test (line_of child)) (is_below c.path) (is_within c.path) mine below.0 (gathered_own (line_of child) (shows_child dir child here.each.0) here.each.0.node) below.2
            (λ p at under. let same = same_bytes p c.path at in both_ways (is_below c.path c.path) (below_itself_not c.path) (sym (ap (is_below c.path) same) ∙ under))
            (λ p there at. or_left (bytes_eq p c.path) (is_below c.path p) at)
            (λ p there under. or_right (bytes_eq p c.path) (is_below c.path p) under)
            (λ p there at. or_cases (bytes_eq p c.path) (is_below c.path p) at) in
            record {
              sorted = sorted_tail (slice_cmp nat_cmp) c.path (map (λ x. x.path) rest) here.sorted;
              each = here.each.1;
              gathered = (
                g.0 ++ (mine ++ below.0),
                below.1 ∙ ap (λ (l : List Line). l ++ below.0) (is ∙ ap (λ (l : List Line). l ++ mine) g.1)
                    ∙ append_assoc (old ++ g.0) mine below.0 ∙ append_assoc old g.0 (mine ++ below.0),
                gathered_both (is_done dir (c ∷ rest)) (is_within c.path) (is_done dir rest) g.0 (mine ++ below.0) g.2 within
                    (λ p done at. both_ways (is_within c.path p || is_left rest p) (not-true (is_within c.path p || is_left rest p) (and_parts (is_above dir p) (not (is_left (c ∷ rest) p)) done).1) (or_left (is_within c.path p) (is_left rest p) at))
                    (λ p there done.
                    let parts = and_parts (is_above dir p) (not (is_left (c ∷ rest) p)) done in
                    and_from (is_above dir p) (not (is_left rest p)) parts.0 (rest_not (is_within c.path p) (is_left rest p) parts.1))
                    (λ p there at.
                    and_from (is_above dir p) (not (is_left rest p)) (above_child c p here.each.0 at)
                    (ap not (false_from_ne_true (is_left rest p) (rest_apart c rest p here.each.0 here.each.1 up at))))
                    (λ p there done.
                    let parts = and_parts (is_above dir p) (not (is_left rest p)) done in
                    done_or (is_above dir p) (is_within c.path p) (is_left rest p) parts.0 parts.1),
              );
            }
          where
            below_itself_not : (path : List ℕ) → is_below path path ≡ false
            below_itself_not path = false_from_ne_true (is_below path path) (λ h. let shorter : length path < length path = below_length path path h in absurd (omega (arith, shorter)))

            rest_not : (a b : Bool) → not (a || b) ≡ true → not b ≡ true
            rest_not true b h = absurd (true≢false (sym h))
            rest_not false b h = h

            done_or : (a w l : Bool) → a ≡ true → not l ≡ true → ((a && not (w || l)) ≡ true) ⊎ (w ≡ true)
            done_or a true l above out = inr refl
            done_or a false l above out = inl (and_from a (not l) above out)

-- ---- in order

module _ (held : Held) where
  pub gathered_moved : (test : List ℕ → Bool) (a b : List Line) → IsPermutation a b → AreGathered held test a → AreGathered held test b
  gathered_moved test a b moved are =
      let paths : IsPermutation (paths_of a) (paths_of b) = IsPermutation-map path_of a b moved in
      let Sound : Line → Type 0 = λ row. (test (path_of row) ≡ true) × ((table held).nodes (path_of row) ≡ true) × Shows held row in
      record {
        own = distinct_moved (paths_of a) (paths_of b) paths are.own;
        each = recursion_from_All Sound b (All-permutation Sound a b moved (All-from_recursion Sound a are.each));
        all = λ p is there. sym (list_any-IsPermutation (bytes_eq p) (paths_of a) (paths_of b) paths) ∙ are.all p is there;
      }

  pub gathered_all : (test : List ℕ → Bool) (none old new : List Line) → none ≡ [] → Gathers held test none new → IsPermutation new old → AreGathered held test old
  gathered_all test none old new empty g moved =
      let whole : new ≡ g.0 = g.1 ∙ ap (λ (l : List Line). l ++ g.0) empty in
      gathered_moved test new old moved (subst (AreGathered held test) (sym whole) g.2)
