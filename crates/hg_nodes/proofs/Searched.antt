-- The least tracked path above a path, and below one.
use Rattle.std.proofs.Common.{ℕ, ◌≡◌, ◌<◌, ◌≤◌, Bool, true, false, not, ◌&&◌, ◌||◌, cond, ◌⊎◌, inl, inr, List, [], ◌∷◌, ◌++◌, length, Option, Some, None, refl, sym, ap, ◌∙◌, subst, true≢false, nat_cmp, arith}
use Rattle.std.specs.Prelude.{is_some}
use Rattle.std.specs.List.{AllByRecursion, list_any}
use Rattle.std.specs.Map.{keys_of}
use Rattle.std.specs.Str.{bytes_eq}
use Rattle.std.specs.Cmp.Lexicographic.{slice_cmp}
use Rattle.std.specs.Ordering.{is_gt, ordering_reverse}
use Rattle.std.specs.declared.cmp.Ordering.{Ordering}
use Rattle.std.specs.declared.cmp.Ordering.TheVariants.{Less, Equal, Greater}
use Rattle.std.proofs.lemmas.Bool.{cases_Bool, and_parts, and_from, and_right, or_left, or_right, or_from, not-true, false_from_ne_true, both_ways}
use Rattle.std.proofs.lemmas.Cmp.{nat_list_cmp_total, tied_itself, upto}
use Rattle.std.proofs.lemmas.List.{append-nil}
use Rattle.std.proofs.lemmas.Map.Keys.{sorted_head, sorted_tail}
use Rattle.hg_base.specs.PathText.{is_below, is_path, joined, parent_of}
use Rattle.hg_base.specs.Within.{is_within}
use Rattle.hg_base.proofs.Below.{below_split, below_trans, below_length}
use Rattle.hg_base.proofs.Children.{below_parent, below_through}
use Rattle.hg_base.proofs.Compared.{cmp_front}
use Rattle.hg_base.proofs.Components.{parent_joined}
use Rattle.hg_base.proofs.Paths.{path_parts, path_some}
use Rattle.hg_base.proofs.Within.{above_is, above_none, same_bytes, within_below, within_itself, within_split}
use Rattle.hg_nodes.specs.Clash.{IsLeast, clashes, is_tracked_entry}
use Rattle.hg_nodes.specs.Kids.{AreKids}
use Rattle.hg_nodes.specs.Lists.{dir_text, or_root}
use Rattle.hg_nodes.specs.Node.{AreRooted, NodeData, entry_in, node_at}
use Rattle.hg_nodes.specs.Search.{AreLeft, IsFoundBut, is_left, is_past, is_tracked, lesser, tracked_above, tracked_below, tracked_within}

-- a path isn't greater than another
abbrev Upto : List ℕ → List ℕ → Type 0
Upto a b = is_gt (slice_cmp nat_cmp a b) ≡ false

upto_trans : (a b c : List ℕ) → Upto a b → Upto b c → Upto a c
upto_trans a b c = upto nat_list_cmp_total a b c

upto_itself : (a : List ℕ) → Upto a a
upto_itself a = ap is_gt (tied_itself nat_list_cmp_total a)

turned : (o : Ordering) → is_gt o ≡ true → is_gt (ordering_reverse o) ≡ false
turned Less h = absurd (true≢false (sym h))
turned Equal h = absurd (true≢false (sym h))
turned Greater h = refl

upto_other : (a b : List ℕ) → is_gt (slice_cmp nat_cmp a b) ≡ true → Upto b a
upto_other a b h = ap is_gt (nat_list_cmp_total.antisymm b a) ∙ turned (slice_cmp nat_cmp a b) h

upto_below : (dir path : List ℕ) → is_below dir path ≡ true → Upto dir path
upto_below dir path below =
    let split = below_split dir path below in
    ap (λ (p : List ℕ). is_gt (slice_cmp nat_cmp p path)) (sym (append-nil dir))
    ∙ ap (λ (p : List ℕ). is_gt (slice_cmp nat_cmp (dir ++ []) p)) split.1
    ∙ ap is_gt (cmp_front dir [] (47 ∷ split.0))

upto_within : (at path : List ℕ) → is_within at path ≡ true → Upto at path
upto_within at path h = elim (within_split at path h) [
  | inl e ↦ ap (λ (p : List ℕ). is_gt (slice_cmp nat_cmp p path)) (sym e) ∙ upto_itself path
  | inr below ↦ upto_below at path below
]

-- two tests that agree have the same least path
pub least_same : (s t : List ℕ → Bool) (found : Option (List ℕ)) → ((at : List ℕ) → t at ≡ s at) → IsLeast s found → IsLeast t found
least_same s t None same least = λ other. same other ∙ least other
least_same s t (Some l) same least = (same l ∙ least.0, λ other h. least.1 other (sym (same other) ∙ h))

-- ---- above

module _ (rows : List (List ℕ × NodeData)) (path : List ℕ) (good : is_path path ≡ true) where
  pub above_root : parent_of path ≡ None → IsLeast (tracked_above rows path) None
  above_root parent other = and_right (is_tracked rows other) (is_below other path) (above_none path good parent other)

  module _ (dir : List ℕ) (parent : parent_of path ≡ Some dir) where
    split_above : (other : List ℕ) → tracked_above rows path other ≡ true → (dir ≡ other) ⊎ (tracked_above rows dir other ≡ true)
    split_above other h =
        let parts = and_parts (is_tracked rows other) (is_below other path) h in
        elim (within_split other dir (sym (above_is dir path good parent other) ∙ parts.1)) [
          | inl e ↦ inl e
          | inr up ↦ inr (and_from (is_tracked rows other) (is_below other dir) parts.0 up)
        ]

    pub above_found : (found : List ℕ) → IsLeast (tracked_above rows dir) (Some found) → IsLeast (tracked_above rows path) (Some found)
    above_found found least =
        let parts = and_parts (is_tracked rows found) (is_below found dir) least.0 in (
          and_from (is_tracked rows found) (is_below found path) parts.0 (below_trans found dir path parts.1 (below_parent dir path parent)),
          λ other h. elim (split_above other h) [
            | inl e ↦ upto_below found other (ap (is_below found) (sym e) ∙ parts.1)
            | inr more ↦ least.1 other more
          ],
        )

    pub above_dir : IsLeast (tracked_above rows dir) None → is_tracked rows dir ≡ true → IsLeast (tracked_above rows path) (Some dir)
    above_dir none here = (
      and_from (is_tracked rows dir) (is_below dir path) here (below_parent dir path parent),
      λ other h. elim (split_above other h) [
        | inl e ↦ ap (λ (p : List ℕ). is_gt (slice_cmp nat_cmp dir p)) (sym e) ∙ upto_itself dir
        | inr more ↦ absurd (both_ways (tracked_above rows dir other) (none other) more)
      ],
    )

    pub above_nothing : IsLeast (tracked_above rows dir) None → is_tracked rows dir ≡ false → IsLeast (tracked_above rows path) None
    above_nothing none here other = false_from_ne_true (tracked_above rows path other) (λ h. elim (split_above other h) [
      | inl e ↦ both_ways (is_tracked rows dir) here (ap (is_tracked rows) e ∙ (and_parts (is_tracked rows other) (is_below other path) h).0)
      | inr more ↦ both_ways (tracked_above rows dir other) (none other) more
    ])

-- ---- at a node or below it

module _ (rows : List (List ℕ × NodeData)) (path : List ℕ) (node : NodeData) (there : node_at rows path ≡ Some node) where
  pub within_here : is_tracked_entry node.entry ≡ true → IsLeast (tracked_within rows path) (Some path)
  within_here tracked = (
    and_from (is_tracked rows path) (is_within path path) (ap (λ (o : Option NodeData). is_tracked_entry (entry_in o)) there ∙ tracked) (within_itself path),
    λ other h. upto_within path other (and_parts (is_tracked rows other) (is_within path other) h).1,
  )

  pub within_under : is_tracked_entry node.entry ≡ false → (found : Option (List ℕ)) → IsLeast (tracked_below rows path) found → IsLeast (tracked_within rows path) found
  within_under not_tracked found least = least_same (tracked_below rows path) (tracked_within rows path) found
      (λ at. elim (cases_Bool (bytes_eq at path)) [
        | inl here ↦
            let none : is_tracked rows at ≡ false = ap (is_tracked rows) (same_bytes at path here) ∙ ap (λ (o : Option NodeData). is_tracked_entry (entry_in o)) there ∙ not_tracked in
            ap (λ (b : Bool). b && is_within path at) none ∙ sym (ap (λ (b : Bool). b && is_below path at) none)
        | inr apart ↦ ap (λ (b : Bool). is_tracked rows at && (b || is_below path at)) apart
      ])
      least

-- ---- both

module _ (rows : List (List ℕ × NodeData)) (path : List ℕ) where
  pub clash_above : (found : List ℕ) → IsLeast (tracked_above rows path) (Some found) → IsLeast (clashes path (λ at. entry_in (node_at rows at))) (Some found)
  clash_above found least =
      let parts = and_parts (is_tracked rows found) (is_below found path) least.0 in (
        and_from (is_tracked rows found) (is_below found path || is_below path found) parts.0 (or_left (is_below found path) (is_below path found) parts.1),
        λ other h.
            let both = and_parts (is_tracked rows other) (is_below other path || is_below path other) h in
            elim (cases_Bool (is_below other path)) [
              | inl up ↦ least.1 other (and_from (is_tracked rows other) (is_below other path) both.0 up)
              | inr not_up ↦
                  upto_below found other (below_trans found path other parts.1 (sym (ap (λ (b : Bool). b || is_below path other) not_up) ∙ both.1))
            ],
      )

  pub clash_below : (found : Option (List ℕ)) → IsLeast (tracked_above rows path) None → IsLeast (tracked_below rows path) found → IsLeast (clashes path (λ at. entry_in (node_at rows at))) found
  clash_below found none least = least_same (tracked_below rows path) (clashes path (λ at. entry_in (node_at rows at))) found
      (λ at. elim (cases_Bool (is_tracked rows at)) [
        | inl is ↦
            let not_up : is_below at path ≡ false = sym (ap (λ (b : Bool). b && is_below at path) is) ∙ none at in
            ap (λ (b : Bool). is_tracked rows at && (b || is_below path at)) not_up
        | inr not ↦ ap (λ (b : Bool). b && (is_below at path || is_below path at)) not ∙ sym (ap (λ (b : Bool). b && is_below path at) not)
      ])
      least

-- ---- below, node by node

tracked_node : (o : Option NodeData) → is_tracked_entry (entry_in o) ≡ true → is_some o ≡ true
tracked_node None h = absurd (true≢false (sym h))
tracked_node (Some node) h = refl

any_within : (k at : List ℕ) (kids : List (List ℕ × NodeData)) → is_within k at ≡ true → list_any (λ kid. bytes_eq k kid.0) kids ≡ true → is_left kids at ≡ true
any_within k at [] within any = absurd (true≢false (sym any))
any_within k at (kid ∷ kids) within any = elim (cases_Bool (bytes_eq k kid.0)) [
  | inl same ↦ or_left (is_within kid.0 at) (is_left kids at) (ap (λ (p : List ℕ). is_within p at) (sym (same_bytes k kid.0 same)) ∙ within)
  | inr other ↦ or_right (is_within kid.0 at) (is_left kids at) (any_within k at kids within (sym (ap (λ (b : Bool). b || list_any (λ kid. bytes_eq k kid.0) kids) other) ∙ any))
]

parent_from : (o : Option (List ℕ)) (dir : List ℕ) → 0 < length dir → or_root o ≡ dir → o ≡ Some dir
parent_from None dir some h = let none : length dir ≡ 0 = ap length (sym h) in absurd (omega arith)
parent_from (Some d) dir some h = ap Some h

-- what stands right in a directory stands below it
pub kid_below : (dir kid : List ℕ) → is_path dir ≡ true → dir_text kid ≡ dir → is_below dir kid ≡ true
kid_below dir kid good here = below_parent dir kid (parent_from (parent_of kid) dir (path_some dir good) here)

module _ (rows : List (List ℕ × NodeData)) (dir : List ℕ) (good : is_path dir ≡ true) where
  -- at first all nodes of the directory are left
  pub left_first : (kids : List (List ℕ × NodeData)) → AreRooted (node_at rows) → AreKids rows dir kids → AreLeft rows dir kids None
  left_first kids formed are = record {
    sorted = are.sorted;
    each = are.each;
    found = λ at h.
        let parts = and_parts (is_tracked rows at) (is_below dir at) h in
        let here : is_some (node_at rows at) ≡ true = tracked_node (node_at rows at) parts.0 in
        let through = below_through dir at parts.1 in
        let kid : List ℕ = joined (Some dir) through.0 in
        let in_dir : dir_text kid ≡ dir = ap or_root (parent_joined (Some dir) through.0 through.1) in
        elim through.2 [
          | inl e ↦
              any_within kid at kids (ap (is_within kid) e ∙ within_itself kid)
              (are.all kid in_dir (sym (ap (λ (p : List ℕ). is_some (node_at rows p)) e) ∙ here))
          | inr below ↦ any_within kid at kids (within_below kid at below) (are.all kid in_dir (formed.rooted kid at below here))
        ];
  }

  past_rest : (l kid at : List ℕ) (rest : List (List ℕ × NodeData)) → Upto l kid → AllByRecursion (λ y. slice_cmp nat_cmp kid y ≡ Less) (keys_of rest) → is_left rest at ≡ true → Upto l at
  past_rest l kid at [] upto_kid all left = absurd (true≢false (sym left))
  past_rest l kid at (x ∷ rest) upto_kid all left = elim (cases_Bool (is_within x.0 at)) [
    | inl within ↦ upto_trans l x.0 at (upto_trans l kid x.0 upto_kid (ap is_gt all.0)) (upto_within x.0 at within)
    | inr other ↦ past_rest l kid at rest upto_kid all.1 (sym (ap (λ (b : Bool). b || is_left rest at) other) ∙ left)
  ]

  -- what is left isn't less than the path that was found
  pub left_past : (l : List ℕ) (kid : List ℕ × NodeData) (rest : List (List ℕ × NodeData)) → AreLeft rows dir (kid ∷ rest) (Some l) → Upto l kid.0 → IsLeast (tracked_below rows dir) (Some l)
  left_past l kid rest are upto_kid = (
    are.found.0,
    λ at h. elim (cases_Bool (is_left (kid ∷ rest) at)) [
      | inl left ↦ elim (cases_Bool (is_within kid.0 at)) [
        | inl within ↦ upto_trans l kid.0 at upto_kid (upto_within kid.0 at within)
        | inr other ↦
            past_rest l kid.0 at rest upto_kid (sorted_head (slice_cmp nat_cmp) kid.0 (keys_of rest) are.sorted) (sym (ap (λ (b : Bool). b || is_left rest at) other) ∙ left)
      ]
      | inr done ↦ are.found.1 at h done
    ],
  )

  module _ (kid : List ℕ × NodeData) (rest : List (List ℕ × NodeData)) where
    module _ (least : Option (List ℕ)) (are : AreLeft rows dir (kid ∷ rest) least) where
      under : (at : List ℕ) → tracked_within rows kid.0 at ≡ true → tracked_below rows dir at ≡ true
      under at h =
          let parts = and_parts (is_tracked rows at) (is_within kid.0 at) h in
          let below = kid_below dir kid.0 good are.each.0.0 in
          and_from (is_tracked rows at) (is_below dir at) parts.0
          (elim (within_split kid.0 at parts.1) [ inl e ↦ ap (is_below dir) e ∙ below | inr more ↦ below_trans dir kid.0 at below more ])

      in_kid : (at : List ℕ) → tracked_below rows dir at ≡ true → is_within kid.0 at ≡ true → tracked_within rows kid.0 at ≡ true
      in_kid at h within = and_from (is_tracked rows at) (is_within kid.0 at) (and_parts (is_tracked rows at) (is_below dir at) h).0 within

      not_left : (at : List ℕ) → is_within kid.0 at ≡ false → is_left rest at ≡ false → is_left (kid ∷ rest) at ≡ false
      not_left at other done = or_from (is_within kid.0 at) (is_left rest at) other done

    more_found : (least found : Option (List ℕ)) → AreLeft rows dir (kid ∷ rest) least → IsLeast (tracked_within rows kid.0) found
        → IsFoundBut rows dir rest (lesser least found)
    more_found None None are none = λ at h. elim (cases_Bool (is_left rest at)) [
      | inl left ↦ left
      | inr done ↦ elim (cases_Bool (is_within kid.0 at)) [
        | inl within ↦ absurd (both_ways (tracked_within rows kid.0 at) (none at) (in_kid None are at h within))
        | inr other ↦ absurd (both_ways (is_left (kid ∷ rest) at) (not_left None are at other done) (are.found at h))
      ]
    ]
    more_found None (Some f) are least_in = (
      under None are f least_in.0,
      λ at h done. elim (cases_Bool (is_within kid.0 at)) [
        | inl within ↦ least_in.1 at (in_kid None are at h within)
        | inr other ↦ absurd (both_ways (is_left (kid ∷ rest) at) (not_left None are at other done) (are.found at h))
      ],
    )
    more_found (Some l) None are none = (
      are.found.0,
      λ at h done. elim (cases_Bool (is_within kid.0 at)) [
        | inl within ↦ absurd (both_ways (tracked_within rows kid.0 at) (none at) (in_kid (Some l) are at h within))
        | inr other ↦ are.found.1 at h (not_left (Some l) are at other done)
      ],
    )
    more_found (Some l) (Some f) are least_in = both (is_gt (slice_cmp nat_cmp l f)) refl
      where
        both : (b : Bool) → is_gt (slice_cmp nat_cmp l f) ≡ b → IsFoundBut rows dir rest (cond b (Some f) (Some l))
        both true is = (
          under (Some l) are f least_in.0,
          λ at h done. elim (cases_Bool (is_within kid.0 at)) [
            | inl within ↦ least_in.1 at (in_kid (Some l) are at h within)
            | inr other ↦ upto_trans f l at (upto_other l f is) (are.found.1 at h (not_left (Some l) are at other done))
          ],
        )
        both false is = (
          are.found.0,
          λ at h done. elim (cases_Bool (is_within kid.0 at)) [
            | inl within ↦ upto_trans l f at is (least_in.1 at (in_kid (Some l) are at h within))
            | inr other ↦ are.found.1 at h (not_left (Some l) are at other done)
          ],
        )

    -- one node more was looked at
    pub left_more : (least found : Option (List ℕ)) → AreLeft rows dir (kid ∷ rest) least → IsLeast (tracked_within rows kid.0) found → AreLeft rows dir rest (lesser least found)
    left_more least found are least_in = record {
      sorted = sorted_tail (slice_cmp nat_cmp) kid.0 (keys_of rest) are.sorted;
      each = are.each.1;
      found = more_found least found are least_in;
    }

  -- no node is left
  pub left_done : (least : Option (List ℕ)) → AreLeft rows dir [] least → IsLeast (tracked_below rows dir) least
  left_done None are = λ other. false_from_ne_true (tracked_below rows dir other) (λ h. true≢false (sym (are.found other h)))
  left_done (Some l) are = (are.found.0, λ other h. are.found.1 other h refl)

  -- a turn of the walk
  module _ (kid : List ℕ × NodeData) (left rest : List (List ℕ × NodeData)) (split : left ≡ kid ∷ rest) where
    split_left : (least : Option (List ℕ)) → AreLeft rows dir left least → AreLeft rows dir (kid ∷ rest) least
    split_left least are = subst (λ (l : List (List ℕ × NodeData)). AreLeft rows dir l least) split are

    pub left_stops : (least : Option (List ℕ)) → AreLeft rows dir left least → is_past least kid.0 ≡ true → IsLeast (tracked_below rows dir) least
    left_stops None are past = absurd (true≢false (sym past))
    left_stops (Some l) are past = left_past l kid rest (split_left (Some l) are) (not-true (is_gt (slice_cmp nat_cmp l kid.0)) past)

    pub left_goes : (least found more : Option (List ℕ)) → AreLeft rows dir left least → IsLeast (tracked_within rows kid.0) found → more ≡ lesser least found → AreLeft rows dir rest more
    left_goes least found more are least_in is = subst (AreLeft rows dir rest) (sym is) (left_more kid rest least found (split_left least are) least_in)

    -- the node stands at its path, and in the directory
    pub kid_there : (least : Option (List ℕ)) → AreLeft rows dir left least → node_at rows kid.0 ≡ Some kid.1
    kid_there least are = (split_left least are).each.0.1

    pub kid_longer : (least : Option (List ℕ)) → AreLeft rows dir left least → length dir < length kid.0
    kid_longer least are = below_length dir kid.0 (kid_below dir kid.0 good (split_left least are).each.0.0)

    pub kid_path : (least : Option (List ℕ)) → AreLeft rows dir left least → AreRooted (node_at rows) → is_path kid.0 ≡ true
    kid_path least are formed = formed.paths kid.0 (ap is_some (kid_there least are))

    pub kid_short : (least : Option (List ℕ)) → AreLeft rows dir left least → AreRooted (node_at rows) → length kid.0 ≤ 65535
    kid_short least are formed = (path_parts kid.0 (kid_path least are formed)).short

  pub left_ends : (least : Option (List ℕ)) (left : List (List ℕ × NodeData)) → left ≡ [] → AreLeft rows dir left least → IsLeast (tracked_below rows dir) least
  left_ends least left none are = left_done least (subst (λ (l : List (List ℕ × NodeData)). AreLeft rows dir l least) none are)
