-- Whether anything is cached, found by a walk.
use Rattle.std.proofs.Common.{ℕ, ◌≡◌, ◌<◌, ◌≤◌, Bool, true, false, not, ◌||◌, inl, inr, List, [], ◌∷◌, length, Option, Some, None, refl, sym, ap, ◌∙◌, subst, true≢false}
use Rattle.std.specs.Prelude.{MatchBool, is_some}
use Rattle.std.specs.Option.{option_map}
use Rattle.std.proofs.lemmas.Bool.{and_parts, and_from, both_ways, not-true}
use Rattle.hg_base.specs.PathText.{is_below, is_path, parent_of}
use Rattle.hg_base.specs.Within.{is_above, is_within}
use Rattle.hg_base.specs.declared.time.Stamp.{Stamp}
use Rattle.hg_base.proofs.Children.{parent_length}
use Rattle.hg_base.proofs.Paths.{path_parts, path_some}
use Rattle.hg_base.proofs.Within.{within_below, within_itself, within_split}
use Rattle.hg_entry.specs.Entry.{CacheData, cache_view}
use Rattle.hg_mixed.specs.Cached.{AreBare, FindsCache, IsAnyCached, IsNoneCached}
use Rattle.hg_mixed.specs.Child.{shown_child}
use Rattle.hg_mixed.specs.Children.{AreChildren, IsChild}
use Rattle.hg_mixed.specs.Gathered.{is_left}
use Rattle.hg_mixed.specs.Held.{Held, table}
use Rattle.hg_mixed.specs.declared.child.Child.{Child}
use Rattle.hg_nodes.specs.Children.{ChildData}
use Rattle.hg_nodes.specs.Edits.{IsFormed}
use Rattle.hg_nodes.specs.Lists.{or_root}
use Rattle.hg_mixed.proofs.Gathering.{above_child, any_left, at_kid}

-- a cache is there, or none is
none_or : (c : Option CacheData) → (is_some c ≡ true → ⊥) → c ≡ None
none_or None never = refl
none_or (Some c) never = absurd (never refl)

some_mapped : (time : Option Stamp) → is_some time ≡ true → is_some (option_map cache_view time) ≡ true
some_mapped None is = absurd (true≢false (sym is))
some_mapped (Some time) is = refl

none_mapped : (time : Option Stamp) → is_some time ≡ false → option_map cache_view time ≡ None
none_mapped None is = refl
none_mapped (Some time) is = absurd (true≢false is)

module _ (held : Held) where
  abbrev Cached : List ℕ → Type 0
  Cached at = is_some ((table held).caches at) ≡ true

  abbrev Bare : List ℕ → Type 0
  Bare at = (table held).caches at ≡ None

  never_both : (at : List ℕ) → Bare at → Cached at → ⊥
  never_both at bare cached = true≢false (sym cached ∙ ap is_some bare)

  -- the same answer for a test that says the same
  pub finds_for : (s t : List ℕ → Bool) (found : Bool) → ((at : List ℕ) → s at ≡ true → t at ≡ true) → ((at : List ℕ) → Cached at → t at ≡ true → s at ≡ true) → FindsCache held s found → FindsCache held t found
  finds_for s t true there back (at, in_s, is) = (at, there at in_s, is)
  finds_for s t false there back none = λ at in_t. none_or ((table held).caches at) (λ is. never_both at (none at (back at is in_t)) is)

  -- of all paths
  pub finds_any : (found : Bool) → FindsCache held (is_above None) found → MatchBool found (IsAnyCached (table held)) (IsNoneCached (table held))
  finds_any true (at, above, is) = (at, is)
  finds_any false none = λ at. none at refl

  -- ---- one child

  module _ (child : Child) (dir : Option (List ℕ)) (is : IsChild held dir (shown_child child)) where
    abbrev own : List ℕ
    own = child.path.text.now

    pub own_cached : is_some child.cache ≡ true → FindsCache held (is_within own) true
    own_cached there = (own, within_itself own, ap is_some (sym is.cache) ∙ some_mapped child.cache there)

    -- it isn't cached, so it is asked what stands below it
    pub own_bare : is_some child.cache ≡ false → (found : Bool) → FindsCache held (is_below own) found → FindsCache held (is_within own) found
    own_bare none true (at, below, cached) = (at, within_below own at below, cached)
    own_bare none false bare = λ at within. elim (within_split own at within) [
      | inl same ↦ ap (table held).caches same ∙ sym is.cache ∙ none_mapped child.cache none
      | inr below ↦ bare at below
    ]

    -- no cache stands below a path without children
    pub below_bare : IsFormed (table held) → child.has_kids ≡ false → FindsCache held (is_below own) false
    below_bare formed none = λ at below. none_or ((table held).caches at) (λ cached.
        let kid = at_kid held formed (Some own) at below (formed.caches at cached).0 in
        let never : (k : List ℕ) → parent_of k ≡ Some own → (table held).nodes k ≡ false =
        subst (λ (b : Bool). MatchBool b ((k : List ℕ) × ((table held).nodes k ≡ true) × (parent_of k ≡ Some own)) ((k : List ℕ) → parent_of k ≡ Some own → (table held).nodes k ≡ false)) none is.kids in
        both_ways ((table held).nodes kid.0) (never kid.0 kid.1) kid.2)

  -- ---- the children of a directory

  module _ (formed : IsFormed (table held)) (dir : Option (List ℕ)) where
    -- all children are left
    pub bare_first : (children : List ChildData) → AreChildren held dir children → AreBare held dir children
    bare_first children are = record {
      each = are.each;
      none = λ at done. none_or ((table held).caches at) (λ cached.
          let parts = and_parts (is_above dir at) (not (is_left children at)) done in
          let kid = at_kid held formed dir at parts.0 (formed.caches at cached).0 in
          both_ways (is_left children at) (not-true (is_left children at) parts.1) (any_left held formed dir kid.0 at children kid.3 (are.all kid.0 kid.2 kid.1)));
    }

    -- none is left
    pub bare_done : (left : List ChildData) → left ≡ [] → AreBare held dir left → FindsCache held (is_above dir) false
    bare_done left none are = λ at above. are.none at (and_from (is_above dir at) (not (is_left left at)) above (ap (λ (l : List ChildData). not (is_left l at)) none))

    module _ (child : Child) (left rest : List ChildData) (split : left ≡ shown_child child ∷ rest) (are : AreBare held dir left) where
      here : AreBare held dir (shown_child child ∷ rest)
      here = subst (AreBare held dir) split are

      pub bare_child : IsChild held (parent_of child.path.text.now) (shown_child child)
      bare_child = subst (λ (d : Option (List ℕ)). IsChild held d (shown_child child)) (sym here.each.0.parent) here.each.0

      good : is_path child.path.text.now ≡ true
      good = formed.paths child.path.text.now here.each.0.node

      pub bare_short : length child.path.text.now ≤ 65535
      bare_short = (path_parts child.path.text.now good).short

      pub bare_longer : length (or_root dir) < length child.path.text.now
      bare_longer = longer dir here.each.0.parent
        where
          longer : (d : Option (List ℕ)) → parent_of child.path.text.now ≡ d → length (or_root d) < length child.path.text.now
          longer None e = path_some child.path.text.now good
          longer (Some d) e = parent_length d child.path.text.now e

      -- a cache is at the child or below it
      pub bare_found : FindsCache held (is_within child.path.text.now) true → FindsCache held (is_above dir) true
      bare_found (at, within, cached) = (at, above_child held formed dir (shown_child child) at here.each.0 within, cached)

      -- none is, so that one child more is done
      pub bare_more : FindsCache held (is_within child.path.text.now) false → AreBare held dir rest
      bare_more bare = record {
        each = here.each.1;
        none = λ at done.
            let parts = and_parts (is_above dir at) (not (is_left rest at)) done in
            by (is_within child.path.text.now at) at refl parts.0 parts.1;
      }
        where
          by : (w : Bool) (at : List ℕ) → is_within child.path.text.now at ≡ w → is_above dir at ≡ true → not (is_left rest at) ≡ true → Bare at
          by true at within above out = bare at within
          by false at apart above out =
              here.none at (and_from (is_above dir at) (not (is_left (shown_child child ∷ rest) at)) above (ap (λ (b : Bool). not (b || is_left rest at)) apart ∙ out))
