-- Nodes that go, from a path upwards.
use Rattle.std.proofs.Common.{ℕ, ◌≡◌, Bool, true, false, not, cond, ◌&&◌, ◌||◌, inl, inr, List, Option, Some, None, refl, sym, ap, ◌∙◌, subst, true≢false}
use Rattle.std.specs.Prelude.{is_some}
use Rattle.std.specs.Str.{bytes_eq}
use Rattle.std.proofs.lemmas.Bool.{cases_Bool, and_parts, and_from, and_right, or_left, or_right, or_parts, both_ways, false_from_ne_true, not-true, not_from_false}
use Rattle.hg_base.specs.PathText.{is_below, is_path, joined, parent_of}
use Rattle.hg_base.specs.Within.{is_within}
use Rattle.hg_base.proofs.Below.{below_itself, below_not_back}
use Rattle.hg_base.proofs.Children.{below_through}
use Rattle.hg_base.proofs.Components.{parent_joined}
use Rattle.hg_base.proofs.Within.{above_is, above_none, equal_bytes, same_bytes, within_below, within_itself, within_split, within_trans}
use Rattle.hg_entry.specs.Entry.{CacheData, EntryData}
use Rattle.hg_entry.specs.Table.{Table}
use Rattle.hg_nodes.specs.Drop.{IsPrunedAt, IsPruned, bare}
use Rattle.hg_nodes.specs.Edits.{IsFormed}
use Rattle.hg_nodes.specs.Lists.{has_rows_in, or_root}
use Rattle.hg_nodes.specs.Node.{IsPut, NodeData, entry_in, node_at, source_in}
use Rattle.hg_nodes.specs.Times.{IsTimed}
use Rattle.hg_nodes.proofs.Edited.{entry_node}
use Rattle.hg_nodes.proofs.Listed.{rows_none, rows_some}
use Rattle.hg_nodes.proofs.Searched.{kid_below}

and_true : (b : Bool) → b ≡ (b && true)
and_true true = refl
and_true false = refl

-- a table of which nothing goes
nothing_goes : (path : List ℕ) (was : Table) → ((at : List ℕ) → IsPrunedAt path was at → ⊥) → IsPruned path was was
nothing_goes path was none = record {
  gone = λ at. false;
  stale = λ at. false;
  goes = λ at h. absurd (true≢false (sym h));
  all_go = λ at h. absurd (none at h);
  is_stale = λ dir h. absurd (true≢false (sym h));
  all_stale = λ dir at h p. absurd (true≢false (sym h));
  p1 = refl;
  p2 = refl;
  hash = refl;
  entries = λ at. refl;
  sources = λ at. refl;
  nodes = λ at. and_true (was.nodes at);
  caches = λ at. refl;
}

some_not_none : {X : Type 0} (o : Option X) → is_some o ≡ true → o ≡ None → ⊥
some_not_none o some none = true≢false (sym some ∙ ap is_some none)

-- where a node has an entry or a child, nothing goes
pub pruned_not : (path : List ℕ) (rows : List (List ℕ × NodeData)) (times : List (List ℕ × CacheData)) → is_path path ≡ true
    → (is_some (entry_in (node_at rows path)) || has_rows_in rows path) ≡ true → IsPruned path (bare rows times) (bare rows times)
pruned_not path rows times good stays = nothing_goes path (bare rows times) (λ at goes. elim (cases_Bool (is_some (entry_in (node_at rows path)))) [
  | inl entry ↦ some_not_none (entry_in (node_at rows path)) entry (goes.alone path goes.on_way (entry_node (node_at rows path) entry)).1
  | inr none ↦
      let kid = rows_some rows path (sym (ap (λ (b : Bool). b || has_rows_in rows path) none) ∙ stays) in
      let below = kid_below path kid.0 good kid.1 in
      elim (within_split kid.0 path (goes.alone kid.0 (within_trans at path kid.0 goes.on_way (within_below path kid.0 below)) kid.2).0) [
        | inl e ↦ both_ways (is_below path path) (below_itself path) (ap (is_below path) e ∙ below)
        | inr back ↦ both_ways (is_below kid.0 path) (below_not_back path kid.0 below) back
      ]
])

-- what stands below a path has a node right in it above
module _ (path : List ℕ) (rows : List (List ℕ × NodeData)) (times : List (List ℕ × CacheData)) (formed : IsFormed (bare rows times))
    (stays : (is_some (entry_in (node_at rows path)) || has_rows_in rows path) ≡ false) where
  parts : (is_some (entry_in (node_at rows path)) ≡ false) × (has_rows_in rows path ≡ false)
  parts = let both = or_parts (is_some (entry_in (node_at rows path))) (has_rows_in rows path) stays in (both.0, both.1)

  pub nothing_below : (at : List ℕ) → is_below path at ≡ true → is_some (node_at rows at) ≡ false
  nothing_below at below = false_from_ne_true (is_some (node_at rows at)) (λ some.
      let through = below_through path at below in
      let kid : List ℕ = joined (Some path) through.0 in
      let none : node_at rows kid ≡ None = rows_none rows path kid parts.1 (ap or_root (parent_joined (Some path) through.0 through.1)) in
      let there : is_some (node_at rows kid) ≡ true = elim through.2 [
        | inl e ↦ ap (λ (p : List ℕ). is_some (node_at rows p)) (sym e) ∙ some
        | inr more ↦ formed.rooted kid at more some
      ] in
      some_not_none (node_at rows kid) there none)

  no_entry : (o : Option EntryData) → is_some o ≡ false → o ≡ None
  no_entry None h = refl
  no_entry (Some e) h = absurd (true≢false h)

  pub nothing_there : entry_in (node_at rows path) ≡ None
  nothing_there = no_entry (entry_in (node_at rows path)) parts.0

-- a node that goes, with the caches that a test names
pub record IsRemoved (path : List ℕ) (test : List ℕ → Bool) (was mid : Table) : Type 0 where
  pub p1 : mid.p1 ≡ was.p1
  pub p2 : mid.p2 ≡ was.p2
  pub hash : mid.hash ≡ was.hash
  pub entries : (at : List ℕ) → mid.entries at ≡ was.entries at
  pub sources : (at : List ℕ) → mid.sources at ≡ was.sources at
  pub nodes : (at : List ℕ) → mid.nodes at ≡ (was.nodes at && not (bytes_eq path at))
  pub caches : (at : List ℕ) → mid.caches at ≡ cond (bytes_eq path at || test at) None (was.caches at)

and_not : (b c d : Bool) → ((b && not c) && not d) ≡ (b && not (c || d))
and_not true true d = refl
and_not true false d = refl
and_not false c d = refl

cache_step : {X : Type 0} (here gone dir stale : Bool) (o : Option X) → cond (gone || stale) None (cond (here || dir) None o) ≡ cond ((here || gone) || (dir || stale)) None o
cache_step true true dir stale o = refl
cache_step true false dir true o = refl
cache_step true false dir false o = refl
cache_step false true dir stale o = refl
cache_step false false dir true o = sym (ap (λ (b : Bool). cond b None o) (or_right dir true refl))
cache_step false false true false o = refl
cache_step false false false false o = refl

module _ (path : List ℕ) (test : List ℕ → Bool) (good : is_path path ≡ true) (was mid : Table) (formed : IsFormed was) (removed : IsRemoved path test was mid)
    (below : (at : List ℕ) → is_below path at ≡ true → was.nodes at ≡ false) (none : was.entries path ≡ None) where
  here_not : mid.nodes path ≡ false
  here_not = removed.nodes path ∙ and_right (was.nodes path) (not (bytes_eq path path)) (ap not (equal_bytes path))

  was_node : (at : List ℕ) → mid.nodes at ≡ true → was.nodes at ≡ true
  was_node at is = (and_parts (was.nodes at) (not (bytes_eq path at)) (sym (removed.nodes at) ∙ is)).0

  not_path : (at : List ℕ) → mid.nodes at ≡ true → bytes_eq path at ≡ false
  not_path at is = not-true (bytes_eq path at) (and_parts (was.nodes at) (not (bytes_eq path at)) (sym (removed.nodes at) ∙ is)).1

  still : (at : List ℕ) → was.nodes at ≡ true → bytes_eq path at ≡ false → mid.nodes at ≡ true
  still at is other = removed.nodes at ∙ and_from (was.nodes at) (not (bytes_eq path at)) is (not_from_false (bytes_eq path at) other)

  some_cache : (b : Bool) (o : Option CacheData) → is_some (cond b None o) ≡ true → (b ≡ false) × (is_some o ≡ true)
  some_cache true o h = absurd (true≢false (sym h))
  some_cache false o h = (refl, h)

  pub removed_formed : IsFormed mid
  removed_formed = record {
    paths = λ at is. formed.paths at (was_node at is);
    rooted = λ dir at up is. elim (cases_Bool (bytes_eq path dir)) [
      | inl same ↦ absurd (both_ways (was.nodes at) (below at (ap (λ (p : List ℕ). is_below p at) (same_bytes path dir same) ∙ up)) (was_node at is))
      | inr other ↦ still dir (formed.rooted dir at up (was_node at is)) other
    ];
    entries = λ at no. removed.entries at ∙ elim (cases_Bool (was.nodes at)) [
      | inl is ↦ elim (cases_Bool (bytes_eq path at)) [
        | inl same ↦ sym (ap was.entries (same_bytes path at same)) ∙ none
        | inr other ↦ absurd (both_ways (mid.nodes at) no (still at is other))
      ]
      | inr not ↦ formed.entries at not
    ];
    sources = λ at no. removed.sources at ∙ formed.sources at (sym (removed.entries at) ∙ no);
    caches = λ at some.
        let parts = some_cache (bytes_eq path at || test at) (was.caches at) (sym (ap is_some (removed.caches at)) ∙ some) in
        let had = formed.caches at parts.1 in (
          still at had.0 (or_parts (bytes_eq path at) (test at) parts.0).0,
          removed.entries at ∙ had.1,
        );
  }

  path_goes : IsPrunedAt path was path
  path_goes = record {
    on_way = within_itself path;
    alone = λ other way is. elim (within_split path other way) [
      | inl e ↦ (ap (λ (p : List ℕ). is_within p path) e ∙ within_itself path, ap was.entries e ∙ none)
      | inr under ↦ absurd (both_ways (was.nodes other) (below other under) is)
    ];
  }

  module _ (root : parent_of path ≡ None) (no_test : (at : List ℕ) → test at ≡ false) where
    pub pruned_root : IsPruned path was mid
    pruned_root = record {
      gone = bytes_eq path;
      stale = λ at. false;
      goes = λ at h. subst (IsPrunedAt path was) (same_bytes path at h) path_goes;
      all_go = λ at g. elim (within_split at path g.on_way) [
        | inl e ↦ ap (bytes_eq path) (sym e) ∙ equal_bytes path
        | inr up ↦ absurd (both_ways (is_below at path) (above_none path good root at) up)
      ];
      is_stale = λ dir h. absurd (true≢false (sym h));
      all_stale = λ dir at h p.
          let never : None ≡ Some dir = sym root ∙ ap parent_of (same_bytes path at h) ∙ p in absurd (cc);
      p1 = removed.p1;
      p2 = removed.p2;
      hash = removed.hash;
      entries = removed.entries;
      sources = removed.sources;
      nodes = removed.nodes;
      caches = λ at. removed.caches at ∙ ap (λ (b : Bool). cond (bytes_eq path at || b) None (was.caches at)) (no_test at);
    }

  module _ (dir : List ℕ) (parent : parent_of path ≡ Some dir) (is_test : (at : List ℕ) → test at ≡ bytes_eq dir at) (left : Table) (up : IsPruned dir mid left) where
    to_dir : (at : List ℕ) → is_within at path ≡ true → bytes_eq path at ≡ false → is_within at dir ≡ true
    to_dir at way other = sym (above_is dir path good parent at) ∙ sym (ap (λ (b : Bool). b || is_below at path) other) ∙ way

    to_path : (at : List ℕ) → is_within at dir ≡ true → is_within at path ≡ true
    to_path at way = within_below at path (above_is dir path good parent at ∙ way)

    more_goes : (at : List ℕ) → IsPrunedAt dir mid at → IsPrunedAt path was at
    more_goes at g = record {
      on_way = to_path at g.on_way;
      alone = λ other way is. elim (cases_Bool (bytes_eq path other)) [
        | inl same ↦
            (ap (λ (p : List ℕ). is_within p path) (sym (same_bytes path other same)) ∙ within_itself path, ap was.entries (sym (same_bytes path other same)) ∙ none)
        | inr apart ↦
            let more = g.alone other way (still other is apart) in (to_path other more.0, sym (removed.entries other) ∙ more.1)
      ];
    }

    goes_more : (at : List ℕ) → IsPrunedAt path was at → bytes_eq path at ≡ false → IsPrunedAt dir mid at
    goes_more at g other = record {
      on_way = to_dir at g.on_way other;
      alone = λ next way is.
          let more = g.alone next way (was_node next is) in (to_dir next more.0 (not_path next is), removed.entries next ∙ more.1);
    }

    pub pruned_up : IsPruned path was left
    pruned_up = record {
      gone = λ at. bytes_eq path at || up.gone at;
      stale = λ at. bytes_eq dir at || up.stale at;
      goes = λ at h. elim (cases_Bool (bytes_eq path at)) [
        | inl same ↦ subst (IsPrunedAt path was) (same_bytes path at same) path_goes
        | inr other ↦ more_goes at (up.goes at (sym (ap (λ (b : Bool). b || up.gone at) other) ∙ h))
      ];
      all_go = λ at g. elim (cases_Bool (bytes_eq path at)) [
        | inl same ↦ or_left (bytes_eq path at) (up.gone at) same
        | inr other ↦ or_right (bytes_eq path at) (up.gone at) (up.all_go at (goes_more at g other))
      ];
      is_stale = λ d h. elim (cases_Bool (bytes_eq dir d)) [
        | inl same ↦ (path, or_left (bytes_eq path path) (up.gone path) (equal_bytes path), parent ∙ ap Some (same_bytes dir d same))
        | inr other ↦
            let found = up.is_stale d (sym (ap (λ (b : Bool). b || up.stale d) other) ∙ h) in
            (found.0, or_right (bytes_eq path found.0) (up.gone found.0) found.1, found.2)
      ];
      all_stale = λ d at h p. elim (cases_Bool (bytes_eq path at)) [
        | inl same ↦
            let is : Some dir ≡ Some d = sym parent ∙ ap parent_of (same_bytes path at same) ∙ p in
            let it : dir ≡ d = cc in
            or_left (bytes_eq dir d) (up.stale d) (ap (bytes_eq dir) (sym it) ∙ equal_bytes dir)
        | inr other ↦ or_right (bytes_eq dir d) (up.stale d) (up.all_stale d at (sym (ap (λ (b : Bool). b || up.gone at) other) ∙ h) p)
      ];
      p1 = up.p1 ∙ removed.p1;
      p2 = up.p2 ∙ removed.p2;
      hash = up.hash ∙ removed.hash;
      entries = λ at. up.entries at ∙ removed.entries at;
      sources = λ at. up.sources at ∙ removed.sources at;
      nodes = λ at. up.nodes at ∙ ap (λ (b : Bool). b && not (up.gone at)) (removed.nodes at) ∙ and_not (was.nodes at) (bytes_eq path at) (up.gone at);
      caches = λ at.
          up.caches at
          ∙ ap (cond (up.gone at || up.stale at) None) (removed.caches at ∙ ap (λ (b : Bool). cond (bytes_eq path at || b) None (was.caches at)) (is_test at))
          ∙ cache_step (bytes_eq path at) (up.gone at) (bytes_eq dir at) (up.stale at) (was.caches at);
    }

-- ---- of nodes and times

entry_gone : (b : Bool) (o : Option NodeData) → (b ≡ true → entry_in o ≡ None) → entry_in (cond b None o) ≡ entry_in o
entry_gone true o none = sym (none refl)
entry_gone false o none = refl

source_gone : (b : Bool) (o : Option NodeData) → (b ≡ true → source_in o ≡ None) → source_in (cond b None o) ≡ source_in o
source_gone true o none = sym (none refl)
source_gone false o none = refl

node_gone : (b : Bool) (o : Option NodeData) → is_some (cond b None o) ≡ (is_some o && not b)
node_gone true o = sym (and_right (is_some o) false refl)
node_gone false o = and_true (is_some o)

module _ (path : List ℕ) (rows : List (List ℕ × NodeData)) (times : List (List ℕ × CacheData)) (good : is_path path ≡ true) (formed : IsFormed (bare rows times))
    (stays : (is_some (entry_in (node_at rows path)) || has_rows_in rows path) ≡ false) (left : List (List ℕ × NodeData)) (timed : List (List ℕ × CacheData))
    (taken : IsPut path None rows left) (once : IsTimed path None times timed) where
  removed_of : (test : List ℕ → Bool) (mid : List (List ℕ × CacheData)) → ((at : List ℕ) → (bare left mid).caches at ≡ cond (bytes_eq path at || test at) None ((bare rows times).caches at))
      → IsRemoved path test (bare rows times) (bare left mid)
  removed_of test mid cached = record {
    p1 = refl;
    p2 = refl;
    hash = refl;
    entries = λ at.
        ap entry_in (taken at)
        ∙ entry_gone (bytes_eq path at) (node_at rows at) (λ h. ap (λ (p : List ℕ). entry_in (node_at rows p)) (sym (same_bytes path at h)) ∙ nothing_there path rows times formed stays);
    sources = λ at.
        ap source_in (taken at)
        ∙ source_gone (bytes_eq path at) (node_at rows at)
        (λ h. ap (λ (p : List ℕ). source_in (node_at rows p)) (sym (same_bytes path at h)) ∙ formed.sources path (nothing_there path rows times formed stays));
    nodes = λ at. ap is_some (taken at) ∙ node_gone (bytes_eq path at) (node_at rows at);
    caches = cached;
  }

  or_none : (b : Bool) (o : Option CacheData) → cond b None o ≡ cond (b || false) None o
  or_none true o = refl
  or_none false o = refl

  at_root : IsRemoved path (λ at. false) (bare rows times) (bare left timed)
  at_root = removed_of (λ at. false) timed (λ at. once at ∙ or_none (bytes_eq path at) ((bare rows times).caches at))

  pub root_pruned : parent_of path ≡ None → IsPruned path (bare rows times) (bare left timed)
  root_pruned root =
      pruned_root path (λ at. false) good (bare rows times) (bare left timed) formed at_root (nothing_below path rows times formed stays) (nothing_there path rows times formed stays) root (λ at. refl)

  pub root_formed : IsFormed (bare left timed)
  root_formed = removed_formed path (λ at. false) good (bare rows times) (bare left timed) formed at_root (nothing_below path rows times formed stays) (nothing_there path rows times formed stays)

  twice : {X : Type 0} (a b : Bool) (o : Option X) → cond b None (cond a None o) ≡ cond (a || b) None o
  twice true true o = refl
  twice true false o = refl
  twice false b o = refl

  module _ (dir : List ℕ) (parent : parent_of path ≡ Some dir) (mid : List (List ℕ × CacheData)) (again : IsTimed dir None timed mid) where
    in_dir : IsRemoved path (bytes_eq dir) (bare rows times) (bare left mid)
    in_dir = removed_of (bytes_eq dir) mid (λ at.
        again at ∙ ap (cond (bytes_eq dir at) None) (once at) ∙ twice (bytes_eq path at) (bytes_eq dir at) ((bare rows times).caches at))

    pub dir_formed : IsFormed (bare left mid)
    dir_formed = removed_formed path (bytes_eq dir) good (bare rows times) (bare left mid) formed in_dir (nothing_below path rows times formed stays) (nothing_there path rows times formed stays)

    pub dir_pruned : (end : Table) → IsPruned dir (bare left mid) end → IsPruned path (bare rows times) end
    dir_pruned end up =
        pruned_up path (bytes_eq dir) good (bare rows times) (bare left mid) formed in_dir (nothing_below path rows times formed stays) (nothing_there path rows times formed stays) dir parent (λ at. refl) end up
