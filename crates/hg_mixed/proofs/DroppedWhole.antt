-- What goes with an entry in memory goes of the table, where its path is in memory.
use Rattle.std.proofs.Common.{ℕ, zero, suc, ◌≡◌, ◌<◌, Bool, true, false, not, cond, ◌&&◌, ◌||◌, inl, inr, List, Option, None, length, refl, sym, ap, ◌∙◌, subst, true≢false, arith}
use Rattle.std.specs.Prelude.{is_some}
use Rattle.std.specs.Str.{bytes_eq}
use Rattle.std.proofs.lemmas.Bool.{cases_Bool, and_parts, and_from, cond-true, cond-false, both_ways, false_from_ne_true, not-true, not_from_false, or_parts}
use Rattle.hg_base.specs.PathText.{is_below}
use Rattle.hg_base.specs.Within.{is_within}
use Rattle.hg_base.proofs.Children.{below_by_parent, below_has_parent, below_parent, parent_length}
use Rattle.hg_base.proofs.Within.{within_below, within_itself, within_split, within_trans}
use Rattle.hg_docket.specs.Docket.{Contents}
use Rattle.hg_entry.specs.Entry.{CacheData}
use Rattle.hg_entry.specs.Table.{Table}
use Rattle.hg_image.specs.Reading as reading
use Rattle.hg_image.specs.Rows.{Row}
use Rattle.hg_nodes.specs.Drop.{IsPrunedAt, IsPruned, after_clear}
use Rattle.hg_nodes.specs.Edits.{IsFormed, IsSame}
use Rattle.hg_mixed.specs.Held.{Held, table}
use Rattle.hg_mixed.specs.Lent.{covers}
use Rattle.hg_mixed.specs.Own.{InMemory, memory_table}
use Rattle.hg_mixed.specs.Parted.{IsFree, IsMoved, IsParted, whole}
use Rattle.hg_mixed.proofs.Covered.{kid_free, way_free}
use Rattle.hg_nodes.proofs.Dropped.{alike_pruned}
use Rattle.hg_mixed.proofs.Lifted.{own_node, parted_kept, update_merged}

-- ---- what is left of a formed table is formed

none_or : {X : Type 0} (b : Bool) (o : Option X) → o ≡ None → cond b None o ≡ None
none_or true o h = refl
none_or false o h = h

none_with : {X Y : Type 0} (b : Bool) (o : Option X) (p : Option Y) → (o ≡ None → p ≡ None) → cond b None o ≡ None → cond b None p ≡ None
none_with true o p h none = refl
none_with false o p h none = h none

cleared_formed : (path : List ℕ) (t : Table) → IsFormed t → IsFormed (after_clear path t)
cleared_formed path t formed = record {
  paths = formed.paths;
  rooted = formed.rooted;
  entries = λ at none. none_or (bytes_eq path at) (t.entries at) (formed.entries at none);
  sources = λ at none. none_with (bytes_eq path at) (t.entries at) (t.sources at) (formed.sources at) none;
  caches = λ at is. let had = formed.caches at is in (had.0, none_or (bytes_eq path at) (t.entries at) had.1);
}

some_cache : (b : Bool) (o : Option CacheData) → is_some (cond b None o) ≡ true → (b ≡ false) × (is_some o ≡ true)
some_cache true o h = absurd (true≢false (sym h))
some_cache false o h = (refl, h)

pub pruned_formed : (path : List ℕ) (was left : Table) → IsFormed was → IsPruned path was left → IsFormed left
pruned_formed path was left formed p = record {
  paths = λ at is. formed.paths at (had at is).0;
  rooted = λ dir at below is.
      stays dir (formed.rooted dir at below (had at is).0) (false_from_ne_true (p.gone dir) (λ gone. both_ways (p.gone at) (had at is).1 (p.all_go at (goes_on dir at below (had at is).0 (p.goes dir gone)))));
  entries = λ at none. p.entries at ∙ elim (cases_Bool (was.nodes at)) [
    | inl is ↦ elim (cases_Bool (p.gone at)) [
      | inl gone ↦ ((p.goes at gone).alone at (within_itself at) is).1
      | inr kept ↦ absurd (both_ways (left.nodes at) none (stays at is kept))
    ]
    | inr not_there ↦ formed.entries at not_there
  ];
  sources = λ at none. p.sources at ∙ formed.sources at (sym (p.entries at) ∙ none);
  caches = λ at is.
      let parts = some_cache (p.gone at || p.stale at) (was.caches at) (sym (ap is_some (p.caches at)) ∙ is) in
      let was_so = formed.caches at parts.1 in
      (stays at was_so.0 (or_parts (p.gone at) (p.stale at) parts.0).0, p.entries at ∙ was_so.1);
}
  where
    had : (at : List ℕ) → left.nodes at ≡ true → (was.nodes at ≡ true) × (p.gone at ≡ false)
    had at is = let parts = and_parts (was.nodes at) (not (p.gone at)) (sym (p.nodes at) ∙ is) in (parts.0, not-true (p.gone at) parts.1)

    stays : (at : List ℕ) → was.nodes at ≡ true → p.gone at ≡ false → left.nodes at ≡ true
    stays at is kept = p.nodes at ∙ and_from (was.nodes at) (not (p.gone at)) is (not_from_false (p.gone at) kept)

    goes_on : (dir at : List ℕ) → is_below dir at ≡ true → was.nodes at ≡ true → IsPrunedAt path was dir → IsPrunedAt path was at
    goes_on dir at below is g = record {
      on_way = (g.alone at (within_below dir at below) is).0;
      alone = λ other way there. g.alone other (within_trans dir at other (within_below dir at below) way) there;
    }

-- ---- what goes of memory goes of the whole

cond_kept : {X : Type 0} (l g s : Bool) (i o : Option X) → (l ≡ true → (g ≡ false) × (s ≡ false)) → cond l i (cond (g || s) None o) ≡ cond (g || s) None (cond l i o)
cond_kept false g s i o h = refl
cond_kept true g s i o h = sym (ap (λ (b : Bool). cond (b || s) None i) (h refl).0 ∙ ap (λ (b : Bool). cond b None i) (h refl).1)

node_kept : (l g i o : Bool) → (l ≡ true → g ≡ false) → cond l i (o && not g) ≡ (cond l i o && not g)
node_kept false g i o h = refl
node_kept true g i o h = sym (ap (λ (b : Bool). i && not b) (h refl) ∙ and_true i)
  where
    and_true : (b : Bool) → (b && true) ≡ b
    and_true true = refl
    and_true false = refl

module _ (docket : Contents) (rows : List Row) (left : List (List ℕ × List Row)) (path : List ℕ) (free : IsFree left path) (own new : Table) (parted : IsParted docket rows left own)
    (p : IsPruned path (after_clear path own) new) where
  entry_here : (at : List ℕ) → covers left at ≡ false → (after_clear path (whole docket rows left own)).entries at ≡ (after_clear path own).entries at
  entry_here at not_covered = ap (cond (bytes_eq path at) None) (cond-false (covers left at) ((reading.table_of docket rows).entries at) (own.entries at) not_covered)

  own_here : (at : List ℕ) → covers left at ≡ false → (whole docket rows left own).nodes at ≡ true → own.nodes at ≡ true
  own_here at not_covered is = sym (own_node docket rows left own at not_covered) ∙ is

  in_whole : (at : List ℕ) → own.nodes at ≡ true → (whole docket rows left own).nodes at ≡ true
  in_whole at is = elim (cases_Bool (covers left at)) [
    | inl c ↦ cond-true (covers left at) ((reading.table_of docket rows).nodes at) (own.nodes at) c ∙ parted.known at is c
    | inr not_covered ↦ own_node docket rows left own at not_covered ∙ is
  ]

  -- what stands below a node that goes is in memory, and on the way to the path
  reach : (at : List ℕ) → IsPrunedAt path (after_clear path own) at → (n : ℕ) (x : List ℕ) → length x < n → is_within at x ≡ true → (whole docket rows left own).nodes x ≡ true
      → (covers left x ≡ false) × (is_within x path ≡ true)
  reach at g zero x more way is = absurd (omega arith)
  reach at g (suc n) x more way is = elim (within_split at x way) [
    | inl e ↦ (ap (covers left) e ∙ way_free left path free.above at g.on_way, ap (λ (p : List ℕ). is_within p path) e ∙ g.on_way)
    | inr under ↦
        let good = parted.formed.paths x is in
        let dir = below_has_parent at x good under in
        let shorter : length dir.0 < length x = parent_length dir.0 x dir.1 in
        let up : is_within at dir.0 ≡ true = elim (below_by_parent at dir.0 x good dir.1 under) [
          | inl e ↦ ap (is_within at) (sym e) ∙ within_itself at
          | inr above ↦ within_below at dir.0 above
        ] in
        let before = reach at g n dir.0 (omega (arith, shorter)) up (parted.formed.rooted dir.0 x (below_parent dir.0 x dir.1) is) in
        let not_covered = kid_free left path free dir.0 x before.1 good dir.1 in
        (not_covered, (g.alone x way (own_here x not_covered is)).0)
  ]

  goes_whole : (at : List ℕ) → IsPrunedAt path (after_clear path own) at → IsPrunedAt path (after_clear path (whole docket rows left own)) at
  goes_whole at g = record {
    on_way = g.on_way;
    alone = λ other way is.
        let reached = reach at g (suc (length other)) other (omega arith) way is in
        (reached.1, entry_here other reached.0 ∙ (g.alone other way (own_here other reached.0 is)).1);
  }

  goes_own : (at : List ℕ) → IsPrunedAt path (after_clear path (whole docket rows left own)) at → IsPrunedAt path (after_clear path own) at
  goes_own at g = record {
    on_way = g.on_way;
    alone = λ other way is.
        let more = g.alone other way (in_whole other is) in (more.0, sym (entry_here other (way_free left path free.above other more.0)) ∙ more.1);
  }

  gone_not : (at : List ℕ) → covers left at ≡ true → p.gone at ≡ false
  gone_not at c = false_from_ne_true (p.gone at) (λ gone. both_ways (covers left at) (way_free left path free.above at (p.goes at gone).on_way) c)

  stale_not : (at : List ℕ) → covers left at ≡ true → p.stale at ≡ false
  stale_not at c = false_from_ne_true (p.stale at) (λ stale.
      let kid = p.is_stale at stale in
      both_ways (covers left at) (way_free left path free.above at (within_trans at kid.0 path (within_below at kid.0 (below_parent at kid.0 kid.2)) (p.goes kid.0 kid.1).on_way)) c)

  pub pruned_merged : IsPruned path (after_clear path (whole docket rows left own)) (whole docket rows left new)
  pruned_merged = record {
    gone = p.gone;
    stale = p.stale;
    goes = λ at gone. goes_whole at (p.goes at gone);
    all_go = λ at g. p.all_go at (goes_own at g);
    is_stale = p.is_stale;
    all_stale = p.all_stale;
    p1 = p.p1;
    p2 = p.p2;
    hash = p.hash;
    entries = λ at.
        ap (cond (covers left at) ((reading.table_of docket rows).entries at)) (p.entries at)
        ∙ update_merged (covers left) (reading.table_of docket rows) own new path (way_free left path free.above) (reading.table_of docket rows).entries own.entries None at;
    sources = λ at.
        ap (cond (covers left at) ((reading.table_of docket rows).sources at)) (p.sources at)
        ∙ update_merged (covers left) (reading.table_of docket rows) own new path (way_free left path free.above) (reading.table_of docket rows).sources own.sources None at;
    nodes = λ at.
        ap (cond (covers left at) ((reading.table_of docket rows).nodes at)) (p.nodes at)
        ∙ node_kept (covers left at) (p.gone at) ((reading.table_of docket rows).nodes at) (own.nodes at) (gone_not at);
    caches = λ at.
        ap (cond (covers left at) ((reading.table_of docket rows).caches at)) (p.caches at)
        ∙ cond_kept (covers left at) (p.gone at) (p.stale at) ((reading.table_of docket rows).caches at) (own.caches at) (λ c. (gone_not at c, stale_not at c));
  }

  pub pruned_parted : IsParted docket rows left new
  pruned_parted = parted_kept docket rows left own new parted (λ at is. (and_parts (own.nodes at) (not (p.gone at)) (sym (p.nodes at) ∙ is)).0)
      (pruned_formed path (after_clear path (whole docket rows left own)) (whole docket rows left new) (cleared_formed path (whole docket rows left own) parted.formed) pruned_merged)

-- ---- after lists were taken

-- what is left after one table is left after the same
pruned_on : (path : List ℕ) (a b left : Table) → IsSame a b → IsPruned path (after_clear path a) left → IsPruned path (after_clear path b) left
pruned_on path a b left same p =
    alike_pruned path (after_clear path a) (after_clear path b) left left
    (record {
      entries = λ at. ap (cond (bytes_eq path at) None) (same.entries at);
      sources = λ at. ap (cond (bytes_eq path at) None) (same.sources at);
      nodes = same.nodes;
      caches = same.caches;
    })
    (record { entries = λ at. refl; sources = λ at. refl; nodes = λ at. refl; caches = λ at. refl }) (p.p1 ∙ same.p1) (p.p2 ∙ same.p2) (p.hash ∙ same.hash) p

module _ (docket : Contents) (rows : List Row) (first left : List (List ℕ × List Row)) (was own new : InMemory) (moved : IsMoved docket rows first was left own) (path : List ℕ) (free : IsFree left path)
    (p : IsPruned path (after_clear path (memory_table own)) (memory_table new)) where
  pub drop_table : IsPruned path (after_clear path (whole docket rows first (memory_table was))) (whole docket rows left (memory_table new))
  drop_table =
      pruned_on path (whole docket rows left (memory_table own)) (whole docket rows first (memory_table was)) (whole docket rows left (memory_table new)) moved.same
      (pruned_merged docket rows left path free (memory_table own) (memory_table new) moved.parted p)

  pub drop_parted : IsParted docket rows left (memory_table new)
  drop_parted = pruned_parted docket rows left path free (memory_table own) (memory_table new) moved.parted p

-- of a table that is opened
pub drop_of : (old was : Held) → was ≡ old → (path : List ℕ) (new : Table) → IsPruned path (after_clear path (table was)) new → IsPruned path (after_clear path (table old)) new
drop_of old was same path new = subst (λ (h : Held). IsPruned path (after_clear path (table h)) new) same
