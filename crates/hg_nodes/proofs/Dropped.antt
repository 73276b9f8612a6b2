-- An entry is dropped with what goes with it.
use Rattle.std.proofs.Common.{ℕ, ◌≡◌, Bool, true, false, not, cond, ◌&&◌, ◌||◌, List, Option, Some, None, refl, sym, ap, ◌∙◌, subst}
use Rattle.std.specs.Prelude.{is_some}
use Rattle.std.specs.Str.{bytes_eq}
use Rattle.hg_base.proofs.Within.{same_bytes}
use Rattle.hg_entry.specs.Entry.{CacheData, EntryData}
use Rattle.hg_entry.specs.Table.{Table}
use Rattle.hg_nodes.specs.Drop.{IsPrunedAt, IsPruned, after_clear, bare}
use Rattle.hg_nodes.specs.Edits.{IsFormed, IsSame}
use Rattle.hg_nodes.specs.Memory.{table_of, AreCleared, MemoryData, table_in}
use Rattle.hg_nodes.specs.Node.{IsPut, NodeData, cleared, entry_in, node_at, source_in}
use Rattle.hg_nodes.proofs.Edited.{entry_node}

-- two tables with the same nodes, entries, sources and caches
pub record AreAlike (a b : Table) : Type 0 where
  pub entries : (at : List ℕ) → a.entries at ≡ b.entries at
  pub sources : (at : List ℕ) → a.sources at ≡ b.sources at
  pub nodes : (at : List ℕ) → a.nodes at ≡ b.nodes at
  pub caches : (at : List ℕ) → a.caches at ≡ b.caches at

alike_goes : (path : List ℕ) (a b : Table) → AreAlike a b → (at : List ℕ) → IsPrunedAt path a at → IsPrunedAt path b at
alike_goes path a b alike at g = record {
  on_way = g.on_way;
  alone = λ other way is. let more = g.alone other way (alike.nodes other ∙ is) in (more.0, sym (alike.entries other) ∙ more.1);
}

alike_back : (a b : Table) → AreAlike a b → AreAlike b a
alike_back a b alike = record {
  entries = λ at. sym (alike.entries at);
  sources = λ at. sym (alike.sources at);
  nodes = λ at. sym (alike.nodes at);
  caches = λ at. sym (alike.caches at);
}

-- what is left of one is left of the other
pub alike_pruned : (path : List ℕ) (a b left end : Table) → AreAlike a b → AreAlike left end → end.p1 ≡ b.p1 → end.p2 ≡ b.p2 → end.hash ≡ b.hash → IsPruned path a left → IsPruned path b end
alike_pruned path a b left end alike ends p1 p2 hash p = record {
  gone = p.gone;
  stale = p.stale;
  goes = λ at h. alike_goes path a b alike at (p.goes at h);
  all_go = λ at g. p.all_go at (alike_goes path b a (alike_back a b alike) at g);
  is_stale = p.is_stale;
  all_stale = p.all_stale;
  p1 = p1;
  p2 = p2;
  hash = hash;
  entries = λ at. sym (ends.entries at) ∙ p.entries at ∙ alike.entries at;
  sources = λ at. sym (ends.sources at) ∙ p.sources at ∙ alike.sources at;
  nodes = λ at. sym (ends.nodes at) ∙ p.nodes at ∙ ap (λ (b : Bool). b && not (p.gone at)) (alike.nodes at);
  caches = λ at. sym (ends.caches at) ∙ p.caches at ∙ ap (cond (p.gone at || p.stale at) None) (alike.caches at);
}

entry_clear : (b : Bool) (first o : Option NodeData) → entry_in (cond b (Some (cleared first)) o) ≡ cond b None (entry_in o)
entry_clear true first o = refl
entry_clear false first o = refl

source_clear : (b : Bool) (first o : Option NodeData) → source_in (cond b (Some (cleared first)) o) ≡ cond b None (source_in o)
source_clear true first o = refl
source_clear false first o = refl

node_clear : (b : Bool) (first o : Option NodeData) → (b ≡ true → is_some o ≡ true) → is_some (cond b (Some (cleared first)) o) ≡ is_some o
node_clear true first o is = sym (is refl)
node_clear false first o is = refl

none_or : {X : Type 0} (b : Bool) (o : Option X) → o ≡ None → cond b None o ≡ None
none_or true o h = refl
none_or false o h = h

none_of_entry : (b : Bool) (entry : Option EntryData) (source : Option (List ℕ)) → (entry ≡ None → source ≡ None) → cond b None entry ≡ None → cond b None source ≡ None
none_of_entry true entry source h none = refl
none_of_entry false entry source h none = h none

module _ (path : List ℕ) (was old : MemoryData) (same : was ≡ old) (mid : List (List ℕ × NodeData)) (put : IsPut path (Some (cleared (node_at was.rows path))) was.rows mid) (some : is_some (entry_in (node_at old.rows path)) ≡ true) where
  some_was : is_some (entry_in (node_at was.rows path)) ≡ true
  some_was = ap (λ (h : MemoryData). is_some (entry_in (node_at h.rows path))) same ∙ some

  clear_alike : AreAlike (bare mid was.times) (after_clear path (table_in was))
  clear_alike = record {
    entries = λ at. ap entry_in (put at) ∙ entry_clear (bytes_eq path at) (node_at was.rows path) (node_at was.rows at);
    sources = λ at. ap source_in (put at) ∙ source_clear (bytes_eq path at) (node_at was.rows path) (node_at was.rows at);
    nodes = λ at.
        ap is_some (put at)
        ∙ node_clear (bytes_eq path at) (node_at was.rows path) (node_at was.rows at)
        (λ h. ap (λ (p : List ℕ). is_some (node_at was.rows p)) (sym (same_bytes path at h)) ∙ entry_node (node_at was.rows path) some_was);
    caches = λ at. refl;
  }

  pub clear_formed : IsFormed (table_in was) → IsFormed (bare mid was.times)
  clear_formed formed = record {
    paths = λ at is. formed.paths at (sym (clear_alike.nodes at) ∙ is);
    rooted = λ dir at below is. clear_alike.nodes dir ∙ formed.rooted dir at below (sym (clear_alike.nodes at) ∙ is);
    entries = λ at none. clear_alike.entries at ∙ none_or (bytes_eq path at) ((table_in was).entries at) (formed.entries at (sym (clear_alike.nodes at) ∙ none));
    sources = λ at none.
        clear_alike.sources at
        ∙ none_of_entry (bytes_eq path at) ((table_in was).entries at) ((table_in was).sources at) (formed.sources at) (sym (clear_alike.entries at) ∙ none);
    caches = λ at is.
        let had = formed.caches at is in (clear_alike.nodes at ∙ had.0, clear_alike.entries at ∙ none_or (bytes_eq path at) ((table_in was).entries at) had.1);
  }

  pub clear_pruned : (left : List (List ℕ × NodeData)) (times : List (List ℕ × CacheData)) → IsPruned path (bare mid was.times) (bare left times)
      → IsPruned path (after_clear path (table_in old)) (table_of was.p1 was.p2 was.hash left times)
  clear_pruned left times p = subst (λ (h : MemoryData). IsPruned path (after_clear path (table_in h)) (table_of was.p1 was.p2 was.hash left times)) same
      (alike_pruned path (bare mid was.times) (after_clear path (table_in was)) (bare left times) (table_of was.p1 was.p2 was.hash left times) clear_alike
      (record { entries = λ at. refl; sources = λ at. refl; nodes = λ at. refl; caches = λ at. refl }) refl refl refl p)

-- of a node that was cleared what is there still
pub clear_nodes : (path : List ℕ) (was old : MemoryData) → was ≡ old → (mid : List (List ℕ × NodeData)) → IsPut path (Some (cleared (node_at was.rows path))) was.rows mid → (left : List (List ℕ × NodeData))
    → ((at : List ℕ) → is_some (node_at left at) ≡ true → node_at left at ≡ node_at mid at) → AreCleared path old.rows left
clear_nodes path was old same mid put left kept = subst (λ (h : MemoryData). AreCleared path h.rows left) same (λ at is. kept at is ∙ put at)

-- ---- the law: the conditions fix what is left

test_same : (a b : Bool) → (a ≡ true → b ≡ true) → (b ≡ true → a ≡ true) → a ≡ b
test_same true b there back = sym (there refl)
test_same false true there back = back refl
test_same false false there back = refl

pub pruned_one : (path : List ℕ) (was a b : Table) → IsPruned path was a → IsPruned path was b → IsSame a b
pruned_one path was a b p q =
    let gone : (at : List ℕ) → p.gone at ≡ q.gone at = λ at. test_same (p.gone at) (q.gone at) (λ h. q.all_go at (p.goes at h)) (λ h. p.all_go at (q.goes at h)) in
    let stale : (at : List ℕ) → p.stale at ≡ q.stale at = λ dir. test_same (p.stale dir) (q.stale dir)
    (λ h. let f = p.is_stale dir h in q.all_stale dir f.0 (sym (gone f.0) ∙ f.1) f.2)
    (λ h. let f = q.is_stale dir h in p.all_stale dir f.0 (gone f.0 ∙ f.1) f.2) in
    record {
      p1 = p.p1 ∙ sym q.p1;
      p2 = p.p2 ∙ sym q.p2;
      hash = p.hash ∙ sym q.hash;
      entries = λ at. p.entries at ∙ sym (q.entries at);
      sources = λ at. p.sources at ∙ sym (q.sources at);
      nodes = λ at. p.nodes at ∙ ap (λ (b : Bool). was.nodes at && not b) (gone at) ∙ sym (q.nodes at);
      caches = λ at.
          p.caches at
          ∙ ap (λ (b : Bool). cond (b || p.stale at) None (was.caches at)) (gone at)
          ∙ ap (λ (b : Bool). cond (q.gone at || b) None (was.caches at)) (stale at)
          ∙ sym (q.caches at);
    }
