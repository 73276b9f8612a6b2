-- A target is tracked as a copy.
use Rattle.std.proofs.Common.{ℕ, ◌≡◌, Bool, true, false, cond, not, ◌&&◌, ◌||◌, List, Option, Some, None, Result, Ok, Err, refl, sym, ap, ◌∙◌, subst, true≢false, inl, inr}
use Rattle.std.specs.Prelude.{IfOk, IfSome, OnErr, OnOk, option_map}
use Rattle.std.specs.Str.{bytes_eq}
use Rattle.std.proofs.lemmas.Bool.{cond-false}
use Rattle.hg_base.proofs.Within.{same_bytes}
use Rattle.hg_base.specs.Within.{is_above, is_within}
use Rattle.hg_entry.specs.Entry.{EntryData}
use Rattle.hg_entry.specs.Table.{Table}
use Rattle.hg_nodes.specs.Clash.{is_tracked_entry}
use Rattle.hg_mixed.specs.Edits.{ArePlacedAsBefore, EndsAbove, IsUnchanged, Lends, PlacesCopy}
use Rattle.hg_nodes.specs.Edits.{IsFormed, IsSame, Marks, after_copy}
use Rattle.hg_mixed.specs.Held.{Held, is_lent, table}
use Rattle.hg_nodes.specs.Shown.{shown_in}
use Rattle.hg_nodes.proofs.Edited.{same_trans}
use Rattle.hg_mixed.proofs.Lifted.{same_back}
use Rattle.hg_ops.specs.Copy.{LeavesOrAdds, PlacesCopied, copied, copy_source, origin, unless_at}
use Rattle.hg_ops.specs.Copying.{LeavesTable, Tables, origin_shown}
use Rattle.hg_ops.specs.Step.{added, after_add, entry_added, is_tracked}
use Rattle.hg_ops.specs.declared.copy_refusal.CopyRefusal.{CopyRefusal}
use Rattle.hg_ops.specs.declared.refusal.OpFault.{OpFault}
use Rattle.hg_ops.proofs.Forgotten.{there}

added_tracked : (entry : Option EntryData) → (entry_added entry).w ≡ true
added_tracked None = refl
added_tracked (Some entry) = refl

stable : (a b : Bool) → ((a ≡ b → ⊥) → ⊥) → a ≡ b
stable true true h = refl
stable false false h = refl
stable true false h = absurd (h (λ e. true≢false e))
stable false true h = absurd (h (λ e. true≢false (sym e)))

twice_off : (l a : Bool) → ((l && not a) && not a) ≡ (l && not a)
twice_off true true = refl
twice_off true false = refl
twice_off false a = refl

-- a source that is there is written again
written_again : (b : Bool) (source other : Option (List ℕ)) → (b ≡ true → other ≡ source) → cond b source other ≡ other
written_again true source other h = sym (h refl)
written_again false source other h = refl

module _ (from to : List ℕ) (old mid new : Held) (untracked : is_tracked (table old) to ≡ false) (source : Option (List ℕ)) (is : source ≡ copy_source from to (table old))
    (set : IsSame (table mid) (added to None (table old))) where
  pub set_is : IsSame (table mid) (after_add to (table old))
  set_is = subst (λ (b : Bool). IsSame (table mid) (cond b (table old) (after_add to (table old)))) untracked set

  mid_tracked : is_tracked (table mid) to ≡ true
  mid_tracked = ap is_tracked_entry (set_is.entries to ∙ there to (Some (entry_added ((table old).entries to))) ((table old).entries to)) ∙ added_tracked ((table old).entries to)

  other_mid : IsSame (table mid) (table old) → ⊥
  other_mid same = true≢false (sym mid_tracked ∙ ap is_tracked_entry (same.entries to) ∙ untracked)

  module _ (copies : IsSame (table new) (after_copy to source (table mid))) where
    other_new : IsSame (table new) (table old) → ⊥
    other_new same = true≢false (sym mid_tracked ∙ ap is_tracked_entry (sym (copies.entries to)) ∙ ap is_tracked_entry (same.entries to) ∙ untracked)

    is_copied : IsSame (table new) (copied from to None (table old))
    is_copied = record {
      p1 = copies.p1 ∙ set_is.p1;
      p2 = copies.p2 ∙ set_is.p2;
      hash = copies.hash ∙ set_is.hash;
      entries = λ at. copies.entries at ∙ set_is.entries at;
      sources = λ at. copies.sources at ∙ ap (λ (s : Option (List ℕ)). cond (bytes_eq to at) s ((table mid).sources at)) is ∙ ap (cond (bytes_eq to at) (copy_source from to (table old))) (set_is.sources at);
      nodes = λ at. copies.nodes at ∙ set_is.nodes at;
      caches = λ at. copies.caches at ∙ set_is.caches at;
    }

    -- the source is written as it was, or is another
    same_source : (table old).sources to ≡ copy_source from to (table old) → IsSame (table new) (table mid)
    same_source had = record {
      p1 = copies.p1;
      p2 = copies.p2;
      hash = copies.hash;
      entries = copies.entries;
      sources = λ at.
          copies.sources at
          ∙ written_again (bytes_eq to at) source ((table mid).sources at) (λ here. ap (table mid).sources (sym (same_bytes to at here)) ∙ set_is.sources to ∙ had ∙ sym is);
      nodes = copies.nodes;
      caches = copies.caches;
    }

    other_source : ((table old).sources to ≡ copy_source from to (table old) → ⊥) → IsSame (table new) (table mid) → ⊥
    other_source other same = other (sym (set_is.sources to) ∙ sym (same.sources to) ∙ copies.sources to ∙ there to source ((table mid).sources to) ∙ is)

    marked : (was now : Bool) → Marks (IsSame (table new) (table mid)) was now → was ≡ true → now ≡ true
    marked was now marks set = stable now true (λ not_set. not_set (marks.marked (λ same. not_set (marks.kept same ∙ set))))

    ends : EndsAbove to old mid → Lends to (IsSame (table new) (table mid)) mid new → EndsAbove to old new
    ends first second dir = stable (is_lent new dir) (is_lent old dir && not (is_above dir to)) (λ differs.
        differs (
        second.ended (λ same. differs (second.kept same dir ∙ first dir)) dir
        ∙ ap (λ (b : Bool). b && not (is_above dir to)) (first dir)
        ∙ twice_off (is_lent old dir) (is_above dir to)
        ))

    pub tracked_copy : Marks (IsSame (table mid) (table old)) old.changed mid.changed → Lends to (IsSame (table mid) (table old)) old mid → ArePlacedAsBefore old mid
        → Marks (IsSame (table new) (table mid)) mid.changed new.changed → Lends to (IsSame (table new) (table mid)) mid new → PlacesCopy to (IsSame (table new) (table mid)) mid new
        → LeavesTable from to old new None
    tracked_copy marks lent places marks_now lent_now places_now = record {
      made = is_copied;
      unchanged = tt;
      changed = record { kept = λ same. absurd (other_new same); marked = λ differs. marked mid.changed new.changed marks_now (marks.marked other_mid) };
      lent = record { kept = λ same. absurd (other_new same); ended = λ differs. ends (lent.ended other_mid) lent_now };
      places = record {
        texts = λ at. places_now.texts at ∙ places.texts at;
        kept = λ had at. places_now.kept (same_source had) at ∙ places.sources at;
        changed = λ other at. places_now.changed (other_source other) at ∙ ap (cond (bytes_eq to at) None) (places.sources at);
      };
    }

  pub tracked_only : IsUnchanged mid new → LeavesOrAdds to (table old) (table new)
  tracked_only kept = inr (same_trans (table new) (table mid) (after_add to (table old)) kept.table set_is)

-- ---- the copy source

origin_by : (from : List ℕ) (entry : Option EntryData) (source : Option (List ℕ)) → (entry ≡ None → source ≡ None) → origin_shown from (option_map (λ e. (e, source)) entry) ≡ origin from entry source
origin_by from None source none = sym (ap (origin from None) (none refl))
origin_by from (Some entry) source none = refl

pub source_copied : (from to : List ℕ) (t : Table) (source : List ℕ) (shown : Option (EntryData × Option (List ℕ))) → Some source ≡ origin_shown from shown → shown ≡ shown_in t from → IsFormed t
    → bytes_eq source to ≡ false → Some source ≡ copy_source from to t
source_copied from to t source shown is item formed apart =
    sym (
    ap (unless_at to) (sym (is ∙ ap (origin_shown from) item ∙ origin_by from (t.entries from) (t.sources from) (formed.sources from)))
    ∙ cond-false (bytes_eq source to) None (Some source) apart
    )

-- ---- over a table that says the same

pub source_on : (from to : List ℕ) (a b : Table) → IsSame a b → copy_source from to a ≡ copy_source from to b
source_on from to a b same =
    ap (λ (e : Option EntryData). unless_at to (origin from e (a.sources from))) (same.entries from)
    ∙ ap (λ (s : Option (List ℕ)). unless_at to (origin from (b.entries from) s)) (same.sources from)

same_copied : (from to : List ℕ) (a b : Table) (refused : Option CopyRefusal) → IsSame a b → IsSame (copied from to refused a) (copied from to refused b)
same_copied from to a b (Some refusal) same = same
same_copied from to a b None same = record {
  p1 = same.p1;
  p2 = same.p2;
  hash = same.hash;
  entries = λ at. ap (λ (o : Option EntryData). cond (bytes_eq to at) (Some (entry_added o)) (a.entries at)) (same.entries to) ∙ ap (cond (bytes_eq to at) (Some (entry_added (b.entries to)))) (same.entries at);
  sources = λ at. ap (λ (s : Option (List ℕ)). cond (bytes_eq to at) s (a.sources at)) (source_on from to a b same) ∙ ap (cond (bytes_eq to at) (copy_source from to b)) (same.sources at);
  nodes = λ at. ap (λ (n : Bool). n || is_within at to) (same.nodes at);
  caches = λ at. ap (cond (bytes_eq to at) None) (same.caches at);
}

same_added : (to : List ℕ) (a b : Table) → IsSame a b → IsSame (after_add to a) (after_add to b)
same_added to a b same = record {
  p1 = same.p1;
  p2 = same.p2;
  hash = same.hash;
  entries = λ at. ap (λ (o : Option EntryData). cond (bytes_eq to at) (Some (entry_added o)) (a.entries at)) (same.entries to) ∙ ap (cond (bytes_eq to at) (Some (entry_added (b.entries to)))) (same.entries at);
  sources = same.sources;
  nodes = λ at. ap (λ (n : Bool). n || is_within at to) (same.nodes at);
  caches = λ at. ap (cond (bytes_eq to at) None) (same.caches at);
}

module _ (from to : List ℕ) (old mid new : Held) (kept : IsUnchanged old mid) where
  back : IsSame (table new) (table old) → IsSame (table new) (table mid)
  back same = same_trans (table new) (table old) (table mid) same (same_back (table mid) (table old) kept.table)

  forth : IsSame (table new) (table mid) → IsSame (table new) (table old)
  forth same = same_trans (table new) (table mid) (table old) same kept.table

  pub unchanged_trans : IsUnchanged mid new → IsUnchanged old new
  unchanged_trans more = record {
    table = forth more.table;
    changed = more.changed ∙ kept.changed;
    lent = λ dir. more.lent dir ∙ kept.lent dir;
    places = record { texts = λ at. more.places.texts at ∙ kept.places.texts at; sources = λ at. more.places.sources at ∙ kept.places.sources at };
    image = record { docket = more.image.docket ∙ kept.image.docket; bytes = more.image.bytes ∙ kept.image.bytes };
  }

  places_on : (refused : Option CopyRefusal) → PlacesCopied from to refused mid new → PlacesCopied from to refused old new
  places_on (Some refusal) places = record { texts = λ at. places.texts at ∙ kept.places.texts at; sources = λ at. places.sources at ∙ kept.places.sources at }
  places_on None places = record {
    texts = λ at. places.texts at ∙ kept.places.texts at;
    kept = λ had at. places.kept (kept.table.sources to ∙ had ∙ sym (source_on from to (table mid) (table old) kept.table)) at ∙ kept.places.sources at;
    changed = λ other at.
        places.changed (λ had. other (sym (kept.table.sources to) ∙ had ∙ source_on from to (table mid) (table old) kept.table)) at ∙ ap (cond (bytes_eq to at) None) (kept.places.sources at);
  }

  unchanged_on : (refused : Option CopyRefusal) → IfSome refused (λ refusal. IsUnchanged mid new) → IfSome refused (λ refusal. IsUnchanged old new)
  unchanged_on None more = tt
  unchanged_on (Some refusal) more = unchanged_trans more

  pub tables_on : (result : Result (Option CopyRefusal) OpFault) → Tables from to mid new result → Tables from to old new result
  tables_on (Ok refused) left = record {
    made = same_trans (table new) (copied from to refused (table mid)) (copied from to refused (table old)) left.made (same_copied from to (table mid) (table old) refused kept.table);
    unchanged = unchanged_on refused left.unchanged;
    changed = record { kept = λ same. left.changed.kept (back same) ∙ kept.changed; marked = λ differs. left.changed.marked (λ same. differs (forth same)) };
    lent = record {
      kept = λ same dir. left.lent.kept (back same) dir ∙ kept.lent dir;
      ended = λ differs dir. left.lent.ended (λ same. differs (forth same)) dir ∙ ap (λ (b : Bool). b && not (is_above dir to)) (kept.lent dir);
    };
    places = places_on refused left.places;
  }
  tables_on (Err fault) (inl same) = inl (forth same)
  tables_on (Err fault) (inr same) = inr (same_trans (table new) (after_add to (table mid)) (after_add to (table old)) same (same_added to (table mid) (table old) kept.table))

-- ---- where nothing was done

same_table : (t : Table) → IsSame t t
same_table t = record { p1 = refl; p2 = refl; hash = refl; entries = λ at. refl; sources = λ at. refl; nodes = λ at. refl; caches = λ at. refl }

pub tables_refused : (from to : List ℕ) (old new : Held) (refusal : CopyRefusal) → IsUnchanged old new → LeavesTable from to old new (Some refusal)
tables_refused from to old new refusal kept = record {
  made = kept.table;
  unchanged = kept;
  changed = record { kept = λ same. kept.changed; marked = λ differs. absurd (differs kept.table) };
  lent = record { kept = λ same. kept.lent; ended = λ differs. absurd (differs kept.table) };
  places = kept.places;
}

pub unchanged_itself : (held : Held) → IsUnchanged held held
unchanged_itself held = record {
  table = same_table (table held);
  changed = refl;
  lent = λ dir. refl;
  places = record { texts = λ at. refl; sources = λ at. refl };
  image = record { docket = refl; bytes = refl };
}

-- ---- what is told of a table

module _ (from to : List ℕ) (old new : Held) where
  pub told_unchanged : (result : Result (Option CopyRefusal) OpFault) → Tables from to old new result → IfOk result (λ refused. IfSome refused (λ refusal. IsUnchanged old new))
  told_unchanged (Ok refused) left = left.unchanged
  told_unchanged (Err fault) left = tt

  pub told_changed : (result : Result (Option CopyRefusal) OpFault) → Tables from to old new result → OnOk result (Marks (IsSame (table new) (table old)) old.changed new.changed)
  told_changed (Ok refused) left = left.changed
  told_changed (Err fault) left = tt

  pub told_lent : (result : Result (Option CopyRefusal) OpFault) → Tables from to old new result → OnOk result (Lends to (IsSame (table new) (table old)) old new)
  told_lent (Ok refused) left = left.lent
  told_lent (Err fault) left = tt

  pub told_places : (result : Result (Option CopyRefusal) OpFault) → Tables from to old new result → IfOk result (λ refused. PlacesCopied from to refused old new)
  told_places (Ok refused) left = left.places
  told_places (Err fault) left = tt

  pub told_err : (result : Result (Option CopyRefusal) OpFault) → Tables from to old new result → OnErr result (LeavesOrAdds to (table old) (table new))
  told_err (Ok refused) left = tt
  told_err (Err fault) left = left
