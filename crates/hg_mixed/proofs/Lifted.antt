-- An edit of what is in memory is that edit of the table, where its path is in memory.
use Rattle.std.proofs.Common.{ℕ, ◌≡◌, Bool, true, false, cond, ◌||◌, ◌⊎◌, inl, inr, List, Option, Some, None, refl, sym, ap, ◌∙◌, subst, true≢false}
use Rattle.std.specs.Prelude.{is_some, Result, Ok, Err, OnOk, OnErr}
use Rattle.std.specs.Map.{update}
use Rattle.std.specs.Str.{bytes_eq}
use Rattle.std.proofs.lemmas.Bool.{cases_Bool, cond-true, cond-false, both_ways, false_from_ne_true}
use Rattle.hg_base.specs.PathText.{is_path}
use Rattle.hg_base.specs.Within.{is_within}
use Rattle.hg_base.proofs.Children.{below_parent}
use Rattle.hg_base.proofs.Within.{same_bytes, within_below, within_itself, within_trans}
use Rattle.hg_docket.specs.Docket.{Contents}
use Rattle.hg_entry.specs.Entry.{CacheData, EntryData}
use Rattle.hg_entry.specs.Table.{Table}
use Rattle.hg_image.specs.Reading as reading
use Rattle.hg_image.specs.Rows.{Row}
use Rattle.hg_mixed.specs.Edits.{IsUnchanged}
use Rattle.hg_nodes.specs.Edits.{IsFormed, IsSame, Marks, after_cache, after_copy, after_hash, after_ids, after_no_caches, after_set}
use Rattle.hg_mixed.specs.Held.{Held, is_lent, merged, node_in, table}
use Rattle.hg_mixed.specs.Lent.{covers}
use Rattle.hg_mixed.specs.Own.{InMemory, memory_table}
use Rattle.hg_nodes.specs.Node.{source_text_in, text_in}
use Rattle.hg_mixed.specs.Parted.{IsMoved, IsParted, whole}
use Rattle.hg_mixed.proofs.Covered.{way_free}
use Rattle.hg_nodes.proofs.Edited.{formed_copy, formed_set, same_trans}

-- ---- tables that say the same

pub same_itself : (a : Table) → IsSame a a
same_itself a = record { p1 = refl; p2 = refl; hash = refl; entries = λ at. refl; sources = λ at. refl; nodes = λ at. refl; caches = λ at. refl }

pub same_back : (a b : Table) → IsSame a b → IsSame b a
same_back a b same = record {
  p1 = sym same.p1;
  p2 = sym same.p2;
  hash = sym same.hash;
  entries = λ at. sym (same.entries at);
  sources = λ at. sym (same.sources at);
  nodes = λ at. sym (same.nodes at);
  caches = λ at. sym (same.caches at);
}

pub formed_same : (a b : Table) → IsSame a b → IsFormed b → IsFormed a
formed_same a b same formed = record {
  paths = λ at is. formed.paths at (sym (same.nodes at) ∙ is);
  rooted = λ dir at below is. same.nodes dir ∙ formed.rooted dir at below (sym (same.nodes at) ∙ is);
  entries = λ at none. same.entries at ∙ formed.entries at (sym (same.nodes at) ∙ none);
  sources = λ at none. same.sources at ∙ formed.sources at (sym (same.entries at) ∙ none);
  caches = λ at is. let had = formed.caches at (sym (ap is_some (same.caches at)) ∙ is) in (same.nodes at ∙ had.0, same.entries at ∙ had.1);
}

-- an edit of the same is the same
module _ (a b : Table) (same : IsSame a b) where
  pub set_on : (path : List ℕ) (entry : EntryData) → IsSame (after_set path entry a) (after_set path entry b)
  set_on path entry = record {
    p1 = same.p1;
    p2 = same.p2;
    hash = same.hash;
    entries = λ at. ap (cond (bytes_eq path at) (Some entry)) (same.entries at);
    sources = same.sources;
    nodes = λ at. ap (λ (b : Bool). b || is_within at path) (same.nodes at);
    caches = λ at. ap (cond (bytes_eq path at) None) (same.caches at);
  }

  pub copy_on : (path : List ℕ) (source : Option (List ℕ)) → IsSame (after_copy path source a) (after_copy path source b)
  copy_on path source = record {
    p1 = same.p1;
    p2 = same.p2;
    hash = same.hash;
    entries = same.entries;
    sources = λ at. ap (cond (bytes_eq path at) source) (same.sources at);
    nodes = same.nodes;
    caches = same.caches;
  }

  pub cache_on : (dir : List ℕ) (time : Option CacheData) → IsSame (after_cache dir time a) (after_cache dir time b)
  cache_on dir time = record {
    p1 = same.p1;
    p2 = same.p2;
    hash = same.hash;
    entries = same.entries;
    sources = same.sources;
    nodes = same.nodes;
    caches = λ at. ap (cond (bytes_eq dir at) time) (same.caches at);
  }

  pub no_caches_on : IsSame (after_no_caches a) (after_no_caches b)
  no_caches_on = record { p1 = same.p1; p2 = same.p2; hash = same.hash; entries = same.entries; sources = same.sources; nodes = same.nodes; caches = λ at. refl }

-- ---- formed tables stay so

pub formed_cache : (dir : List ℕ) (time : Option CacheData) (old new : Table) → IsFormed old → old.nodes dir ≡ true → old.entries dir ≡ None → IsSame new (after_cache dir time old) → IsFormed new
formed_cache dir time old new formed node none same = formed_same new (after_cache dir time old) same (record {
  paths = formed.paths;
  rooted = formed.rooted;
  entries = formed.entries;
  sources = formed.sources;
  caches = λ at is. elim (cases_Bool (bytes_eq dir at)) [
    | inl here ↦ (sym (ap old.nodes (same_bytes dir at here)) ∙ node, sym (ap old.entries (same_bytes dir at here)) ∙ none)
    | inr other ↦ formed.caches at (sym (ap is_some (cond-false (bytes_eq dir at) time (old.caches at) other)) ∙ is)
  ];
})

formed_no_caches : (old new : Table) → IsFormed old → IsSame new (after_no_caches old) → IsFormed new
formed_no_caches old new formed same = formed_same new (after_no_caches old) same (record {
  paths = formed.paths;
  rooted = formed.rooted;
  entries = formed.entries;
  sources = formed.sources;
  caches = λ at is. absurd (true≢false (sym is));
})

-- ---- what a call answers

pub ok_both : {T E P Q R : Type 0} (r : Result T E) → (P → Q → R) → OnOk r P → OnOk r Q → OnOk r R
ok_both (Ok t) f p q = f p q
ok_both (Err e) f p q = p

pub ok_three : {T E P Q R S : Type 0} (r : Result T E) → (P → Q → R → S) → OnOk r P → OnOk r Q → OnOk r R → OnOk r S
ok_three (Ok t) f p q s = f p q s
ok_three (Err e) f p q s = p

pub ok_or_err : {T E P Q R : Type 0} (r : Result T E) → (P → R) → (Q → R) → OnOk r P → OnErr r Q → R
ok_or_err (Ok t) f g p q = f p
ok_or_err (Err e) f g p q = g q

pub ok_always : {T E P : Type 0} (r : Result T E) → P → OnOk r P
ok_always (Ok t) p = p
ok_always (Err e) p = tt

-- ---- marks

pub marks_moved : (new mid old : Table) (was before now : Bool) → IsSame mid old → was ≡ before → Marks (IsSame new mid) was now → Marks (IsSame new old) before now
marks_moved new mid old was before now same is marks = record {
  kept = λ s. marks.kept (same_trans new old mid s (same_back mid old same)) ∙ is;
  marked = λ s. marks.marked (λ t. s (same_trans new mid old t same));
}

marks_by : (P Q : Type 0) (was now : Bool) → (P → Q) → (Q → P) → Marks P was now → Marks Q was now
marks_by P Q was now there back marks = record { kept = λ q. marks.kept (back q); marked = λ not. marks.marked (λ p. not (there p)) }

-- ---- an edit in memory

-- where paths are the image's, two tables in memory say the same
pub record AreLeft (left : List ℕ → Bool) (new old : Table) : Type 0 where
  pub entries : (at : List ℕ) → left at ≡ true → new.entries at ≡ old.entries at
  pub sources : (at : List ℕ) → left at ≡ true → new.sources at ≡ old.sources at
  pub nodes : (at : List ℕ) → left at ≡ true → new.nodes at ≡ old.nodes at
  pub caches : (at : List ℕ) → left at ≡ true → new.caches at ≡ old.caches at

from_merged : {X : Type 0} (l : Bool) (i a b : X) → (l ≡ true → a ≡ b) → cond l i a ≡ cond l i b → a ≡ b
from_merged true i a b left h = left refl
from_merged false i a b left h = h

module _ (left : List ℕ → Bool) (image old new : Table) where
  pub same_merged : IsSame new old → IsSame (merged left image new) (merged left image old)
  same_merged same = record {
    p1 = same.p1;
    p2 = same.p2;
    hash = same.hash;
    entries = λ at. ap (cond (left at) (image.entries at)) (same.entries at);
    sources = λ at. ap (cond (left at) (image.sources at)) (same.sources at);
    nodes = λ at. ap (cond (left at) (image.nodes at)) (same.nodes at);
    caches = λ at. ap (cond (left at) (image.caches at)) (same.caches at);
  }

  pub same_own : AreLeft left new old → IsSame (merged left image new) (merged left image old) → IsSame new old
  same_own are same = record {
    p1 = same.p1;
    p2 = same.p2;
    hash = same.hash;
    entries = λ at. from_merged (left at) (image.entries at) (new.entries at) (old.entries at) (are.entries at) (same.entries at);
    sources = λ at. from_merged (left at) (image.sources at) (new.sources at) (old.sources at) (are.sources at) (same.sources at);
    nodes = λ at. from_merged (left at) (image.nodes at) (new.nodes at) (old.nodes at) (are.nodes at) (same.nodes at);
    caches = λ at. from_merged (left at) (image.caches at) (new.caches at) (old.caches at) (are.caches at) (same.caches at);
  }

  pub marks_merged : AreLeft left new old → (was now : Bool) → Marks (IsSame new old) was now → Marks (IsSame (merged left image new) (merged left image old)) was now
  marks_merged are was now = marks_by (IsSame new old) (IsSame (merged left image new) (merged left image old)) was now same_merged (same_own are)

  pub ids_merged : (p1 p2 : List ℕ) → IsSame new (after_ids p1 p2 old) → IsSame (merged left image new) (after_ids p1 p2 (merged left image old))
  ids_merged p1 p2 same = record {
    p1 = same.p1;
    p2 = same.p2;
    hash = same.hash;
    entries = λ at. ap (cond (left at) (image.entries at)) (same.entries at);
    sources = λ at. ap (cond (left at) (image.sources at)) (same.sources at);
    nodes = λ at. ap (cond (left at) (image.nodes at)) (same.nodes at);
    caches = λ at. ap (cond (left at) (image.caches at)) (same.caches at);
  }

  pub ids_left : (p1 p2 : List ℕ) → IsSame new (after_ids p1 p2 old) → AreLeft left new old
  ids_left p1 p2 same = record {
    entries = λ at h. same.entries at;
    sources = λ at h. same.sources at;
    nodes = λ at h. same.nodes at;
    caches = λ at h. same.caches at;
  }

  pub hash_merged : (hash : List ℕ) → IsSame new (after_hash hash old) → IsSame (merged left image new) (after_hash hash (merged left image old))
  hash_merged hash same = record {
    p1 = same.p1;
    p2 = same.p2;
    hash = same.hash;
    entries = λ at. ap (cond (left at) (image.entries at)) (same.entries at);
    sources = λ at. ap (cond (left at) (image.sources at)) (same.sources at);
    nodes = λ at. ap (cond (left at) (image.nodes at)) (same.nodes at);
    caches = λ at. ap (cond (left at) (image.caches at)) (same.caches at);
  }

  pub hash_left : (hash : List ℕ) → IsSame new (after_hash hash old) → AreLeft left new old
  hash_left hash same = record {
    entries = λ at h. same.entries at;
    sources = λ at h. same.sources at;
    nodes = λ at h. same.nodes at;
    caches = λ at h. same.caches at;
  }

  module _ (none : (at : List ℕ) → left at ≡ false) where
    pub no_caches_merged : IsSame new (after_no_caches old) → IsSame (merged left image new) (after_no_caches (merged left image old))
    no_caches_merged same = record {
      p1 = same.p1;
      p2 = same.p2;
      hash = same.hash;
      entries = λ at. ap (cond (left at) (image.entries at)) (same.entries at);
      sources = λ at. ap (cond (left at) (image.sources at)) (same.sources at);
      nodes = λ at. ap (cond (left at) (image.nodes at)) (same.nodes at);
      caches = λ at. cond-false (left at) (image.caches at) (new.caches at) (none at) ∙ same.caches at;
    }

    pub none_left : AreLeft left new old
    none_left = record {
      entries = λ at h. absurd (both_ways (left at) (none at) h);
      sources = λ at h. absurd (both_ways (left at) (none at) h);
      nodes = λ at h. absurd (both_ways (left at) (none at) h);
      caches = λ at h. absurd (both_ways (left at) (none at) h);
    }

  module _ (path : List ℕ) (free : (at : List ℕ) → is_within at path ≡ true → left at ≡ false) where
    not_here : (at : List ℕ) → left at ≡ true → bytes_eq path at ≡ false
    not_here at h = false_from_ne_true (bytes_eq path at) (λ here. both_ways (left at) (sym (ap left (same_bytes path at here)) ∙ free path (within_itself path)) h)

    not_way : (at : List ℕ) → left at ≡ true → is_within at path ≡ false
    not_way at h = false_from_ne_true (is_within at path) (λ way. both_ways (left at) (free at way) h)

    pub update_merged : {X : Type 0} (i f : List ℕ → Option X) (value : Option X) (at : List ℕ)
        → cond (left at) (i at) (update bytes_eq f path value at) ≡ update bytes_eq (λ (a : List ℕ). cond (left a) (i a) (f a)) path value at
    update_merged i f value at = elim (cases_Bool (bytes_eq path at)) [
      | inl here ↦
          cond-false (left at) (i at) (update bytes_eq f path value at) (sym (ap left (same_bytes path at here)) ∙ free path (within_itself path))
          ∙ cond-true (bytes_eq path at) value (f at) here
          ∙ sym (cond-true (bytes_eq path at) value (cond (left at) (i at) (f at)) here)
      | inr other ↦
          ap (cond (left at) (i at)) (cond-false (bytes_eq path at) value (f at) other)
          ∙ sym (cond-false (bytes_eq path at) value (cond (left at) (i at) (f at)) other)
    ]

    update_left : {X : Type 0} (f : List ℕ → Option X) (value : Option X) (at : List ℕ) → left at ≡ true → update bytes_eq f path value at ≡ f at
    update_left f value at h = cond-false (bytes_eq path at) value (f at) (not_here at h)

    or_false : (b : Bool) → (b || false) ≡ b
    or_false true = refl
    or_false false = refl

    node_step : (l i o w : Bool) → (w ≡ true → l ≡ false) → cond l i (o || w) ≡ (cond l i o || w)
    node_step false i o w h = refl
    node_step true i o true h = absurd (true≢false (h refl))
    node_step true i o false h = sym (or_false i)

    pub set_merged : (entry : EntryData) → IsSame new (after_set path entry old) → IsSame (merged left image new) (after_set path entry (merged left image old))
    set_merged entry same = record {
      p1 = same.p1;
      p2 = same.p2;
      hash = same.hash;
      entries = λ at. ap (cond (left at) (image.entries at)) (same.entries at) ∙ update_merged image.entries old.entries (Some entry) at;
      sources = λ at. ap (cond (left at) (image.sources at)) (same.sources at);
      nodes = λ at. ap (cond (left at) (image.nodes at)) (same.nodes at) ∙ node_step (left at) (image.nodes at) (old.nodes at) (is_within at path) (free at);
      caches = λ at. ap (cond (left at) (image.caches at)) (same.caches at) ∙ update_merged image.caches old.caches None at;
    }

    pub set_left : (entry : EntryData) → IsSame new (after_set path entry old) → AreLeft left new old
    set_left entry same = record {
      entries = λ at h. same.entries at ∙ update_left old.entries (Some entry) at h;
      sources = λ at h. same.sources at;
      nodes = λ at h. same.nodes at ∙ ap (λ (b : Bool). old.nodes at || b) (not_way at h) ∙ or_false (old.nodes at);
      caches = λ at h. same.caches at ∙ update_left old.caches None at h;
    }

    pub copy_merged : (source : Option (List ℕ)) → IsSame new (after_copy path source old) → IsSame (merged left image new) (after_copy path source (merged left image old))
    copy_merged source same = record {
      p1 = same.p1;
      p2 = same.p2;
      hash = same.hash;
      entries = λ at. ap (cond (left at) (image.entries at)) (same.entries at);
      sources = λ at. ap (cond (left at) (image.sources at)) (same.sources at) ∙ update_merged image.sources old.sources source at;
      nodes = λ at. ap (cond (left at) (image.nodes at)) (same.nodes at);
      caches = λ at. ap (cond (left at) (image.caches at)) (same.caches at);
    }

    pub copy_left : (source : Option (List ℕ)) → IsSame new (after_copy path source old) → AreLeft left new old
    copy_left source same = record {
      entries = λ at h. same.entries at;
      sources = λ at h. same.sources at ∙ update_left old.sources source at h;
      nodes = λ at h. same.nodes at;
      caches = λ at h. same.caches at;
    }

    pub cache_merged : (time : Option CacheData) → IsSame new (after_cache path time old) → IsSame (merged left image new) (after_cache path time (merged left image old))
    cache_merged time same = record {
      p1 = same.p1;
      p2 = same.p2;
      hash = same.hash;
      entries = λ at. ap (cond (left at) (image.entries at)) (same.entries at);
      sources = λ at. ap (cond (left at) (image.sources at)) (same.sources at);
      nodes = λ at. ap (cond (left at) (image.nodes at)) (same.nodes at);
      caches = λ at. ap (cond (left at) (image.caches at)) (same.caches at) ∙ update_merged image.caches old.caches time at;
    }

    pub cache_left : (time : Option CacheData) → IsSame new (after_cache path time old) → AreLeft left new old
    cache_left time same = record {
      entries = λ at h. same.entries at;
      sources = λ at h. same.sources at;
      nodes = λ at h. same.nodes at;
      caches = λ at h. same.caches at ∙ update_left old.caches time at h;
    }

-- ---- what is parted stays parted

module _ (docket : Contents) (rows : List Row) (left : List (List ℕ × List Row)) (old new : Table) (parted : IsParted docket rows left old) where
  -- the nodes in memory are those that were there, and some on the way to a path that isn't covered
  pub parted_grown : (path : List ℕ) → covers left path ≡ false → ((at : List ℕ) → new.nodes at ≡ true → (old.nodes at ≡ true) ⊎ (is_within at path ≡ true))
      → IsFormed (whole docket rows left new) → IsParted docket rows left new
  parted_grown path free nodes formed = record {
    lists = parted.lists;
    placed = λ at dir is parent. elim (nodes at is) [
      | inl was ↦ parted.placed at dir was parent
      | inr way ↦ way_free left path free dir (within_trans dir at path (within_below dir at (below_parent dir at parent)) way)
    ];
    known = λ at is c. elim (nodes at is) [
      | inl was ↦ parted.known at was c
      | inr way ↦ absurd (both_ways (covers left at) (way_free left path free at way) c)
    ];
    paths = parted.paths;
    formed = formed;
  }

  -- no node is new
  pub parted_kept : ((at : List ℕ) → new.nodes at ≡ true → old.nodes at ≡ true) → IsFormed (whole docket rows left new) → IsParted docket rows left new
  parted_kept nodes formed = record {
    lists = parted.lists;
    placed = λ at dir is parent. parted.placed at dir (nodes at is) parent;
    known = λ at is c. parted.known at (nodes at is) c;
    paths = parted.paths;
    formed = formed;
  }

-- ---- edits of the table

-- the entry of the whole where a path isn't covered
pub own_entry : (docket : Contents) (rows : List Row) (left : List (List ℕ × List Row)) (own : Table) (at : List ℕ) → covers left at ≡ false → (whole docket rows left own).entries at ≡ own.entries at
own_entry docket rows left own at free = cond-false (covers left at) ((reading.table_of docket rows).entries at) (own.entries at) free

pub own_source : (docket : Contents) (rows : List Row) (left : List (List ℕ × List Row)) (own : Table) (at : List ℕ) → covers left at ≡ false → (whole docket rows left own).sources at ≡ own.sources at
own_source docket rows left own at free = cond-false (covers left at) ((reading.table_of docket rows).sources at) (own.sources at) free

pub own_node : (docket : Contents) (rows : List Row) (left : List (List ℕ × List Row)) (own : Table) (at : List ℕ) → covers left at ≡ false → (whole docket rows left own).nodes at ≡ own.nodes at
own_node docket rows left own at free = cond-false (covers left at) ((reading.table_of docket rows).nodes at) (own.nodes at) free

-- nothing is taken
pub moved_itself : (docket : Contents) (rows : List Row) (left : List (List ℕ × List Row)) (own : InMemory) → IsParted docket rows left (memory_table own) → IsMoved docket rows left own left own
moved_itself docket rows left own parted = record { parted = parted; same = same_itself (whole docket rows left (memory_table own)); nodes = λ at. refl; lent = λ dir. refl; changed = refl }

-- lists are taken, and more of them
pub moved_on : (docket : Contents) (rows : List Row) (first mid left : List (List ℕ × List Row)) (was own new : InMemory)
    → IsMoved docket rows first was mid own → IsMoved docket rows mid own left new → IsMoved docket rows first was left new
moved_on docket rows first mid left was own new moved more = record {
  parted = more.parted;
  same = same_trans (whole docket rows left (memory_table new)) (whole docket rows mid (memory_table own)) (whole docket rows first (memory_table was)) more.same moved.same;
  nodes = λ at. more.nodes at ∙ moved.nodes at;
  lent = λ dir. more.lent dir ∙ moved.lent dir;
  changed = more.changed ∙ moved.changed;
}

-- an edit after lists were taken
module _ (docket : Contents) (rows : List Row) (first left : List (List ℕ × List Row)) (was own new : InMemory) (moved : IsMoved docket rows first was left own) where
  marks_after : AreLeft (covers left) (memory_table new) (memory_table own) → Marks (IsSame (memory_table new) (memory_table own)) own.changed new.changed
      → Marks (IsSame (whole docket rows left (memory_table new)) (whole docket rows first (memory_table was))) was.changed new.changed
  marks_after are marks =
      marks_moved (whole docket rows left (memory_table new)) (whole docket rows left (memory_table own)) (whole docket rows first (memory_table was)) own.changed was.changed new.changed moved.same
      moved.changed (marks_merged (covers left) (reading.table_of docket rows) (memory_table own) (memory_table new) are own.changed new.changed marks)

  own_after : AreLeft (covers left) (memory_table new) (memory_table own) → IsSame (whole docket rows left (memory_table new)) (whole docket rows first (memory_table was)) → IsSame (memory_table new) (memory_table own)
  own_after are same =
      same_own (covers left) (reading.table_of docket rows) (memory_table own) (memory_table new) are
      (same_trans (whole docket rows left (memory_table new)) (whole docket rows first (memory_table was)) (whole docket rows left (memory_table own)) same
      (same_back (whole docket rows left (memory_table own)) (whole docket rows first (memory_table was)) moved.same))

  pub kept_table : IsSame (memory_table new) (memory_table own) → IsSame (whole docket rows left (memory_table new)) (whole docket rows first (memory_table was))
  kept_table same =
      same_trans (whole docket rows left (memory_table new)) (whole docket rows left (memory_table own)) (whole docket rows first (memory_table was))
      (same_merged (covers left) (reading.table_of docket rows) (memory_table own) (memory_table new) same) moved.same

  pub kept_parted : IsSame (memory_table new) (memory_table own) → IsParted docket rows left (memory_table new)
  kept_parted same = parted_kept docket rows left (memory_table own) (memory_table new) moved.parted (λ at is. sym (same.nodes at) ∙ is)
      (formed_same (whole docket rows left (memory_table new)) (whole docket rows left (memory_table own)) (same_merged (covers left) (reading.table_of docket rows) (memory_table own) (memory_table new) same) moved.parted.formed)

  module _ (path : List ℕ) (free : covers left path ≡ false) where
    pub node_moved : (whole docket rows first (memory_table was)).nodes path ≡ true → (memory_table own).nodes path ≡ true
    node_moved is = sym (own_node docket rows left (memory_table own) path free) ∙ moved.same.nodes path ∙ is

    pub entry_moved : (whole docket rows first (memory_table was)).entries path ≡ (memory_table own).entries path
    entry_moved = sym (moved.same.entries path) ∙ own_entry docket rows left (memory_table own) path free

    -- an entry that is set
    module _ (entry : EntryData) (same : IsSame (memory_table new) (after_set path entry (memory_table own))) where
      set_here : IsSame (whole docket rows left (memory_table new)) (after_set path entry (whole docket rows left (memory_table own)))
      set_here = set_merged (covers left) (reading.table_of docket rows) (memory_table own) (memory_table new) path (way_free left path free) entry same

      pub set_table : IsSame (whole docket rows left (memory_table new)) (after_set path entry (whole docket rows first (memory_table was)))
      set_table =
          same_trans (whole docket rows left (memory_table new)) (after_set path entry (whole docket rows left (memory_table own))) (after_set path entry (whole docket rows first (memory_table was)))
          set_here (set_on (whole docket rows left (memory_table own)) (whole docket rows first (memory_table was)) moved.same path entry)

      -- where the whole is the same, what is in memory is
      pub set_own : IsSame (whole docket rows left (memory_table new)) (whole docket rows first (memory_table was)) → IsSame (memory_table new) (memory_table own)
      set_own = own_after (set_left (covers left) (reading.table_of docket rows) (memory_table own) (memory_table new) path (way_free left path free) entry same)

      pub set_marks : Marks (IsSame (memory_table new) (memory_table own)) own.changed new.changed
          → Marks (IsSame (whole docket rows left (memory_table new)) (whole docket rows first (memory_table was))) was.changed new.changed
      set_marks = marks_after (set_left (covers left) (reading.table_of docket rows) (memory_table own) (memory_table new) path (way_free left path free) entry same)

      or_cases : (a b : Bool) → (a || b) ≡ true → (a ≡ true) ⊎ (b ≡ true)
      or_cases true b h = inl refl
      or_cases false b h = inr h

      pub set_parted : is_path path ≡ true → IsParted docket rows left (memory_table new)
      set_parted good = parted_grown docket rows left (memory_table own) (memory_table new) moved.parted path free
          (λ at is. or_cases ((memory_table own).nodes at) (is_within at path) (sym (same.nodes at) ∙ is))
          (formed_set path entry (whole docket rows left (memory_table own)) (whole docket rows left (memory_table new)) good moved.parted.formed set_here)

    -- a copy source that is written
    module _ (source : Option (List ℕ)) (same : IsSame (memory_table new) (after_copy path source (memory_table own))) where
      copy_here : IsSame (whole docket rows left (memory_table new)) (after_copy path source (whole docket rows left (memory_table own)))
      copy_here = copy_merged (covers left) (reading.table_of docket rows) (memory_table own) (memory_table new) path (way_free left path free) source same

      pub copy_table : IsSame (whole docket rows left (memory_table new)) (after_copy path source (whole docket rows first (memory_table was)))
      copy_table =
          same_trans (whole docket rows left (memory_table new)) (after_copy path source (whole docket rows left (memory_table own))) (after_copy path source (whole docket rows first (memory_table was)))
          copy_here (copy_on (whole docket rows left (memory_table own)) (whole docket rows first (memory_table was)) moved.same path source)

      -- where the whole is the same, what is in memory is
      pub copy_own : IsSame (whole docket rows left (memory_table new)) (whole docket rows first (memory_table was)) → IsSame (memory_table new) (memory_table own)
      copy_own = own_after (copy_left (covers left) (reading.table_of docket rows) (memory_table own) (memory_table new) path (way_free left path free) source same)

      pub copy_marks : Marks (IsSame (memory_table new) (memory_table own)) own.changed new.changed
          → Marks (IsSame (whole docket rows left (memory_table new)) (whole docket rows first (memory_table was))) was.changed new.changed
      copy_marks = marks_after (copy_left (covers left) (reading.table_of docket rows) (memory_table own) (memory_table new) path (way_free left path free) source same)

      pub copy_parted : is_some ((whole docket rows first (memory_table was)).entries path) ≡ true → IsParted docket rows left (memory_table new)
      copy_parted some = parted_kept docket rows left (memory_table own) (memory_table new) moved.parted (λ at is. sym (same.nodes at) ∙ is)
          (formed_copy path source (whole docket rows left (memory_table own)) (whole docket rows left (memory_table new)) moved.parted.formed (ap is_some (moved.same.entries path) ∙ some) copy_here)

    -- a cache that is noted or forgotten
    module _ (time : Option CacheData) (same : IsSame (memory_table new) (after_cache path time (memory_table own))) where
      cache_here : IsSame (whole docket rows left (memory_table new)) (after_cache path time (whole docket rows left (memory_table own)))
      cache_here = cache_merged (covers left) (reading.table_of docket rows) (memory_table own) (memory_table new) path (way_free left path free) time same

      pub cache_table : IsSame (whole docket rows left (memory_table new)) (after_cache path time (whole docket rows first (memory_table was)))
      cache_table =
          same_trans (whole docket rows left (memory_table new)) (after_cache path time (whole docket rows left (memory_table own))) (after_cache path time (whole docket rows first (memory_table was)))
          cache_here (cache_on (whole docket rows left (memory_table own)) (whole docket rows first (memory_table was)) moved.same path time)

      -- where the whole is the same, what is in memory is
      pub cache_own : IsSame (whole docket rows left (memory_table new)) (whole docket rows first (memory_table was)) → IsSame (memory_table new) (memory_table own)
      cache_own = own_after (cache_left (covers left) (reading.table_of docket rows) (memory_table own) (memory_table new) path (way_free left path free) time same)

      pub cache_marks : Marks (IsSame (memory_table new) (memory_table own)) own.changed new.changed
          → Marks (IsSame (whole docket rows left (memory_table new)) (whole docket rows first (memory_table was))) was.changed new.changed
      cache_marks = marks_after (cache_left (covers left) (reading.table_of docket rows) (memory_table own) (memory_table new) path (way_free left path free) time same)

      pub cache_parted : (whole docket rows first (memory_table was)).nodes path ≡ true → (whole docket rows first (memory_table was)).entries path ≡ None → IsParted docket rows left (memory_table new)
      cache_parted node none = parted_kept docket rows left (memory_table own) (memory_table new) moved.parted (λ at is. sym (same.nodes at) ∙ is)
          (formed_cache path time (whole docket rows left (memory_table own)) (whole docket rows left (memory_table new)) moved.parted.formed
          (moved.same.nodes path ∙ node) (moved.same.entries path ∙ none) cache_here)

  -- all caches that go
  module _ (none : (at : List ℕ) → covers left at ≡ false) (same : IsSame (memory_table new) (after_no_caches (memory_table own))) where
    no_caches_here : IsSame (whole docket rows left (memory_table new)) (after_no_caches (whole docket rows left (memory_table own)))
    no_caches_here = no_caches_merged (covers left) (reading.table_of docket rows) (memory_table own) (memory_table new) none same

    pub no_caches_table : IsSame (whole docket rows left (memory_table new)) (after_no_caches (whole docket rows first (memory_table was)))
    no_caches_table =
        same_trans (whole docket rows left (memory_table new)) (after_no_caches (whole docket rows left (memory_table own))) (after_no_caches (whole docket rows first (memory_table was)))
        no_caches_here (no_caches_on (whole docket rows left (memory_table own)) (whole docket rows first (memory_table was)) moved.same)

    pub no_caches_marks : Marks (IsSame (memory_table new) (memory_table own)) own.changed new.changed
        → Marks (IsSame (whole docket rows left (memory_table new)) (whole docket rows first (memory_table was))) was.changed new.changed
    no_caches_marks = marks_after (none_left (covers left) (reading.table_of docket rows) (memory_table own) (memory_table new) none)

    pub no_caches_parted : IsParted docket rows left (memory_table new)
    no_caches_parted = parted_kept docket rows left (memory_table own) (memory_table new) moved.parted (λ at is. sym (same.nodes at) ∙ is)
        (formed_no_caches (whole docket rows left (memory_table own)) (whole docket rows left (memory_table new)) moved.parted.formed no_caches_here)

-- ---- of a table that is opened

module _ (old was : Held) (same : was ≡ old) where
  pub edit_of : (edit : Table → Table) (new : Table) → IsSame new (edit (table was)) → IsSame new (edit (table old))
  edit_of edit new = subst (λ (h : Held). IsSame new (edit (table h))) same

  pub marks_of : (new : Table) (now : Bool) → Marks (IsSame new (table was)) was.changed now → Marks (IsSame new (table old)) old.changed now
  marks_of new now = subst (λ (h : Held). Marks (IsSame new (table h)) h.changed now) same

  pub node_of : (path : List ℕ) → (table old).nodes path ≡ true → (table was).nodes path ≡ true
  node_of path = subst (λ (h : Held). (table h).nodes path ≡ true) (sym same)

  pub none_of : (path : List ℕ) → (table old).entries path ≡ None → (table was).entries path ≡ None
  none_of path = subst (λ (h : Held). (table h).entries path ≡ None) (sym same)

  pub some_of : (path : List ℕ) → is_some ((table old).entries path) ≡ true → is_some ((table was).entries path) ≡ true
  some_of path = subst (λ (h : Held). is_some ((table h).entries path) ≡ true) (sym same)

  pub unchanged : (new : Held) → IsSame (table new) (table was) → new.changed ≡ was.changed → ((dir : Option (List ℕ)) → is_lent new dir ≡ is_lent was dir) → ((at : List ℕ) → node_in new at ≡ node_in was at)
      → new.docket ≡ was.docket → new.bytes ≡ was.bytes → IsUnchanged old new
  unchanged new tables changed lent nodes docket bytes = subst (λ (h : Held). IsUnchanged h new) same (record {
    table = tables;
    changed = changed;
    lent = lent;
    places = record { texts = λ at. ap text_in (nodes at); sources = λ at. ap source_text_in (nodes at) };
    image = record { docket = docket; bytes = bytes };
  })
