-- What an edit makes of a table, and whether it makes a difference.
use Rattle.std.proofs.Common.{ℕ, ◌≡◌, Bool, true, false, not, cond, ◌||◌, inl, inr, List, Option, Some, None, refl, sym, ap, ◌∙◌, subst, true≢false}
use Rattle.std.specs.Prelude.{is_some, MatchBool}
use Rattle.std.specs.Map.{update}
use Rattle.std.specs.Str.{bytes_eq}
use Rattle.std.proofs.lemmas.Bool.{cases_Bool, cond-true, cond-false, or_left, or_right, or_parts, false_from_ne_true}
use Rattle.hg_base.specs.PathText.{is_below, is_path}
use Rattle.hg_base.specs.Within.{is_within}
use Rattle.hg_base.proofs.Within.{equal_bytes, same_bytes, within_below, within_path, within_split, within_trans}
use Rattle.hg_entry.specs.Entry.{CacheData, EntryData}
use Rattle.hg_entry.specs.Table.{Table}
use Rattle.hg_nodes.specs.Edits.{IsFormed, IsSame, Marks, after_cache, after_copy, after_set}
use Rattle.hg_nodes.specs.Memory.{table_of, MemoryData, IsSourceWritten, table_in}
use Rattle.hg_nodes.specs.Node.{AreSame, IsPut, NodeData, entry_in, node_at, or_blank, planted, source_in, with_entry, with_source}
use Rattle.hg_nodes.specs.Times.{AreNone, IsTimed, time_at}

-- ---- marks

pub marks : (same : Type 0) (was differs : Bool) → MatchBool differs (same → ⊥) same → Marks same was (was || differs)
marks same true true m = record { kept = λ s. refl; marked = λ s. refl }
marks same false true m = record { kept = λ s. absurd (m s); marked = λ s. refl }
marks same true false m = record { kept = λ s. refl; marked = λ s. refl }
marks same false false m = record { kept = λ s. refl; marked = λ s. absurd (s m) }

-- what a test of sameness answers, said of its negation
pub negated : (b : Bool) (P Q : Type 0) → MatchBool b P Q → MatchBool (not b) Q P
negated true P Q m = m
negated false P Q m = m

-- what decides one fact decides another that is equivalent
pub decided : (b : Bool) (P Q : Type 0) → (P → Q) → (Q → P) → MatchBool b (P → ⊥) P → MatchBool b (Q → ⊥) Q
decided true P Q there back m = λ q. m (back q)
decided false P Q there back m = there m

module _ {X : Type 0} (f : List ℕ → Option X) (key : List ℕ) (value : Option X) where
  pub update_here : update bytes_eq f key value key ≡ value
  update_here = cond-true (bytes_eq key key) value (f key) (equal_bytes key)

  pub update_same : f key ≡ value → (at : List ℕ) → update bytes_eq f key value at ≡ f at
  update_same is at = elim (cases_Bool (bytes_eq key at)) [
    | inl same ↦ cond-true (bytes_eq key at) value (f at) same ∙ sym is ∙ ap f (same_bytes key at same)
    | inr other ↦ cond-false (bytes_eq key at) value (f at) other
  ]

  pub update_other : (at : List ℕ) → bytes_eq key at ≡ false → update bytes_eq f key value at ≡ f at
  update_other at other = cond-false (bytes_eq key at) value (f at) other

pub same_trans : (a b c : Table) → IsSame a b → IsSame b c → IsSame a c
same_trans a b c p q = record {
  p1 = p.p1 ∙ q.p1;
  p2 = p.p2 ∙ q.p2;
  hash = p.hash ∙ q.hash;
  entries = λ at. p.entries at ∙ q.entries at;
  sources = λ at. p.sources at ∙ q.sources at;
  nodes = λ at. p.nodes at ∙ q.nodes at;
  caches = λ at. p.caches at ∙ q.caches at;
}

-- ---- caches

module _ (dir : List ℕ) (time : Option CacheData) (old new : Table) (same : IsSame new (after_cache dir time old)) where
  pub cache_stays : old.caches dir ≡ time → IsSame new old
  cache_stays is = same_trans new (after_cache dir time old) old same (record {
    p1 = refl;
    p2 = refl;
    hash = refl;
    entries = λ at. refl;
    sources = λ at. refl;
    nodes = λ at. refl;
    caches = update_same old.caches dir time is;
  })

  pub cache_was : IsSame new old → old.caches dir ≡ time
  cache_was stays = sym (stays.caches dir) ∙ same.caches dir ∙ update_here old.caches dir time

  pub cache_decided : (b : Bool) → MatchBool b (old.caches dir ≡ time) (old.caches dir ≡ time → ⊥) → MatchBool (not b) (IsSame new old → ⊥) (IsSame new old)
  cache_decided b m = decided (not b) (old.caches dir ≡ time) (IsSame new old) cache_stays cache_was (negated b (old.caches dir ≡ time) (old.caches dir ≡ time → ⊥) m)

-- ---- copy sources

module _ (path : List ℕ) (source : Option (List ℕ)) (old new : Table) (same : IsSame new (after_copy path source old)) where
  pub copy_stays : old.sources path ≡ source → IsSame new old
  copy_stays is = same_trans new (after_copy path source old) old same (record {
    p1 = refl;
    p2 = refl;
    hash = refl;
    entries = λ at. refl;
    sources = update_same old.sources path source is;
    nodes = λ at. refl;
    caches = λ at. refl;
  })

  pub copy_was : IsSame new old → old.sources path ≡ source
  copy_was stays = sym (stays.sources path) ∙ same.sources path ∙ update_here old.sources path source

-- ---- entries

module _ (path : List ℕ) (entry : EntryData) (old new : Table) (good : is_path path ≡ true) (formed : IsFormed old) (same : IsSame new (after_set path entry old)) where
  not_here : (at : List ℕ) → (bytes_eq path at ≡ true → ⊥) → bytes_eq path at ≡ false
  not_here at h = false_from_ne_true (bytes_eq path at) h

  pub formed_set : IsFormed new
  formed_set = record {
    paths = λ at is. elim (cases_Bool (old.nodes at)) [
      | inl was ↦ formed.paths at was
      | inr not ↦ within_path at path (sym (ap (λ (b : Bool). b || is_within at path) not) ∙ sym (same.nodes at) ∙ is) good
    ];
    rooted = λ dir at below is. elim (cases_Bool (old.nodes at)) [
      | inl was ↦ same.nodes dir ∙ or_left (old.nodes dir) (is_within dir path) (formed.rooted dir at below was)
      | inr not ↦
          same.nodes dir
          ∙ or_right (old.nodes dir) (is_within dir path)
          (within_trans dir at path (within_below dir at below) (sym (ap (λ (b : Bool). b || is_within at path) not) ∙ sym (same.nodes at) ∙ is))
    ];
    entries = λ at none.
        let parts = or_parts (old.nodes at) (is_within at path) (sym (same.nodes at) ∙ none) in
        let other = or_parts (bytes_eq path at) (is_below at path) parts.1 in
        same.entries at ∙ update_other old.entries path (Some entry) at other.0 ∙ formed.entries at parts.0;
    sources = λ at none.
        let other : bytes_eq path at ≡ false = not_here at (λ here. let some : Some entry ≡ None = sym (cond-true (bytes_eq path at) (Some entry) (old.entries at) here) ∙ sym (same.entries at) ∙ none in absurd (cc)) in
        same.sources at ∙ formed.sources at (sym (update_other old.entries path (Some entry) at other) ∙ sym (same.entries at) ∙ none);
    caches = λ at some.
        let other : bytes_eq path at ≡ false = not_here at (λ here.
        true≢false (sym some ∙ ap is_some (same.caches at ∙ cond-true (bytes_eq path at) None (old.caches at) here))) in
        let was = formed.caches at (sym (ap is_some (same.caches at ∙ update_other old.caches path None at other)) ∙ some) in (
          same.nodes at ∙ or_left (old.nodes at) (is_within at path) was.0,
          same.entries at ∙ update_other old.entries path (Some entry) at other ∙ was.1,
        );
  }

  node_here : old.entries path ≡ Some entry → old.nodes path ≡ true
  node_here is = elim (cases_Bool (old.nodes path)) [
    | inl some ↦ some
    | inr none ↦ let never : Some entry ≡ None = sym is ∙ formed.entries path none in absurd (cc)
  ]

  no_cache : old.entries path ≡ Some entry → old.caches path ≡ None
  no_cache is = none (old.caches path) refl
    where
      none : (o : Option CacheData) → old.caches path ≡ o → o ≡ None
      none None h = refl
      none (Some time) h = let never : Some entry ≡ None = sym is ∙ (formed.caches path (ap is_some h)).1 in absurd (cc)

  or_true : (b : Bool) → (b || true) ≡ true
  or_true b = or_right b true refl

  pub set_stays : old.entries path ≡ Some entry → IsSame new old
  set_stays is = same_trans new (after_set path entry old) old same (record {
    p1 = refl;
    p2 = refl;
    hash = refl;
    entries = update_same old.entries path (Some entry) is;
    sources = λ at. refl;
    nodes = λ at. elim (cases_Bool (is_within at path)) [
      | inl within ↦
          or_right (old.nodes at) (is_within at path) within
          ∙ sym (elim (within_split at path within) [ inl e ↦ sym (ap old.nodes e) ∙ node_here is | inr below ↦ formed.rooted at path below (node_here is) ])
      | inr other ↦ ap (λ (b : Bool). old.nodes at || b) other ∙ or_false (old.nodes at)
    ];
    caches = update_same old.caches path None (no_cache is);
  })
    where
      or_false : (b : Bool) → (b || false) ≡ b
      or_false true = refl
      or_false false = refl

  pub set_was : IsSame new old → old.entries path ≡ Some entry
  set_was stays = sym (stays.entries path) ∙ same.entries path ∙ update_here old.entries path (Some entry)

-- ---- the table of nodes

blank_entry : (o : Option NodeData) → entry_in (Some (or_blank o)) ≡ entry_in o
blank_entry None = refl
blank_entry (Some node) = refl

blank_source : (o : Option NodeData) → source_in (Some (or_blank o)) ≡ source_in o
blank_source None = refl
blank_source (Some node) = refl

entry_step : (b c : Bool) (entry : EntryData) (first o : Option NodeData)
    → entry_in (cond b (Some (with_entry entry first)) (cond c (Some (or_blank o)) o)) ≡ cond b (Some entry) (entry_in o)
entry_step true c entry first o = refl
entry_step false true entry first o = blank_entry o
entry_step false false entry first o = refl

source_step : (b c : Bool) (entry : EntryData) (first o : Option NodeData) → (b ≡ true → first ≡ o)
    → source_in (cond b (Some (with_entry entry first)) (cond c (Some (or_blank o)) o)) ≡ source_in o
source_step true c entry first o is = ap source_in (is refl)
source_step false true entry first o is = blank_source o
source_step false false entry first o is = refl

some_step : (b c : Bool) (entry : EntryData) (first o : Option NodeData)
    → is_some (cond b (Some (with_entry entry first)) (cond c (Some (or_blank o)) o)) ≡ (is_some o || (b || c))
some_step true c entry first o = sym (or_right (is_some o) true refl)
some_step false true entry first o = sym (or_right (is_some o) true refl)
some_step false false entry first None = refl
some_step false false entry first (Some node) = refl

module _ (path : List ℕ) (entry : EntryData) (old was : MemoryData) (same : was ≡ old) (rows : List (List ℕ × NodeData)) (times : List (List ℕ × CacheData))
    (as_planted : (at : List ℕ) → node_at rows at ≡ planted path (with_entry entry (node_at was.rows path)) (node_at was.rows) at) (timed : IsTimed path None was.times times) where
  here : IsSame (table_of was.p1 was.p2 was.hash rows times) (after_set path entry (table_in was))
  here = record {
    p1 = refl;
    p2 = refl;
    hash = refl;
    entries = λ at. ap entry_in (as_planted at) ∙ entry_step (bytes_eq path at) (is_below at path) entry (node_at was.rows path) (node_at was.rows at);
    sources = λ at.
        ap source_in (as_planted at)
        ∙ source_step (bytes_eq path at) (is_below at path) entry (node_at was.rows path) (node_at was.rows at) (λ h. ap (node_at was.rows) (same_bytes path at h));
    nodes = λ at. ap is_some (as_planted at) ∙ some_step (bytes_eq path at) (is_below at path) entry (node_at was.rows path) (node_at was.rows at);
    caches = timed;
  }

  pub set_table : IsSame (table_of was.p1 was.p2 was.hash rows times) (after_set path entry (table_in old))
  set_table = subst (λ (h : MemoryData). IsSame (table_of was.p1 was.p2 was.hash rows times) (after_set path entry (table_in h))) same here

  module _ (good : is_path path ≡ true) (formed : IsFormed (table_in was)) where
    pub set_formed : IsFormed (table_of was.p1 was.p2 was.hash rows times)
    set_formed = formed_set path entry (table_in was) (table_of was.p1 was.p2 was.hash rows times) good formed here

    set_decided : (differs : Bool) → MatchBool differs (entry_in (node_at was.rows path) ≡ Some entry → ⊥) (entry_in (node_at was.rows path) ≡ Some entry)
        → MatchBool differs (IsSame (table_of was.p1 was.p2 was.hash rows times) (table_in was) → ⊥) (IsSame (table_of was.p1 was.p2 was.hash rows times) (table_in was))
    set_decided differs m =
        decided differs (entry_in (node_at was.rows path) ≡ Some entry) (IsSame (table_of was.p1 was.p2 was.hash rows times) (table_in was))
        (set_stays path entry (table_in was) (table_of was.p1 was.p2 was.hash rows times) good formed here)
        (set_was path entry (table_in was) (table_of was.p1 was.p2 was.hash rows times) good formed here) m

    pub set_told : (differs : Bool) → MatchBool differs (entry_in (node_at was.rows path) ≡ Some entry → ⊥) (entry_in (node_at was.rows path) ≡ Some entry)
        → MatchBool differs (IsSame (table_of was.p1 was.p2 was.hash rows times) (table_in old) → ⊥) (IsSame (table_of was.p1 was.p2 was.hash rows times) (table_in old))
    set_told differs m = subst (λ (h : MemoryData). MatchBool differs (IsSame (table_of was.p1 was.p2 was.hash rows times) (table_in h) → ⊥) (IsSame (table_of was.p1 was.p2 was.hash rows times) (table_in h))) same (set_decided differs m)

    pub set_marks : (differs : Bool) → MatchBool differs (entry_in (node_at was.rows path) ≡ Some entry → ⊥) (entry_in (node_at was.rows path) ≡ Some entry)
        → Marks (IsSame (table_of was.p1 was.p2 was.hash rows times) (table_in old)) old.changed (was.changed || differs)
    set_marks differs m = subst (λ (h : MemoryData). Marks (IsSame (table_of was.p1 was.p2 was.hash rows times) (table_in h)) h.changed (was.changed || differs)) same
        (marks (IsSame (table_of was.p1 was.p2 was.hash rows times) (table_in was)) was.changed differs (set_decided differs m))

-- ---- the table with another cache

module _ (dir : List ℕ) (time : Option CacheData) (old was : MemoryData) (same : was ≡ old) (times : List (List ℕ × CacheData)) (timed : IsTimed dir time was.times times) where
  cached : IsSame (table_of was.p1 was.p2 was.hash was.rows times) (after_cache dir time (table_in was))
  cached = record { p1 = refl; p2 = refl; hash = refl; entries = λ at. refl; sources = λ at. refl; nodes = λ at. refl; caches = timed }

  pub cache_told : (b : Bool) → MatchBool b (time_at was.times dir ≡ time) (time_at was.times dir ≡ time → ⊥)
      → MatchBool (not b) (IsSame (table_of was.p1 was.p2 was.hash was.rows times) (table_in old) → ⊥) (IsSame (table_of was.p1 was.p2 was.hash was.rows times) (table_in old))
  cache_told b m = subst (λ (h : MemoryData). MatchBool (not b) (IsSame (table_of was.p1 was.p2 was.hash was.rows times) (table_in h) → ⊥) (IsSame (table_of was.p1 was.p2 was.hash was.rows times) (table_in h))) same
      (cache_decided dir time (table_in was) (table_of was.p1 was.p2 was.hash was.rows times) cached b m)

  pub cache_marks : (b : Bool) → MatchBool b (time_at was.times dir ≡ time) (time_at was.times dir ≡ time → ⊥)
      → Marks (IsSame (table_of was.p1 was.p2 was.hash was.rows times) (table_in old)) old.changed (was.changed || not b)
  cache_marks b m = subst (λ (h : MemoryData). Marks (IsSame (table_of was.p1 was.p2 was.hash was.rows times) (table_in h)) h.changed (was.changed || not b)) same
      (marks (IsSame (table_of was.p1 was.p2 was.hash was.rows times) (table_in was)) was.changed (not b) (cache_decided dir time (table_in was) (table_of was.p1 was.p2 was.hash was.rows times) cached b m))

-- ---- no caches

module _ (old was : MemoryData) (same : was ≡ old) (times : List (List ℕ × CacheData)) (none : (at : List ℕ) → time_at times at ≡ None) where
  all_none : (b : Bool) → AreNone b was.times → MatchBool (not b) (IsSame (table_of was.p1 was.p2 was.hash was.rows times) (table_in was) → ⊥) (IsSame (table_of was.p1 was.p2 was.hash was.rows times) (table_in was))
  all_none true were = record {
    p1 = refl;
    p2 = refl;
    hash = refl;
    entries = λ at. refl;
    sources = λ at. refl;
    nodes = λ at. refl;
    caches = λ at. none at ∙ sym (were at);
  }
  all_none false were = λ stays. true≢false (sym were.1 ∙ ap is_some (sym (stays.caches were.0) ∙ none were.0))

  pub no_cache_marks : (b : Bool) → AreNone b was.times → Marks (IsSame (table_of was.p1 was.p2 was.hash was.rows times) (table_in old)) old.changed (was.changed || not b)
  no_cache_marks b were = subst (λ (h : MemoryData). Marks (IsSame (table_of was.p1 was.p2 was.hash was.rows times) (table_in h)) h.changed (was.changed || not b)) same
      (marks (IsSame (table_of was.p1 was.p2 was.hash was.rows times) (table_in was)) was.changed (not b) (all_none b were))

-- ---- another copy source

pub formed_copy : (path : List ℕ) (source : Option (List ℕ)) (old new : Table) → IsFormed old → is_some (old.entries path) ≡ true → IsSame new (after_copy path source old) → IsFormed new
formed_copy path source old new formed some same = record {
  paths = λ at is. formed.paths at (sym (same.nodes at) ∙ is);
  rooted = λ dir at below is. same.nodes dir ∙ formed.rooted dir at below (sym (same.nodes at) ∙ is);
  entries = λ at none. same.entries at ∙ formed.entries at (sym (same.nodes at) ∙ none);
  sources = λ at none.
      let was : old.entries at ≡ None = sym (same.entries at) ∙ none in
      let other : bytes_eq path at ≡ false = false_from_ne_true (bytes_eq path at) (λ here. true≢false (sym some ∙ ap is_some (ap old.entries (same_bytes path at here) ∙ was))) in
      same.sources at ∙ update_other old.sources path source at other ∙ formed.sources at was;
  caches = λ at is.
      let was = formed.caches at (sym (ap is_some (same.caches at)) ∙ is) in (same.nodes at ∙ was.0, same.entries at ∙ was.1);
}

entry_kept : (b : Bool) (source : Option (List ℕ)) (first o : Option NodeData) → (b ≡ true → first ≡ o) → entry_in (cond b (Some (with_source source first)) o) ≡ entry_in o
entry_kept true source first o is = ap entry_in (is refl)
entry_kept false source first o is = refl

source_put : (b : Bool) (source : Option (List ℕ)) (first o : Option NodeData) → source_in (cond b (Some (with_source source first)) o) ≡ cond b source (source_in o)
source_put true source first o = refl
source_put false source first o = refl

node_kept : (b : Bool) (n : NodeData) (o : Option NodeData) → (b ≡ true → is_some o ≡ true) → is_some (cond b (Some n) o) ≡ is_some o
node_kept true n o is = sym (is refl)
node_kept false n o is = refl

pub entry_node : (o : Option NodeData) → is_some (entry_in o) ≡ true → is_some o ≡ true
entry_node None h = absurd (true≢false (sym h))
entry_node (Some node) h = refl

module _ (path : List ℕ) (source : Option (List ℕ)) (old was : MemoryData) (same : was ≡ old) (rows : List (List ℕ × NodeData)) (written : IsSourceWritten path source was.rows rows)
    (some : is_some (entry_in (node_at old.rows path)) ≡ true) (differs : Bool)
    (told : MatchBool differs (source_in (node_at was.rows path) ≡ source → ⊥) (source_in (node_at was.rows path) ≡ source)) where
  some_was : is_some (entry_in (node_at was.rows path)) ≡ true
  some_was = ap (λ (h : MemoryData). is_some (entry_in (node_at h.rows path))) same ∙ some

  put_copied : IsPut path (Some (with_source source (node_at was.rows path))) was.rows rows → IsSame (table_of was.p1 was.p2 was.hash rows was.times) (after_copy path source (table_in was))
  put_copied put = record {
    p1 = refl;
    p2 = refl;
    hash = refl;
    entries = λ at. ap entry_in (put at) ∙ entry_kept (bytes_eq path at) source (node_at was.rows path) (node_at was.rows at) (λ h. ap (node_at was.rows) (same_bytes path at h));
    sources = λ at. ap source_in (put at) ∙ source_put (bytes_eq path at) source (node_at was.rows path) (node_at was.rows at);
    nodes = λ at.
        ap is_some (put at)
        ∙ node_kept (bytes_eq path at) (with_source source (node_at was.rows path)) (node_at was.rows at)
        (λ h. ap (λ (p : List ℕ). is_some (node_at was.rows p)) (sym (same_bytes path at h)) ∙ entry_node (node_at was.rows path) some_was);
    caches = λ at. refl;
  }

  same_copied : source_in (node_at was.rows path) ≡ source → AreSame was.rows rows → IsSame (table_of was.p1 was.p2 was.hash rows was.times) (after_copy path source (table_in was))
  same_copied is are = record {
    p1 = refl;
    p2 = refl;
    hash = refl;
    entries = λ at. ap entry_in (are at);
    sources = λ at. ap source_in (are at) ∙ sym (update_same (table_in was).sources path source is at);
    nodes = λ at. ap is_some (are at);
    caches = λ at. refl;
  }

  copied : IsSame (table_of was.p1 was.p2 was.hash rows was.times) (after_copy path source (table_in was))
  copied = elim written [ inl kept ↦ same_copied kept.0 kept.1 | inr put ↦ put_copied put.1 ]

  pub copy_table : IsSame (table_of was.p1 was.p2 was.hash rows was.times) (after_copy path source (table_in old))
  copy_table = subst (λ (h : MemoryData). IsSame (table_of was.p1 was.p2 was.hash rows was.times) (after_copy path source (table_in h))) same copied

  pub copy_formed : IsFormed (table_in was) → IsFormed (table_of was.p1 was.p2 was.hash rows was.times)
  copy_formed formed = formed_copy path source (table_in was) (table_of was.p1 was.p2 was.hash rows was.times) formed some_was copied

  copy_decided : MatchBool differs (IsSame (table_of was.p1 was.p2 was.hash rows was.times) (table_in was) → ⊥) (IsSame (table_of was.p1 was.p2 was.hash rows was.times) (table_in was))
  copy_decided =
      decided differs (source_in (node_at was.rows path) ≡ source) (IsSame (table_of was.p1 was.p2 was.hash rows was.times) (table_in was))
      (copy_stays path source (table_in was) (table_of was.p1 was.p2 was.hash rows was.times) copied)
      (copy_was path source (table_in was) (table_of was.p1 was.p2 was.hash rows was.times) copied) told

  pub copy_told : MatchBool differs (IsSame (table_of was.p1 was.p2 was.hash rows was.times) (table_in old) → ⊥) (IsSame (table_of was.p1 was.p2 was.hash rows was.times) (table_in old))
  copy_told = subst (λ (h : MemoryData). MatchBool differs (IsSame (table_of was.p1 was.p2 was.hash rows was.times) (table_in h) → ⊥) (IsSame (table_of was.p1 was.p2 was.hash rows was.times) (table_in h))) same copy_decided

  pub copy_marks : Marks (IsSame (table_of was.p1 was.p2 was.hash rows was.times) (table_in old)) old.changed (was.changed || differs)
  copy_marks = subst (λ (h : MemoryData). Marks (IsSame (table_of was.p1 was.p2 was.hash rows was.times) (table_in h)) h.changed (was.changed || differs)) same
      (marks (IsSame (table_of was.p1 was.p2 was.hash rows was.times) (table_in was)) was.changed differs copy_decided)

-- the copy source of a node of the rows, and of the same rows
pub written_of : (path : List ℕ) (source : Option (List ℕ)) (old was : MemoryData) → was ≡ old → (rows : List (List ℕ × NodeData)) → IsSourceWritten path source was.rows rows → IsSourceWritten path source old.rows rows
written_of path source old was same rows = subst (λ (h : MemoryData). IsSourceWritten path source h.rows rows) same

pub some_node : (old was : MemoryData) → was ≡ old → (path : List ℕ) → is_some (entry_in (node_at old.rows path)) ≡ true → is_some (node_at was.rows path) ≡ true
some_node old was same path some = entry_node (node_at was.rows path) (ap (λ (h : MemoryData). is_some (entry_in (node_at h.rows path))) same ∙ some)
