-- What edits keep of a good record.
use Rattle.std.proofs.Common.{ℕ, ◌≡◌, inl, inr, Bool, true, false, ◌||◌, cond, List, Option, Some, None, Ok, refl, sym, ap, ◌∙◌, subst}
use Rattle.std.specs.Prelude.{MatchBool, is_some}
use Rattle.std.specs.Map.{update}
use Rattle.std.specs.Str.{bytes_eq}
use Rattle.std.proofs.lemmas.Bool.{cases_Bool}
use Rattle.std.proofs.lemmas.Map.{update_other, update_same}
use Rattle.std.proofs.lemmas.Slice.Eq.{bytes_eq-Decides}
use Rattle.hg_base.specs.Within.{is_within}
use Rattle.hg_entry.specs.Entry.{EntryData, StampData}
use Rattle.hg_entry.specs.Steps.{unseen, untracked}
use Rattle.hg_entry.specs.Table.{Table}
use Rattle.hg_flat.specs.Parent.{manifest_at, parent_rows}
use Rattle.hg_manifest.specs.Plain.{is_null}
use Rattle.hg_mixed.proofs.Lifted.{same_back}
use Rattle.hg_nodes.specs.Drop.{IsPruned, after_clear}
use Rattle.hg_nodes.specs.Edits.{IsSame, after_copy, after_set}
use Rattle.hg_ops.specs.Copy.{copied, copy_source}
use Rattle.hg_ops.specs.Step.{IsForgotten, IsUntracked, added, after_add, after_untracked, entry_added, is_tracked}
use Rattle.hg_ops.specs.declared.copy_refusal.CopyRefusal.{CopyRefusal}
use Rattle.hg_ops.specs.declared.refusal.Refusal.{Refusal}
use Rattle.hg_session.specs.Good.{IsGoodIn}
use Rattle.hg_shelf.specs.History.{Files}
use Rattle.hg_tree.specs.History.{Extends, History}
use Rattle.hg_walk.proofs.Growing.{noted_is_good, trust_stays}
use Rattle.hg_walk.proofs.Keeps.{drop_keeps_times, edit_keeps_times, keeps_through, kept_is_trusted, same_keeps_times}
use Rattle.hg_walk.specs.Keeping.{IsEditAt, KeepsTimes}
use Rattle.hg_walk.specs.Notes.{AreEarned, NotesData, applied}
use Rattle.hg_walk.specs.Walking.{first_id, rows_in}
use Rattle.hg_walk.specs.Trust.{CouldVouch, IsTrusted, is_first, is_second}

-- the times of a table are those of another, and so are its parents and which paths are marked for them
pub record KeepsTable (old new : Table) : Type 0 where
  pub times : KeepsTimes old new
  pub p1 : new.p1 ≡ old.p1
  pub p2 : new.p2 ≡ old.p2
  pub first : (path : List ℕ) → is_first (new.entries path) ≡ is_first (old.entries path)
  pub second : (path : List ℕ) → is_second (new.entries path) ≡ is_second (old.entries path)

pub table_through : (a b c : Table) → KeepsTable a b → KeepsTable b c → KeepsTable a c
table_through a b c one two = record {
  times = keeps_through a b c one.times two.times;
  p1 = two.p1 ∙ one.p1;
  p2 = two.p2 ∙ one.p2;
  first = λ path. two.first path ∙ one.first path;
  second = λ path. two.second path ∙ one.second path;
}

pub table_same : (old new : Table) → IsSame new old → KeepsTable old new
table_same old new same = record {
  times = same_keeps_times old new same;
  p1 = same.p1;
  p2 = same.p2;
  first = λ path. ap is_first (same.entries path);
  second = λ path. ap is_second (same.entries path);
}

-- behind an edit, the same table again
same_then : (old mid new : Table) → KeepsTable old mid → IsSame new mid → KeepsTable old new
same_then old mid new keeps same = table_through old mid new keeps (table_same mid new same)

-- so what was good is
pub table_good : (files : Files) (old new : Table) (h : History) → KeepsTable old new → IsGoodIn files old h → IsGoodIn files new h
table_good files old new h keeps good = record {
  consistent = record {
    files = good.consistent.files;
    read = subst (λ (p : List ℕ). manifest_at files (record { 0 = p }) ≡ Ok good.consistent.files) (sym keeps.p1) good.consistent.read;
    first = λ path. keeps.first path ∙ good.consistent.first path;
    second = λ null path. keeps.second path ∙ good.consistent.second (subst (λ (p : List ℕ). is_null p ≡ true) keeps.p2 null) path;
  };
  trusted =
      subst (λ (p : List ℕ). IsTrusted (parent_rows files (record { 0 = p })) new h) (sym keeps.p1)
      (kept_is_trusted (parent_rows files (record { 0 = old.p1 })) old new h good.trusted keeps.times);
}

-- ---- an entry without a time

here_is : (path : List ℕ) → bytes_eq path path ≡ true
here_is path = (bytes_eq-Decides path path).1 refl

or_left : (x y : Bool) → x ≡ true → (x || y) ≡ true
or_left true y is = refl
or_left false y is = absurd (cc is)

elsewhere : {A : Type 0} (f : List ℕ → Option A) (path at : List ℕ) (x : A) → update bytes_eq f path None at ≡ Some x → f at ≡ Some x
elsewhere f path at x is = by (bytes_eq path at) is
  where
    by : (t : Bool) → cond t None (f at) ≡ Some x → f at ≡ Some x
    by true same = absurd (cc same)
    by false same = same

module _ (path : List ℕ) (entry : EntryData) (source : Option (List ℕ)) (t : Table) where
  abbrev after : Table
  after = after_set path entry (after_copy path source t)

  one : (a b : EntryData) → Some a ≡ Some b → a ≡ b
  one a b is = cc is

  timeless : (other : EntryData) (stamp : StampData) → entry ≡ other → entry.stamp ≡ None → (copied : Bool) → CouldVouch other copied stamp → ⊥
  timeless other stamp same none copied could =
      let has : entry.stamp ≡ Some stamp = ap (λ (e : EntryData). e.stamp) same ∙ could.stamp_is in
      let both : None ≡ Some stamp = sym none ∙ has in
      cc both

  set_edit : entry.stamp ≡ None → IsEditAt path t after
  set_edit none = record {
    hash = refl;
    own = λ other stamp is could. timeless other stamp (one entry other (sym (update_same bytes_eq t.entries path (Some entry) path (here_is path)) ∙ is)) none (is_some (after.sources path)) could;
    entries = λ at apart. update_other bytes_eq t.entries path (Some entry) at apart;
    sources = λ at apart. update_other bytes_eq t.sources path source at apart;
    nodes = λ at node. or_left (t.nodes at) (is_within at path) node;
    caches = λ dir cache is. elsewhere t.caches path dir cache is;
  }

  marked : (mark : Option EntryData → Bool) → mark (Some entry) ≡ mark (t.entries path) → (at : List ℕ) → mark (after.entries at) ≡ mark (t.entries at)
  marked mark same at = elim (cases_Bool (bytes_eq path at)) [
    | inl here ↦
        ap mark (update_same bytes_eq t.entries path (Some entry) at here) ∙ same ∙ ap (λ (p : List ℕ). mark (t.entries p)) ((bytes_eq-Decides path at).0 here)
    | inr apart ↦ ap mark (update_other bytes_eq t.entries path (Some entry) at apart)
  ]

  -- a path gets an entry without a time whose marks for both parents are those that it had, and a copy source or none
  pub set_keeps : entry.stamp ≡ None → entry.p1 ≡ is_first (t.entries path) → entry.p2 ≡ is_second (t.entries path) → KeepsTable t after
  set_keeps none first second = record {
    times = edit_keeps_times path t after (set_edit none);
    p1 = refl;
    p2 = refl;
    first = marked is_first first;
    second = marked is_second second;
  }

-- ---- each command's edit

added_stamp : (was : Option EntryData) → (entry_added was).stamp ≡ None
added_stamp None = refl
added_stamp (Some entry) = refl

added_first : (was : Option EntryData) → (entry_added was).p1 ≡ is_first was
added_first None = refl
added_first (Some entry) = refl

added_second : (was : Option EntryData) → (entry_added was).p2 ≡ is_second was
added_second None = refl
added_second (Some entry) = refl

own_source : (path at : List ℕ) (t : Table) → update bytes_eq t.sources path (t.sources path) at ≡ t.sources at
own_source path at t = elim (cases_Bool (bytes_eq path at)) [
  | inl here ↦ update_same bytes_eq t.sources path (t.sources path) at here ∙ ap t.sources ((bytes_eq-Decides path at).0 here)
  | inr apart ↦ update_other bytes_eq t.sources path (t.sources path) at apart
]

add_keeps : (path : List ℕ) (t : Table) → KeepsTable t (after_add path t)
add_keeps path t =
    same_then t (after_set path (entry_added (t.entries path)) (after_copy path (t.sources path) t)) (after_add path t)
    (set_keeps path (entry_added (t.entries path)) (t.sources path) t (added_stamp (t.entries path)) (added_first (t.entries path)) (added_second (t.entries path)))
    (record {
      p1 = refl;
      p2 = refl;
      hash = refl;
      entries = λ at. refl;
      sources = λ at. sym (own_source path at t);
      nodes = λ at. refl;
      caches = λ at. refl;
    })

added_by : (path : List ℕ) (t : Table) (is : Bool) → KeepsTable t (cond is t (after_add path t))
added_by path t true = table_same t t (record { p1 = refl; p2 = refl; hash = refl; entries = λ at. refl; sources = λ at. refl; nodes = λ at. refl; caches = λ at. refl })
added_by path t false = add_keeps path t

pub added_keeps : (word : List ℕ) (refused : Option Refusal) (old new : Table) → IsSame new (added word refused old) → KeepsTable old new
added_keeps word None old new same = same_then old (added word None old) new (added_by word old (is_tracked old word)) same
added_keeps word (Some refusal) old new same = table_same old new same

pub copied_keeps : (source target : List ℕ) (refused : Option CopyRefusal) (old new : Table) → IsSame new (copied source target refused old) → KeepsTable old new
copied_keeps source target None old new same =
    same_then old (copied source target None old) new
    (set_keeps target (entry_added (old.entries target)) (copy_source source target old) old (added_stamp (old.entries target)) (added_first (old.entries target)) (added_second (old.entries target)))
    same
copied_keeps source target (Some refusal) old new same = table_same old new same

-- ---- an entry that is forgotten

untracked_is : (entry : EntryData) → (entry.p1 || entry.p2) ≡ true → untracked entry ≡ record (unseen entry) { w = false }
untracked_is entry either = ap (λ (t : Bool). cond t (record (unseen entry) { w = false }) entry) either

neither : (x y : Bool) → (x || y) ≡ false → (x ≡ false) × (y ≡ false)
neither true y is = absurd (cc is)
neither false y is = (refl, is)

dropped : (mark : Option EntryData → Bool) (path : List ℕ) (entry : EntryData) (t left : Table) → mark None ≡ false → mark (Some entry) ≡ false → t.entries path ≡ Some entry → IsPruned path (after_clear path t) left
    → (at : List ℕ) → mark (left.entries at) ≡ mark (t.entries at)
dropped mark path entry t left none gone is pruned at = ap mark (pruned.entries at) ∙ elim (cases_Bool (bytes_eq path at)) [
  | inl here ↦
      ap mark (update_same bytes_eq t.entries path None at here) ∙ none ∙ sym gone ∙ ap mark (sym is) ∙ ap (λ (p : List ℕ). mark (t.entries p)) ((bytes_eq-Decides path at).0 here)
  | inr apart ↦ ap mark (update_other bytes_eq t.entries path None at apart)
]

module _ (path : List ℕ) (entry : EntryData) (old new : Table) (is : old.entries path ≡ Some entry) where
  forgets_by : (either : Bool) → (entry.p1 || entry.p2) ≡ either → MatchBool either (IsSame new (after_untracked path entry old)) (IsPruned path (after_clear path old) new) → KeepsTable old new
  forgets_by true either same =
      same_then old (after_untracked path entry old) new
      (set_keeps path (untracked entry) None old
      (ap (λ (e : EntryData). e.stamp) (untracked_is entry either))
      (ap (λ (e : EntryData). e.p1) (untracked_is entry either) ∙ sym (ap is_first is))
      (ap (λ (e : EntryData). e.p2) (untracked_is entry either) ∙ sym (ap is_second is)))
      same
  forgets_by false either pruned = record {
    times = drop_keeps_times path old new pruned;
    p1 = pruned.p1;
    p2 = pruned.p2;
    first = dropped is_first path entry old new refl (neither entry.p1 entry.p2 either).0 is pruned;
    second = dropped is_second path entry old new refl (neither entry.p1 entry.p2 either).1 is pruned;
  }

forgets_from : (word : List ℕ) (old new : Table) (was : Option EntryData) → old.entries word ≡ was → IsUntracked word was old new → KeepsTable old new
forgets_from word old new None is same = table_same old new same
forgets_from word old new (Some entry) is left = forgets_by word entry old new is (entry.p1 || entry.p2) refl left

pub forgotten_keeps : (word : List ℕ) (refused : Option Refusal) (old new : Table) → IsForgotten word refused old new → KeepsTable old new
forgotten_keeps word None old new left = forgets_from word old new (old.entries word) refl left
forgotten_keeps word (Some refusal) old new same = table_same old new same

-- ---- notes

-- a good table with notes that are earned by then
pub noted_good : (files : Files) (t loaded made : Table) (notes : NotesData) (h later : History) → Extends h later → IsSame loaded t → IsSame made (applied notes t) → AreEarned (rows_in t files) t later notes → IsGoodIn files loaded h
    → IsGoodIn files made later
noted_good files t loaded made notes h later past same is earned good =
    let there : IsGoodIn files t h = table_good files loaded t h (table_same loaded t (same_back loaded t same)) good in
    let then_good : IsGoodIn files t later = record { consistent = there.consistent; trusted = trust_stays (rows_in t files) t h later past there.trusted } in
    table_good files (applied notes t) made later (table_same (applied notes t) made is) (noted_is_good (manifest_at files (first_id t)) (rows_in t files) t later notes then_good earned)
