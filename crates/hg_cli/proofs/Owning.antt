-- What a status without fault prints of the copy, and what it leaves, where each step is the caller's own.
use Rattle.std.proofs.Common.{ℕ, ◌≡◌, ◌<◌, ◌≤◌, Bool, true, false, cond, ◌||◌, List, ◌++◌, Option, Some, None, Result, Ok, Err, inl, inr, refl, sym, ap, ◌∙◌, arith, true≢false}
use Rattle.std.specs.Prelude.{IsTrue, codes, is_some}
use Rattle.std.proofs.lemmas.Bool.{cases_lt}
use Rattle.hg_entry.specs.Entry.{EntryData, StampData}
use Rattle.hg_entry.specs.Table.{Table}
use Rattle.hg_gen.specs.Copy.{contents_of}
use Rattle.hg_gen.specs.Recorded.{IsStored, IsTable, is_tracked, parent, plain_entry}
use Rattle.hg_gen.specs.Manifest.{is_in_parent}
use Rattle.hg_image.specs.Reading.{RecordFault}
use Rattle.hg_manifest.specs.Load.{manifest_in}
use Rattle.hg_manifest.specs.Plain.{plain_name}
use Rattle.hg_save.proofs.Loads.{unstepped_found}
use Rattle.hg_save.specs.Record.{reading}
use Rattle.hg_session.specs.Change.{IsReadFirst, NoneOurs, up_to}
use Rattle.hg_shelf.specs.History as shelf
use Rattle.hg_shelf.specs.Polite.{KeepsPlain, is_plain}
use Rattle.hg_tree.specs.History as tree
use Rattle.hg_tree.specs.Honest.{IsHonest}
use Rattle.hg_walk.specs.Trust.{IsTrusted}
use Rattle.hg_walk.specs.Walking.{rows_in}
use Rattle.hg_cli.proofs.Standing.{HasParent, IsMarked, stored_parent, table_marked}

-- ---- no step but the caller's

us_not_others : tree.us ≡ tree.others → ⊥
us_not_others same = cc same

-- a tree that the caller only asks stays at its moment
pub still_tree : (old new : tree.History) → tree.Passes old new → ((k : ℕ) → new.who k ≡ tree.us) → new.last ≡ old.last
still_tree old new passes ours =
    let later : old.last ≤ new.last = passes.past.later in
    elim (cases_lt old.last new.last) [
      | inl less ↦ absurd (us_not_others (sym (ours old.last) ∙ passes.by_others old.last (omega arith) less))
      | inr upto ↦ omega (arith, later, upto)
    ]

pub same_moment : (old new : tree.History) → tree.Passes old new → new.last ≡ old.last → tree.now new ≡ tree.now old
same_moment old new passes still = ap new.at still ∙ passes.past.stay old.last (omega arith)

-- where nothing changes, times are honest
pub honest_still : (h : tree.History) → h.last ≡ 0 → IsHonest h
honest_still h none = record {
  clocks = λ k below. absurd (omega (arith, none, below));
  faces = λ k path time below other shows. absurd (omega (arith, none, below));
}

module _ (h : shelf.History) (ours : (k : ℕ) → k < h.last → h.who k ≡ shelf.us) where
  pub none_late : (from to : ℕ) → to ≤ h.last → NoneOurs h from to → to ≤ from
  none_late from to within none = elim (cases_lt from to) [
    | inl less ↦ absurd (none from (omega arith) less (ours from (omega (arith, less, within))))
    | inr upto ↦ upto
  ]

  not_label : (held : Bool) → shelf.us ≡ shelf.label held → ⊥
  not_label true same = cc same
  not_label false same = cc same

  pub asked_still : (old : shelf.History) → shelf.Passes old h → h.last ≤ old.last
  asked_still old passes = elim (cases_lt old.last h.last) [
    | inl less ↦ absurd (not_label old.ours (sym (ours old.last less) ∙ passes.by_others old.last (omega arith) less))
    | inr upto ↦ upto
  ]

  -- what was read before a step stands in the files at the start
  pub read_there : (old : shelf.History) → shelf.Extends old h → (t : Table) → IsReadFirst old h t → reading (shelf.now old).files ≡ Some (Ok t)
  read_there old past t first =
      let early : first.upto ≤ old.last = none_late old.last first.upto first.within first.none in
      let late : old.last ≤ first.upto = first.later in
      let front : shelf.Extends old (up_to first.upto h) = record { told = past.told; later = late; who = past.who; stay = past.stay } in
      sym (unstepped_found old (up_to first.upto h) first.read.tries front (omega (arith, early, late)) first.read.tried) ∙ first.read.found

-- ---- two readings of the same

table_in : Table → Option (Result Table RecordFault) → Table
table_in t (Some (Ok other)) = other
table_in t (Some (Err fault)) = t
table_in t None = t

pub one_reading : (r : Option (Result Table RecordFault)) (a b : Table) → r ≡ Some (Ok a) → r ≡ Some (Ok b) → a ≡ b
unfolding table_in
one_reading r a b left right = ap (table_in a) (sym left ∙ right)

-- ---- the plain store stays

pub not_plain : (name other : List ℕ) → is_plain other ≡ false → is_plain name ≡ true → name ≡ other → ⊥
not_plain name other foreign plain same = true≢false (sym plain ∙ ap is_plain same ∙ foreign)

module _ (old new : shelf.History) (past : shelf.Extends old new) (told : IsTrue old.told) (ours : (k : ℕ) → k < new.last → new.who k ≡ shelf.us) where
  pub plain_unwritten : new.last ≤ old.last → KeepsPlain new old.last
  plain_unwritten none = record {
    told = past.told ∙ told;
    each = λ name plain k from upto. let same : k ≡ old.last = omega (arith, none, from, upto) in ap (λ (j : ℕ). (new.at j).files name) same;
  }

-- ---- what stands between two statuses

-- the files record a table of the copy whose times may be trusted, and keep its parent
pub record IsBetween (dirs : ℕ) (files : shelf.Files) (h : tree.History) : Type 0 where
  pub table : Table
  pub reads : reading files ≡ Some (Ok table)
  pub marked : IsMarked dirs table
  pub uncached : (dir : List ℕ) → table.caches dir ≡ None
  pub trusted : IsTrusted (rows_in table files) table h
  pub parent : HasParent dirs files

-- no time is recorded at first
abbrev stamp_in : Option EntryData → Option StampData
stamp_in None = None
stamp_in (Some entry) = entry.stamp

unstamped : (b w p1 : Bool) → stamp_in (cond b (Some (plain_entry w p1)) None) ≡ None
unstamped true w p1 = refl
unstamped false w p1 = refl

timeless : (dirs : ℕ) (t : Table) → IsTable dirs t → (path : List ℕ) (entry : EntryData) → t.entries path ≡ Some entry → entry.stamp ≡ None
timeless dirs t is path entry there =
    let at = is.entries.only path (ap is_some there) in
    ap stamp_in (sym there) ∙ ap (λ (p : List ℕ). stamp_in (t.entries p)) at.2 ∙ ap stamp_in (is.entries.entry at.0 at.1)
    ∙ unstamped (is_tracked at.0 || is_in_parent at.0) (is_tracked at.0) (is_in_parent at.0)

pub is_not : {A : Type 0} (found : Option A) (value : A) → found ≡ None → found ≡ Some value → ⊥
is_not found value none some = let both : None ≡ Some value = sym none ∙ some in absurd (cc both)

pub fresh_between : (dirs : ℕ) (files : shelf.Files) (h : tree.History) → IsStored dirs files → IsBetween dirs files h
fresh_between dirs files h stored = record {
  table = stored.table;
  reads = stored.recorded;
  marked = table_marked dirs stored.table stored.is;
  uncached = stored.is.entries.caches;
  trusted = record {
    entries = λ path entry stamp there could. absurd (is_not entry.stamp stamp (timeless dirs stored.table stored.is path entry there) could.stamp_is);
    caches = λ dir cache there. absurd (is_not (stored.table.caches dir) cache (stored.is.entries.caches dir) there);
  };
  parent = stored_parent dirs files stored;
}

-- what keeps the plain store keeps the parent
pub parent_kept : (dirs : ℕ) (f g : shelf.Files) → ((name : List ℕ) → is_plain name ≡ true → g name ≡ f name) → HasParent dirs f → HasParent dirs g
parent_kept dirs f g alike has = record {
  rows = has.rows;
  manifest = ap (λ (o : Option (List ℕ)). manifest_in (record { 0 = parent }) o) (alike (plain_name parent) refl) ∙ has.manifest;
  named = has.named;
  plain = has.plain;
  contents = λ i below there. alike (codes "plain/f-" ++ contents_of i) refl ∙ has.contents i below there;
}
