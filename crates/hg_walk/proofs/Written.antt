-- Edits that are written behind one another, and one of them alone.
use Rattle.std.proofs.Common.{ℕ, ◌≡◌, inl, inr, Bool, true, false, not, ◌&&◌, ◌||◌, cond, List, Option, Some, None, refl, sym, ap, ◌∙◌, true≢false}
use Rattle.std.specs.Prelude.{is_some}
use Rattle.std.specs.Str.{bytes_eq}
use Rattle.std.proofs.lemmas.Bool.{cases_Bool}
use Rattle.hg_base.specs.Within.{is_above, is_within}
use Rattle.hg_base.proofs.Within.{same_bytes, within_split}
use Rattle.hg_entry.specs.Entry.{CacheData, EntryData}
use Rattle.hg_entry.specs.Table.{Table}
use Rattle.hg_mixed.specs.Edits.{ArePlacedAsBefore, IsOfSameImage, Lends}
use Rattle.hg_nodes.specs.Edits.{IsFormed, IsSame, Marks, after_set}
use Rattle.hg_mixed.specs.Held.{Held, is_lent, table}
use Rattle.hg_walk.specs.Applying.{Differs}
use Rattle.hg_walk.specs.Writing.{IsEdit, IsWritten, with_entry}

-- ---- tables

pub table_same : (t : Table) → IsSame t t
table_same t = record { p1 = refl; p2 = refl; hash = refl; entries = λ at. refl; sources = λ at. refl; nodes = λ at. refl; caches = λ at. refl }

pub same_on : (a b c : Table) → IsSame a b → IsSame b c → IsSame a c
same_on a b c p q = record {
  p1 = p.p1 ∙ q.p1;
  p2 = p.p2 ∙ q.p2;
  hash = p.hash ∙ q.hash;
  entries = λ at. p.entries at ∙ q.entries at;
  sources = λ at. p.sources at ∙ q.sources at;
  nodes = λ at. p.nodes at ∙ q.nodes at;
  caches = λ at. p.caches at ∙ q.caches at;
}

pub image_same : (a : Held) → IsOfSameImage a a
image_same a = record { docket = refl; bytes = refl }

pub image_on : (a b c : Held) → IsOfSameImage a b → IsOfSameImage b c → IsOfSameImage a c
image_on a b c p q = record { docket = q.docket ∙ p.docket; bytes = q.bytes ∙ p.bytes }

pub places_same : (a : Held) → ArePlacedAsBefore a a
places_same a = record { texts = λ at. refl; sources = λ at. refl }

pub places_on : (a b c : Held) → ArePlacedAsBefore a b → ArePlacedAsBefore b c → ArePlacedAsBefore a c
places_on a b c p q = record { texts = λ at. q.texts at ∙ p.texts at; sources = λ at. q.sources at ∙ p.sources at }

-- ---- edits behind one another

pub unwritten : (known : (List ℕ → Bool) → Type 0) (target : Table) (old : Held) → IsSame (table old) target → IsWritten known target old old
unwritten known target old same = record {
  made = same;
  kept = λ k. refl;
  marked = λ other. absurd (other (table_same (table old)));
  stays = λ is. is;
  lent = λ dir k. refl;
  ended = λ dir at above other. absurd (other refl refl);
  unlent = λ dir is. is;
  places = places_same old;
}

pub written_on : (first second whole : (List ℕ → Bool) → Type 0) (half target end : Table) (a b c : Held) → IsWritten first half a b → IsWritten second target b c → IsSame target end
    → ((test : List ℕ → Bool) → whole test → first test) → ((test : List ℕ → Bool) → whole test → second test) → IsWritten whole end a c
written_on first second whole half target end a b c p q same to_first to_second = record {
  made = same_on (table c) target end q.made same;
  kept = λ k. q.kept (to_second (λ path. true) k) ∙ p.kept (to_first (λ path. true) k);
  marked = λ other. by_mark other c.changed refl;
  stays = λ is. q.stays (p.stays is);
  lent = λ dir k. q.lent dir (to_second (is_above dir) k) ∙ p.lent dir (to_first (is_above dir) k);
  ended = λ dir at above other. by_lent dir at above other (is_lent c dir) refl;
  unlent = λ dir is. q.unlent dir (p.unlent dir is);
  places = places_on a b c p.places q.places;
}
  where
    by_mark : (IsSame (table c) (table a) → ⊥) → (mark : Bool) → c.changed ≡ mark → c.changed ≡ true
    by_mark other true is = is
    by_mark other false is = absurd (no_second (λ s2. no_first (λ s1. other (same_on (table c) (table b) (table a) s2 s1))))
      where
        no_second : (IsSame (table c) (table b) → ⊥) → ⊥
        no_second d = true≢false (sym (q.marked d) ∙ is)

        no_first : (IsSame (table b) (table a) → ⊥) → ⊥
        no_first d = true≢false (sym (q.stays (p.marked d)) ∙ is)

    by_lent : (dir : Option (List ℕ)) (at : List ℕ) → is_above dir at ≡ true → Differs at (table a) (table c) → (lent : Bool) → is_lent c dir ≡ lent → is_lent c dir ≡ false
    by_lent dir at above other false is = is
    by_lent dir at above other true is = absurd (no_second (λ e2 c2. absurd (no_first (λ e1 c1. other (e2 ∙ e1) (c2 ∙ c1)))))
      where
        no_second : Differs at (table b) (table c) → ⊥
        no_second d = true≢false (sym is ∙ q.ended dir at above d)

        no_first : Differs at (table a) (table b) → ⊥
        no_first d = true≢false (sym is ∙ q.unlent dir (p.ended dir at above d))

-- ---- one edit

off : (lent above : Bool) → above ≡ true → (lent && not above) ≡ false
off true above is = ap not is
off false above is = refl

on : (lent above : Bool) → above ≡ false → (lent && not above) ≡ lent
on true above is = ap not is
on false above is = refl

never : (lent above : Bool) → lent ≡ false → (lent && not above) ≡ false
never lent above is = ap (λ (b : Bool). b && not above) is

stable : (a b : Bool) → ((a ≡ b → ⊥) → ⊥) → a ≡ b
stable true true n = refl
stable false false n = refl
stable true false n = absurd (n true≢false)
stable false true n = absurd (n (λ is. true≢false (sym is)))

-- an edit at one path alone
pub edit_is_written : (path : List ℕ) (target : Table) (a b : Held) → IsEdit path target a b
    → ((at : List ℕ) → bytes_eq path at ≡ false → (target.entries at ≡ (table a).entries at) × (target.caches at ≡ (table a).caches at))
    → IsWritten (λ test. test path ≡ true → IsSame target (table a)) target a b
edit_is_written path target a b e apart = record {
  made = e.made;
  kept = λ k. e.marks.kept (same_on (table b) target (table a) e.made (k refl));
  marked = e.marks.marked;
  stays = λ was. by_mark was b.changed refl;
  lent = λ dir k. by_above dir k;
  ended = λ dir at above other. by_place dir at above other;
  unlent = λ dir was. by_lent dir was (is_lent b dir) refl;
  places = e.places;
}
  where
    by_mark : a.changed ≡ true → (mark : Bool) → b.changed ≡ mark → b.changed ≡ true
    by_mark was true is = is
    by_mark was false is = e.marks.marked (λ same. true≢false (sym was ∙ sym (e.marks.kept same) ∙ is))

    by_above : (dir : Option (List ℕ)) → (is_above dir path ≡ true → IsSame target (table a)) → is_lent b dir ≡ is_lent a dir
    by_above dir k = elim (cases_Bool (is_above dir path)) [
      | inl above ↦ e.lends.kept (same_on (table b) target (table a) e.made (k above)) dir
      | inr beside ↦
          stable (is_lent b dir) (is_lent a dir)
          (λ other. other (e.lends.ended (λ same. other (e.lends.kept same dir)) dir ∙ on (is_lent a dir) (is_above dir path) beside))
    ]

    by_lent : (dir : Option (List ℕ)) → is_lent a dir ≡ false → (lent : Bool) → is_lent b dir ≡ lent → is_lent b dir ≡ false
    by_lent dir was false is = is
    by_lent dir was true is =
        e.lends.ended (λ same. true≢false (sym is ∙ e.lends.kept same dir ∙ was)) dir ∙ never (is_lent a dir) (is_above dir path) was

    by_place : (dir : Option (List ℕ)) (at : List ℕ) → is_above dir at ≡ true → Differs at (table a) (table b) → is_lent b dir ≡ false
    by_place dir at above other = elim (cases_Bool (bytes_eq path at)) [
      | inl here ↦
          e.lends.ended (λ same. other (same.entries at) (same.caches at)) dir
          ∙ off (is_lent a dir) (is_above dir path) (ap (is_above dir) (same_bytes path at here) ∙ above)
      | inr beside ↦ absurd (other (e.made.entries at ∙ (apart at beside).0) (e.made.caches at ∙ (apart at beside).1))
    ]

-- ---- an entry in place of another

-- its path and the directories above it are nodes already, and it is no cached directory
pub over : (path : List ℕ) (entry was : EntryData) (t : Table) → IsFormed t → t.entries path ≡ Some was → IsSame (after_set path entry t) (with_entry path entry t)
over path entry was t formed is = record {
  p1 = refl;
  p2 = refl;
  hash = refl;
  entries = λ at. refl;
  sources = λ at. refl;
  nodes = λ at. elim (cases_Bool (is_within at path)) [
    | inl within ↦ node_or (t.nodes at) (is_within at path) (rooted at within)
    | inr apart ↦ ap (λ (b : Bool). t.nodes at || b) apart ∙ or_none (t.nodes at)
  ];
  caches = λ at. elim (cases_Bool (bytes_eq path at)) [
    | inl here ↦ ap (λ (b : Bool). cond b None (t.caches at)) here ∙ sym (ap t.caches (sym (same_bytes path at here)) ∙ uncached (t.caches path) refl)
    | inr apart ↦ ap (λ (b : Bool). cond b None (t.caches at)) apart
  ];
}
  where
    node_or : (node within : Bool) → node ≡ true → (node || within) ≡ node
    node_or true within h = refl
    node_or false within h = absurd (true≢false (sym h))

    or_none : (node : Bool) → (node || false) ≡ node
    or_none true = refl
    or_none false = refl

    own : t.nodes path ≡ true
    own = elim (cases_Bool (t.nodes path)) [ inl node ↦ node | inr none ↦ no_entry (sym is ∙ formed.entries path none) ]
      where
        no_entry : Some was ≡ None → t.nodes path ≡ true
        no_entry h = absurd (cc h)

    rooted : (at : List ℕ) → is_within at path ≡ true → t.nodes at ≡ true
    rooted at within = elim (within_split at path within) [
      | inl same ↦ ap t.nodes (sym same) ∙ own
      | inr below ↦ formed.rooted at path below own
    ]

    uncached : (cache : Option CacheData) → t.caches path ≡ cache → t.caches path ≡ None
    uncached None same = same
    uncached (Some stamp) same = entry_none (sym is ∙ (formed.caches path (ap is_some same)).1)
      where
        entry_none : Some was ≡ None → t.caches path ≡ None
        entry_none h = absurd (cc h)

pub edit_over : (path : List ℕ) (entry was : EntryData) (a b : Held) → IsFormed (table a) → (table a).entries path ≡ Some was → IsSame (table b) (after_set path entry (table a))
    → Marks (IsSame (table b) (table a)) a.changed b.changed → Lends path (IsSame (table b) (table a)) a b → ArePlacedAsBefore a b → IsEdit path (with_entry path entry (table a)) a b
edit_over path entry was a b formed is made marks lends places = record {
  made = same_on (table b) (after_set path entry (table a)) (with_entry path entry (table a)) made (over path entry was (table a) formed is);
  marks = marks;
  lends = lends;
  places = places;
}
