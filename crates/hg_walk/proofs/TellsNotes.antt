-- What is noted of one path of a record, and of one behind others.
use Rattle.std.proofs.Common.{ℕ, ◌≡◌, ◌≤◌, Bool, true, false, not, ◌&&◌, ◌||◌, cond, List, [], ◌∷◌, ◌++◌, Option, Some, None, option_map, refl, sym, ap, ◌∙◌, subst, arith, inl, inr}
use Rattle.std.specs.Prelude.{IfSome, IsTrue, is_some}
use Rattle.std.specs.Option.{option_or}
use Rattle.std.specs.List.{Contains}
use Rattle.std.specs.Str.{bytes_eq}
use Rattle.std.proofs.lemmas.Bool.{or_parts}
use Rattle.std.proofs.lemmas.List.Elements.{Contains-append_cases}
use Rattle.std.proofs.lemmas.List.Folds.{find-append}
use Rattle.std.proofs.lemmas.Slice.Eq.{bytes_eq-Decides}
use Rattle.hg_base.specs.declared.stat.Kind.{Kind}
use Rattle.hg_base.specs.declared.stat.Kind.TheVariants as a_kind
use Rattle.hg_base.specs.declared.stat.Stat.{Stat}
use Rattle.hg_base.specs.declared.time.Stamp.{Stamp}
use Rattle.hg_base.specs.declared.time.Time.{Time}
use Rattle.hg_compare.specs.Tracked.{is_file_or_link, is_unchanged, tracked_letter}
use Rattle.hg_compare.specs.declared.letter.Letter.{Letter}
use Rattle.hg_compare.specs.declared.letter.Letter.TheVariants as a_letter
use Rattle.hg_entry.specs.Entry.{EntryData, StampData, stamp_view, view}
use Rattle.hg_entry.specs.Steps.{is_file, seen_clean}
use Rattle.hg_entry.specs.Table.{Table, marks_of}
use Rattle.hg_entry.specs.declared.entry.Entry.{Entry}
use Rattle.hg_flat.specs.Listing.{is_compared_row, is_file_or_link_kind, marked_letter, wants_bytes, wants_tracked}
use Rattle.hg_flat.specs.Met.{Status}
use Rattle.hg_flat.specs.Parent.{KeepsRow, is_plain_entry}
use Rattle.hg_flat.specs.declared.parent.Parent.{Parent}
use Rattle.hg_flat.proofs.Faces.{stat_alike, stays_shown}
use Rattle.hg_flat.proofs.Letters.{compared_parts, marked_plain, there_is}
use Rattle.hg_flat.proofs.Moved.{letter_moved}
use Rattle.hg_flat.proofs.Tracking.{row_earlier}
use Rattle.hg_listing.specs.declared.row.Wanted.{Wanted}
use Rattle.hg_mixed.specs.Gathered.{path_of}
use Rattle.hg_mixed.specs.declared.line.Line.{Line}
use Rattle.hg_mtime.specs.Stamps.{stamp_of}
use Rattle.hg_mtime.specs.Vouching.{vouches}
use Rattle.hg_shelf.specs.History as shelves
use Rattle.hg_shelf.proofs.Histories as shelf
use Rattle.hg_tree.specs.History as trees
use Rattle.hg_tree.specs.Moment.{Moment, stat_at}
use Rattle.hg_tree.proofs.Faces.{past_honest}
use Rattle.hg_tree.specs.Still.{Untouched}
use Rattle.hg_tree.proofs.Histories.{extends_same}
use Rattle.hg_tree.proofs.Stillness.{alike_at, alike_between, untouched_first, untouched_second}
use Rattle.hg_walk.specs.Finding.{IsEarnedBy, IsNoted, IsNotedIfClean, Look, rows_by}
use Rattle.hg_walk.specs.Notes.{CleanNote, IsCleanNote, clean_at}
use Rattle.hg_walk.specs.Telling.{AreNotesOf, IsAtChild, IsChildOf, ShowsNow, WasShown, copied_in, notes_of, tracked_row}
use Rattle.hg_walk.specs.Walking.{IsNeededNote, walk_status}
use Rattle.hg_walk.proofs.Growing.{earned_on, found, only_one}
use Rattle.hg_walk.proofs.Tells.{child_copied, child_entry}

nothing : {A : Type 0} (x : A) → Contains [] x → ⊥
nothing x (n, below, is) = absurd (omega (arith, below))

-- ---- a path that is clean

-- the letter C comes from plain marks, a file or a link, and what equals the first parent's row
clean_parts : (w there p2 p1 copied same : Bool)
    → cond w (Some (cond (not there) a_letter.Gone (cond p2 a_letter.M (cond (not p1) a_letter.A (cond copied a_letter.M (cond same a_letter.C a_letter.M)))))) (cond (p1 || p2) (Some a_letter.R) None) ≡ Some a_letter.C
    → ((w && p1 && not p2 && not copied) ≡ true) × (there ≡ true) × (same ≡ true)
clean_parts true true false true false true is = (refl, refl, refl)
clean_parts true true false true false false is = absurd (cc is)
clean_parts true true false true true same is = absurd (cc is)
clean_parts true true false false copied same is = absurd (cc is)
clean_parts true true true p1 copied same is = absurd (cc is)
clean_parts true false p2 p1 copied same is = absurd (cc is)
clean_parts false there p2 true copied same is = absurd (cc is)
clean_parts false there true false copied same is = absurd (cc is)
clean_parts false there false false copied same is = absurd (cc is)

-- a record says of a child's path that it is clean, where it shows that
abbrev IsCleanThere : shelves.Files → Status → Table → Line → EntryData → Stat → Type 0
IsCleanThere store s t child entry stat =
    (t.entries (path_of child) ≡ Some entry) × (stat_at (trees.now s.tree_old) (path_of child) ≡ Some stat)
    × (tracked_letter (rows_by store s (path_of child)) (marks_of entry) (is_some (t.sources (path_of child))) ((trees.now s.tree_old).things (path_of child)) ≡ Some a_letter.C)

some_is : {A : Type 0} (a b : A) → Some a ≡ Some b → a ≡ b
some_is a b is = cc is

module _ (s : Status) (t : Table) (child : Line) (entry : Entry) (of : IsChildOf t child) (is : child.entry ≡ Some entry) where
  -- its entry is that of the child
  same_entry : (other : EntryData) → t.entries (path_of child) ≡ Some other → other ≡ view entry
  same_entry other has = some_is other (view entry) (sym has ∙ child_entry t child entry of is)

  clean_here : (store : shelves.Files) (other : EntryData) (stat : Stat) → IsCleanThere store s t child other stat
      → (((view entry).w && (view entry).p1 && not (view entry).p2 && not (copied_in child)) ≡ true) × (is_file_or_link ((trees.now s.tree_old).things (path_of child)) ≡ true)
      × (is_unchanged (rows_by store s (path_of child)) ((trees.now s.tree_old).things (path_of child)) ≡ true)
  clean_here store other stat (has, shown, clean) =
      clean_parts (view entry).w (is_file_or_link ((trees.now s.tree_old).things (path_of child))) (view entry).p2 (view entry).p1 (copied_in child)
      (is_unchanged (rows_by store s (path_of child)) ((trees.now s.tree_old).things (path_of child)))
      (subst (λ (b : Bool). tracked_letter (rows_by store s (path_of child)) (marks_of (view entry)) b ((trees.now s.tree_old).things (path_of child)) ≡ Some a_letter.C) (sym (child_copied t child of))
      (subst (λ (e : EntryData). tracked_letter (rows_by store s (path_of child)) (marks_of e) (is_some (t.sources (path_of child))) ((trees.now s.tree_old).things (path_of child)) ≡ Some a_letter.C) (same_entry other has) clean))

-- ---- nothing is noted

-- no letter that bytes decide is wanted, or the path isn't clean at the start
abbrev NoneClean : Status → Table → Line → Type 0
NoneClean s t child =
    IsTrue s.tree_old.told → Untouched s.tree_new s.tree_old.last (path_of child) → wants_bytes s.wanted ≡ true → (store : shelves.Files) (entry : EntryData) (stat : Stat) → IsCleanThere store s t child entry stat → ⊥

notes_none : (s : Status) (t : Table) (boundary : Time) (child : Line) → NoneClean s t child → AreNotesOf s t boundary (child ∷ []) []
notes_none s t boundary child none = record {
  needed = λ note has. absurd (nothing note has);
  stamp = λ note has. absurd (nothing note has);
  shown = λ told note has. absurd (nothing note has);
  earned = λ store honest told clock keeps note has. absurd (nothing note has);
  recorded = λ store told wants other entry stat stamp has left keeps is shown clean unvouched stamped.
      absurd
      (subst (λ (o : Line). Untouched s.tree_new s.tree_old.last (path_of o) → IsCleanThere store s t o entry stat → ⊥) (only_one child other has) (λ alone. none told alone wants store entry stat) left
      (is, shown, clean));
}

pub notes_unwanted : (s : Status) (t : Table) (boundary : Time) (child : Line) → wants_bytes s.wanted ≡ false → AreNotesOf s t boundary (child ∷ []) []
notes_unwanted s t boundary child none = notes_none s t boundary child (λ told left wants store entry stat clean. cc (none, wants))

-- no letter is wanted that takes a look
pub notes_unlooked : (s : Status) (t : Table) (boundary : Time) (child : Line) → wants_tracked s.wanted ≡ false → AreNotesOf s t boundary (child ∷ []) []
notes_unlooked s t boundary child none = notes_unwanted s t boundary child (by s.wanted.m s.wanted.c parts.0 parts.1)
  where
    by : (m c : Bool) → m ≡ false → c ≡ false → (m || c) ≡ false
    by true c m_none c_none = absurd (cc m_none)
    by false c m_none c_none = c_none

    parts : (s.wanted.m ≡ false) × (s.wanted.c ≡ false)
    parts =
        let c = or_parts (s.wanted.m || s.wanted.a || s.wanted.d) s.wanted.c none in
        let d = or_parts (s.wanted.m || s.wanted.a) s.wanted.d c.0 in let a = or_parts s.wanted.m s.wanted.a d.0 in (a.0, c.1)

-- a child without an entry
pub notes_bare : (s : Status) (t : Table) (boundary : Time) (child : Line) → IsChildOf t child → child.entry ≡ None → AreNotesOf s t boundary (child ∷ []) []
notes_bare s t boundary child of none =
    notes_none s t boundary child
    (λ told left wants store entry stat clean. let has : option_map view child.entry ≡ Some entry = of.entry ∙ clean.0 in cc (none, has))

first_of : (w p1 p2 copied : Bool) → (w && p1 && not p2 && not copied) ≡ true → w ≡ true
first_of true p1 p2 copied is = refl
first_of false p1 p2 copied is = absurd (cc is)

-- a path that isn't tracked any more
pub notes_removed : (s : Status) (t : Table) (boundary : Time) (child : Line) (entry : Entry) → IsChildOf t child → child.entry ≡ Some entry → (view entry).w ≡ false → AreNotesOf s t boundary (child ∷ []) []
notes_removed s t boundary child entry of is gone =
    notes_none s t boundary child
    (λ told left wants store other stat clean.
    let w = first_of (view entry).w (view entry).p1 (view entry).p2 (copied_in child) (clean_here s t child entry of is store other stat clean).0 in cc (gone, w))

-- a path at which a look showed nothing
pub notes_gone : (s : Status) (t : Table) (boundary : Time) (child : Line) → trees.Passes s.tree_old s.tree_new → (IsTrue s.tree_old.told → stat_at (trees.now s.tree_new) (path_of child) ≡ None) → AreNotesOf s t boundary (child ∷ []) []
notes_gone s t boundary child passes gone =
    notes_none s t boundary child
    (λ told left wants store other stat clean.
    let alike = alike_between s.tree_old s.tree_new s.tree_new (path_of child) passes.past (extends_same s.tree_new) left in
    let none : stat_at (trees.now s.tree_old) (path_of child) ≡ None = sym (stat_alike (trees.now s.tree_new) (trees.now s.tree_old) (path_of child) alike) ∙ gone told in
    let some = clean.1 in cc (none, some))

-- a path whose marks decide its letter
pub notes_marked : (s : Status) (t : Table) (boundary : Time) (child : Line) (entry : Entry) (there : Stat) (letter : Letter) → IsChildOf t child → child.entry ≡ Some entry → ShowsNow s.tree_old (path_of child) there
    → marked_letter (tracked_row child entry) there ≡ Some letter → AreNotesOf s t boundary (child ∷ []) []
notes_marked s t boundary child entry there letter of is shown marked =
    notes_none s t boundary child
    (λ told left wants store other stat clean.
    let plain = clean_here s t child entry of is store other stat clean in
    marked_plain (tracked_row child entry) there letter plain.0 (sym (there_is (trees.now s.tree_old) (path_of child) there (shown told)) ∙ plain.1) marked)

-- ---- a path that is compared

pub if_some_weaker : {A : Type 0} (o : Option A) (P Q : A → Type 0) → ((a : A) → P a → Q a) → IfSome o P → IfSome o Q
if_some_weaker None P Q goes is = tt
if_some_weaker (Some a) P Q goes is = goes a is

file_kind : (kind : Kind) → is_file_or_link_kind kind ≡ true → is_file kind ≡ true
file_kind a_kind.File is = refl
file_kind a_kind.Link is = refl
file_kind a_kind.Dir is = absurd (cc is)
file_kind a_kind.Other is = absurd (cc is)

module _ (wanted : Wanted) (t : Table) (start old new : trees.History) (begun files later : shelves.History) (parent : Parent) (child : Line) (entry : Entry) (there : Stat) (boundary : Time) (letter : Letter)
    (come : IsAtChild (walk_status wanted t start old begun files) t parent child) (is : child.entry ≡ Some entry) (shown : ShowsNow old (path_of child) there) (passes : trees.Passes old new)
    (compared : is_compared_row wanted (tracked_row child entry) ≡ true) (kind : is_file_or_link_kind there.kind ≡ true) where
  abbrev look : Look
  look = record {
    path = path_of child;
    entry = view entry;
    copied = copied_in child;
    before = there;
    tree_old = old;
    tree_new = new;
    shelf_old = files;
    shelf_new = later;
  }

  abbrev here : Status
  here = walk_status wanted t start old begun files

  abbrev call : Status
  call = walk_status wanted t old new begun later

  abbrev own_note : Stamp → CleanNote
  own_note st = record { path = path_of child; stat = there; stamp = stamp_view st }

  needed_own : (st : Stamp) → vouches (view entry) (copied_in child) there ≡ false → IsNeededNote t (own_note st)
  needed_own st unvouched = record {
    entry = view entry;
    is = child_entry t child entry come.of is;
    marks = subst (λ (b : Bool). is_plain_entry (Some (marks_of (view entry))) b ≡ true) (child_copied t child come.of) (compared_parts wanted (tracked_row child entry) compared).1;
    kind = file_kind there.kind kind;
    unvouched = subst (λ (b : Bool). vouches (view entry) b there ≡ false) (child_copied t child come.of) unvouched;
  }

  -- a clean path that stays is noted as the comparison says
  noted_so : (store : shelves.Files) (stamp : Option StampData) → IsNotedIfClean look here parent boundary stamp → IsTrue old.told → Untouched new old.last (path_of child) → KeepsRow store later begun.last here.id (path_of child) → (other : EntryData) (stat : Stat) → IsCleanThere store call t child other stat
      → vouches other (is_some (t.sources (path_of child))) stat ≡ false → (stat ≡ there) × (stamp ≡ stamp_of stat.mtime boundary)
  noted_so store stamp noted told left keeps other stat clean unvouched =
      let same : stat ≡ there = some_is stat there (sym clean.1 ∙ shown told) in (
        same,
        noted store (record { goes = come.goes; told = told; shown = shown told }) (stays_shown old new (path_of child) left) keeps
            (subst (λ (e : EntryData). vouches e (copied_in child) there ≡ false) (same_entry call t child entry come.of is other clean.0)
            (subst (λ (b : Bool). vouches other b there ≡ false) (sym (child_copied t child come.of)) (subst (λ (st : Stat). vouches other (is_some (t.sources (path_of child))) st ≡ false) same unvouched)))
            (clean_here call t child entry come.of is store other stat clean).2
            ∙ ap (λ (st : Stat). stamp_of st.mtime boundary) (sym same),
      )

  pub notes_found : (stamp : Option Stamp) → IfSome (option_map stamp_view stamp) (λ st. IsEarnedBy look here parent boundary st) → IfSome (option_map stamp_view stamp) (IsNoted look boundary letter)
      → IsNotedIfClean look here parent boundary (option_map stamp_view stamp)
      → AreNotesOf call t boundary (child ∷ []) (notes_of (path_of child) (option_map (λ st. (there, st)) stamp))
  notes_found None earned noted if_clean = record {
    needed = λ note has. absurd (nothing note has);
    stamp = λ note has. absurd (nothing note has);
    shown = λ told note has. absurd (nothing note has);
    earned = λ store honest told clock keeps note has. absurd (nothing note has);
    recorded = λ store told wants other entry stat stamp has.
        subst
        (λ (o : Line). Untouched new old.last (path_of o) → KeepsRow store later begun.last here.id (path_of o) → t.entries (path_of o) ≡ Some entry → stat_at (trees.now old) (path_of o) ≡ Some stat
        → tracked_letter (rows_by store call (path_of o)) (marks_of entry) (is_some (t.sources (path_of o))) ((trees.now old).things (path_of o)) ≡ Some a_letter.C
        → vouches entry (is_some (t.sources (path_of o))) stat ≡ false → stamp_of stat.mtime boundary ≡ Some stamp → clean_at [] (path_of o) ≡ Some (record { path = path_of o; stat = stat; stamp = stamp }))
        (only_one child other has)
        (λ alone keeps has seen clean unvouched stamped. let so = noted_so store None if_clean told alone keeps entry stat (has, seen, clean) unvouched in let none = so.1 in absurd (cc (none, stamped)));
  }
  notes_found (Some st) earned noted if_clean = record {
    needed = λ note has. subst (IsNeededNote t) (only_one (own_note st) note has) (needed_own st noted.unvouched);
    stamp = λ note has. subst (λ (n : CleanNote). stamp_of n.stat.mtime boundary ≡ Some n.stamp) (only_one (own_note st) note has) noted.is;
    shown = λ told note has.
        subst (λ (n : CleanNote). WasShown old new n.path n.stat) (only_one (own_note st) note has)
        (record { at = old.last; from = omega arith; to = passes.past.later; shows = ap (λ (m : Moment). stat_at m (path_of child)) (passes.past.stay old.last (omega arith)) ∙ shown told });
    earned = λ store honest told clock keeps note has.
        subst (IsCleanNote (rows_by store call) t new) (only_one (own_note st) note has)
        (λ e has. earned store e (record { goes = come.goes; told = told; shown = shown told }) honest (keeps (path_of child)) clock);
    recorded = λ store told wants other entry stat stamp has.
        subst
        (λ (o : Line). Untouched new old.last (path_of o) → KeepsRow store later begun.last here.id (path_of o) → t.entries (path_of o) ≡ Some entry → stat_at (trees.now old) (path_of o) ≡ Some stat
        → tracked_letter (rows_by store call (path_of o)) (marks_of entry) (is_some (t.sources (path_of o))) ((trees.now old).things (path_of o)) ≡ Some a_letter.C
        → vouches entry (is_some (t.sources (path_of o))) stat ≡ false → stamp_of stat.mtime boundary ≡ Some stamp → clean_at (own_note st ∷ []) (path_of o) ≡ Some (record { path = path_of o; stat = stat; stamp = stamp }))
        (only_one child other has)
        (λ alone keeps has seen clean unvouched stamped.
        let so = noted_so store (Some (stamp_view st)) if_clean told alone keeps entry stat (has, seen, clean) unvouched in
        let stamps : stamp_view st ≡ stamp = some_is (stamp_view st) stamp (so.1 ∙ stamped) in
        ap (λ (b : Bool). cond b (Some (own_note st)) None) ((bytes_eq-Decides (path_of child) (path_of child)).1 refl)
        ∙ (λ i. Some (record { path = path_of child; stat = sym so.0 i; stamp = stamps i })));
  }

-- ---- one behind others

module _ (wanted : Wanted) (t : Table) (old mid new : trees.History) (begun files later : shelves.History) (boundary : Time) (xs ys : List Line) (first second : List CleanNote)
    (before : trees.Passes old mid) (behind : trees.Passes mid new) (past : shelves.Extends files later) (within : begun.last ≤ files.last) where
  shown_more : (note : CleanNote) → WasShown old mid note.path note.stat → WasShown old new note.path note.stat
  shown_more note was = record {
    at = was.at;
    from = was.from;
    to = omega (arith, was.to, behind.past.later);
    shows = ap (λ (m : Moment). stat_at m note.path) (behind.past.stay was.at was.to) ∙ was.shows;
  }

  shown_later : (note : CleanNote) → WasShown mid new note.path note.stat → WasShown old new note.path note.stat
  shown_later note was = record { at = was.at; from = omega (arith, before.past.later, was.from); to = was.to; shows = was.shows }

  pub notes_more : AreNotesOf (walk_status wanted t old mid begun files) t boundary xs first → AreNotesOf (walk_status wanted t mid new begun later) t boundary ys second
      → AreNotesOf (walk_status wanted t old new begun later) t boundary (xs ++ ys) (first ++ second)
  notes_more one two = record {
    needed = λ note has. elim (Contains-append_cases first second note has) [ inl here ↦ one.needed note here | inr there ↦ two.needed note there ];
    stamp = λ note has. elim (Contains-append_cases first second note has) [ inl here ↦ one.stamp note here | inr there ↦ two.stamp note there ];
    shown = λ told note has.
        elim (Contains-append_cases first second note has) [
          | inl here ↦ shown_more note (one.shown told note here)
          | inr there ↦ shown_later note (two.shown (before.past.told ∙ told) note there)
        ];
    earned = λ store honest told clock keeps note has.
        elim (Contains-append_cases first second note has) [
          | inl here ↦ λ entry is.
              earned_on (rows_by store (walk_status wanted t old new begun later)) mid new behind.past note.path (seen_clean entry note.stat note.stamp) note.stamp
              (one.earned store (past_honest mid new behind.past honest) told clock (λ path. row_earlier store files later begun.last (walk_status wanted t old new begun later).id path past (keeps path)) note here entry is)
          | inr there ↦
              two.earned store honest (before.past.told ∙ told)
              (record { at = clock.at; within = omega (arith, clock.within, before.past.later); is = clock.is ∙ ap (λ (m : Moment). m.clock) (sym (before.past.stay clock.at clock.within)) }) keeps note there
        ];
    recorded = λ store told wants child entry stat stamp has left keeps is shown clean unvouched stamped.
        let alike = alike_between old mid new (path_of child) before.past behind.past left in
        find-append (λ (note : CleanNote). bytes_eq note.path (path_of child)) first second
        ∙ elim (Contains-append_cases xs ys child has) [
          | inl here ↦
              ap (λ (o : Option CleanNote). option_or o (clean_at second (path_of child)))
              (one.recorded store told wants child entry stat stamp here (untouched_first mid new old.last (path_of child) behind.past before.past.later left)
              (row_earlier store files later begun.last (walk_status wanted t old new begun later).id (path_of child) past keeps) is shown clean unvouched stamped)
          | inr there ↦
              by (path_of child) stat stamp told left shown stamped (clean_at first (path_of child)) refl
              (two.recorded store (before.past.told ∙ told) wants child entry stat stamp there (untouched_second new old.last mid.last (path_of child) before.past.later behind.past.later left) keeps is
              (stat_alike (trees.now mid) (trees.now old) (path_of child) alike ∙ shown)
              (letter_moved (trees.now mid) (trees.now old) (path_of child) (rows_by store (walk_status wanted t old new begun later) (path_of child)) (marks_of entry) (is_some (t.sources (path_of child))) alike ∙ clean)
              unvouched stamped)
        ];
  }
    where
      -- all notes of a path that is left alone agree
      by : (path : List ℕ) (stat : Stat) (stamp : StampData) → IsTrue old.told → Untouched new old.last path → stat_at (trees.now old) path ≡ Some stat → stamp_of stat.mtime boundary ≡ Some stamp → (o : Option CleanNote) → clean_at first path ≡ o
          → clean_at second path ≡ Some (record { path = path; stat = stat; stamp = stamp }) → option_or o (clean_at second path) ≡ Some (record { path = path; stat = stat; stamp = stamp })
      by path stat stamp told left shown stamped None none last = last
      by path stat stamp told left shown stamped (Some note) noted last =
          let at = found (λ (n : CleanNote). bytes_eq n.path path) first note noted in
          let same : note.path ≡ path = (bytes_eq-Decides note.path path).0 at.0 in
          let was = one.shown told note at.1 in
          let alike = alike_at mid old.last was.at path was.from was.to (untouched_first mid new old.last path behind.past before.past.later left) in
          let stats : note.stat ≡ stat =
          some_is note.stat stat
          (sym was.shows ∙ ap (stat_at (mid.at was.at)) same ∙ stat_alike (mid.at was.at) (mid.at old.last) path alike ∙ ap (λ (m : Moment). stat_at m path) (before.past.stay old.last (omega arith)) ∙ shown) in
          let stamps : note.stamp ≡ stamp = some_is note.stamp stamp (sym (one.stamp note at.1) ∙ ap (λ (st : Stat). stamp_of st.mtime boundary) stats ∙ stamped) in
          (λ i. Some (record { path = same i; stat = stats i; stamp = stamps i }))

pub notes_empty : (s : Status) (t : Table) (boundary : Time) → AreNotesOf s t boundary [] []
notes_empty s t boundary = record {
  needed = λ note has. absurd (nothing note has);
  stamp = λ note has. absurd (nothing note has);
  shown = λ told note has. absurd (nothing note has);
  earned = λ store honest told clock keeps note has. absurd (nothing note has);
  recorded = λ store told wants child entry stat stamp has. absurd (nothing child has);
}

-- what is noted behind a look is noted in the call
pub notes_later : (wanted : Wanted) (t : Table) (old mid new : trees.History) (begun later : shelves.History) (boundary : Time) (ys : List Line) (notes : List CleanNote) → trees.Passes old mid → trees.Passes mid new
    → begun.last ≤ later.last → AreNotesOf (walk_status wanted t mid new begun later) t boundary ys notes → AreNotesOf (walk_status wanted t old new begun later) t boundary ys notes
notes_later wanted t old mid new begun later boundary ys notes before behind within are =
    notes_more wanted t old mid new begun later later boundary [] ys [] notes before behind (shelf.extends_same later) within (notes_empty (walk_status wanted t old mid begun later) t boundary) are
