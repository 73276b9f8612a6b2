-- The look at all paths of a record: its rows, what is known by it, and what is noted.
use Rattle.std.proofs.Common.{ℕ, ◌≡◌, ◌&&◌, ◌||◌, Bool, true, false, not, cond, List, [], ◌∷◌, ◌++◌, Option, Some, None, option_map, is_some, refl, sym, ap, ◌∙◌, subst, arith, true≢false}
use Rattle.std.specs.Prelude.{IsTrue}
use Rattle.std.specs.List.{Contains, find}
use Rattle.std.specs.Str.{bytes_eq}
use Rattle.std.proofs.lemmas.Bool.{and_parts}
use Rattle.std.proofs.lemmas.List.Elements.{Contains-append_left, Contains-append_right, Contains-push}
use Rattle.std.proofs.lemmas.Slice.Eq.{bytes_eq-Decides}
use Rattle.hg_base.specs.PathText.{is_below}
use Rattle.hg_base.specs.declared.id.Id20.{Id20}
use Rattle.hg_base.specs.declared.stat.Stat.{Stat}
use Rattle.hg_base.specs.declared.time.Time.{Time}
use Rattle.hg_compare.specs.Tracked.{ParentRow, is_file_or_link, is_unchanged, tracked_letter}
use Rattle.hg_compare.specs.declared.letter.Letter.TheVariants as a_letter
use Rattle.hg_entry.specs.Entry.{EntryData, StampData}
use Rattle.hg_entry.specs.Steps.{is_file}
use Rattle.hg_entry.specs.Table.{Table, marks_of}
use Rattle.hg_flat.specs.Listing.{wants_bytes}
use Rattle.hg_flat.specs.Met.{Status}
use Rattle.hg_flat.specs.Passed.{AreKnown, WasNoDir}
use Rattle.hg_flat.specs.Judged.{IsLeftAsked}
use Rattle.hg_flat.specs.Parent.{IsAsked, KeepsRow, is_plain_entry}
use Rattle.hg_flat.proofs.Faces.{stat_alike}
use Rattle.hg_flat.proofs.Leaving.{keeps_row}
use Rattle.hg_listing.specs.declared.row.Row.{Row}
use Rattle.hg_listing.specs.declared.row.Wanted.{Wanted}
use Rattle.hg_nodes.specs.Edits.{IsFormed}
use Rattle.hg_mixed.specs.Gathered.{AreGathered, path_of}
use Rattle.hg_mixed.specs.Held.{Held, table}
use Rattle.hg_mixed.specs.declared.line.Line.{Line}
use Rattle.hg_mtime.specs.Stamps.{stamp_of}
use Rattle.hg_mtime.specs.Vouching.{vouches}
use Rattle.hg_mtime.proofs.Tests.{noted_vouch}
use Rattle.hg_shelf.specs.History as shelves
use Rattle.hg_shelf.specs.Polite.{StaysPlain}
use Rattle.hg_tree.specs.History as trees
use Rattle.hg_tree.specs.Honest.{IsHonest}
use Rattle.hg_tree.specs.Moment.{Moment, stat_at, stat_of}
use Rattle.hg_tree.specs.declared.thing.Placed.{Placed}
use Rattle.hg_tree.specs.declared.thing.Thing.{Thing}
use Rattle.hg_tree.specs.declared.thing.Thing.TheVariants as a_thing
use Rattle.hg_tree.specs.Still.{Untouched}
use Rattle.hg_tree.proofs.Stillness.{alike_at}
use Rattle.hg_walk.specs.Applying.{IsBlank}
use Rattle.hg_walk.specs.Finding.{rows_by}
use Rattle.hg_walk.specs.Notes.{AreEarned, CleanNote, NotesData, applied, clean_at, with_clean}
use Rattle.hg_walk.specs.Marks.{is_no_dir, stands}
use Rattle.hg_walk.specs.Passing.{known_of}
use Rattle.hg_walk.specs.Right.{AreRight}
use Rattle.hg_walk.specs.Telling.{AreMarked, AreNotesOf, AreOf, IsMarked, KeepsRows, MarksEach, TellsEach, with_clean_notes}
use Rattle.hg_walk.specs.Tracked.{NotesAll, TellsAll, WasClockOf}
use Rattle.hg_walk.specs.Walking.{AreNeeded, VouchesFor, asked_unvouched, first_id, rows_in, vouches_for, walk_status}
use Rattle.hg_walk.specs.declared.mark.Mark.{Mark}
use Rattle.hg_walk.proofs.Rows.{marked_node, node_of, own_rows, rows_flat, shows}

-- ---- a path that is clean

-- a letter that bytes decide: no mark does, and a file or a link stands there
clean_by : (w p1 p2 copied file same : Bool)
    → cond w (Some (cond (not file) a_letter.Gone (cond p2 a_letter.M (cond (not p1) a_letter.A (cond copied a_letter.M (cond same a_letter.C a_letter.M)))))) (cond (p1 || p2) (Some a_letter.R) None) ≡ Some a_letter.C
    → ((w && p1 && not p2 && not copied) ≡ true) × (file ≡ true)
clean_by false true p2 copied file same is = absurd (cc is)
clean_by false false true copied file same is = absurd (cc is)
clean_by false false false copied file same is = absurd (cc is)
clean_by true p1 p2 copied false same is = absurd (cc is)
clean_by true p1 true copied true same is = absurd (cc is)
clean_by true false false copied true same is = absurd (cc is)
clean_by true true false true true same is = absurd (cc is)
clean_by true true false false true false is = absurd (cc is)
clean_by true true false false true true is = (refl, refl)

clean_marks : (row : Option ParentRow) (entry : EntryData) (copied : Bool) (placed : Option Placed) → tracked_letter row (marks_of entry) copied placed ≡ Some a_letter.C
    → ((entry.w && entry.p1 && not entry.p2 && not copied) ≡ true) × (is_file_or_link placed ≡ true)
clean_marks row entry copied placed is = clean_by entry.w entry.p1 entry.p2 copied (is_file_or_link placed) (is_unchanged row placed) is

file_thing : (thing : Thing) (mtime : Time) → is_file_or_link (Some (record { thing = thing; mtime = mtime })) ≡ is_file (stat_of thing mtime).kind
file_thing (a_thing.File exec bytes) mtime = refl
file_thing (a_thing.Link target) mtime = refl
file_thing a_thing.Dir mtime = refl
file_thing a_thing.Other mtime = refl

file_placed : (o : Option Placed) (stat : Stat) → option_map (λ (placed : Placed). stat_of placed.thing placed.mtime) o ≡ Some stat → is_file_or_link o ≡ true → is_file stat.kind ≡ true
file_placed None stat is file = absurd (true≢false (sym file))
file_placed (Some placed) stat is file =
    let same : Some (stat_of placed.thing placed.mtime) ≡ Some stat = is in
    let one : stat_of placed.thing placed.mtime ≡ stat = cc same in
    sym (ap (λ (s : Stat). is_file s.kind) one) ∙ sym (file_thing placed.thing placed.mtime) ∙ file

-- ---- the note of a path

find_step : (note : CleanNote) (rest : List CleanNote) (path : List ℕ) (found : CleanNote) (b : Bool) → bytes_eq note.path path ≡ b → (find (λ n. bytes_eq n.path path) rest ≡ Some found → Contains rest found × (found.path ≡ path))
    → cond b (Some note) (find (λ n. bytes_eq n.path path) rest) ≡ Some found → Contains (note ∷ rest) found × (found.path ≡ path)
find_step note rest path found true at later is =
    let same : note ≡ found = cc is in
    subst (λ (n : CleanNote). Contains (note ∷ rest) n × (n.path ≡ path)) same
    (Contains-append_left (note ∷ []) rest note (Contains-push [] note), (bytes_eq-Decides note.path path).0 at)
find_step note rest path found false at later is = let l = later is in (Contains-append_right (note ∷ []) rest found l.0, l.1)

note_found : (notes : List CleanNote) (path : List ℕ) (found : CleanNote) → clean_at notes path ≡ Some found → Contains notes found × (found.path ≡ path)
note_found [] path found is = absurd (true≢false (sym (ap is_some is)))
note_found (note ∷ rest) path found is = find_step note rest path found (bytes_eq note.path path) refl (note_found rest path found) is

-- ---- over all paths

module _ (wanted : Wanted) (held : Held) (children : List Line) (are : AreGathered held (λ path. true) children) (formed : IsFormed (table held)) (id : Id20) (is_id : id.0 ≡ held.p1)
    (old later : trees.History) (passes : trees.Passes old later) (start files : shelves.History) where
  abbrev t : Table
  t = table held

  abbrev whole : Status
  whole = walk_status wanted t old later start files

  pub of_record : AreOf t id children
  of_record = record {
    first = λ i. record { 0 = is_id i };
    each = λ child has. let s = shows held children are formed child has in record { entry = s.entry; source = s.source };
  }

  known_whole : (marks : List Mark) → AreMarked (IsMarked wanted old later) children marks → AreKnown (known_of children marks) later old.last
  known_whole marks marked = record {
    begun = passes.past.later;
    none = λ told path is.
        let node = marked_node (IsMarked wanted old later) (λ child mark. bytes_eq (path_of child) path && is_no_dir mark) children marks marked is in
        let both = and_parts (bytes_eq (path_of node.0) path) (is_no_dir node.1) node.3 in
        subst (WasNoDir later old.last) ((bytes_eq-Decides (path_of node.0) path).0 both.0) (node.2.none (sym passes.past.told ∙ told) both.1);
    dirs = λ told path is.
        let node = marked_node (IsMarked wanted old later) (λ child mark. is_below path (path_of child) && stands mark) children marks marked is in
        let both = and_parts (is_below path (path_of node.0)) (stands node.1) node.3 in
        node.2.above (sym passes.past.told ∙ told) both.1 path both.0;
  }

  pub tells_whole : (marks : List Mark) (rows : List Row) → ((t : Table) (store : shelves.Files) → AreOf t id children → TellsEach store (AreRight (rows_in t store) t old later) (walk_status wanted t old later start files) children [] rows)
      → MarksEach wanted old later children [] marks → TellsAll whole t children marks rows
  tells_whole marks rows added marked = record {
    own = own_rows children are.own;
    flat = rows_flat held children are formed t.p1 t.p2 refl refl;
    added = λ store. added t store of_record;
    known = known_whole marks (subst (AreMarked (IsMarked wanted old later) children) (sym marked.1) marked.2);
  }

  module _ (boundary : Time) (notes : List CleanNote) (n : AreNotesOf whole t boundary children notes) where
    abbrev made : NotesData
    made = record { clean = notes; seen = []; gone = []; hash = None }

    keeps : (store : shelves.Files) → StaysPlain store files start.last → KeepsRows store whole
    keeps store plain path = keeps_row store files start.last (first_id t) plain path

    earned : (store : shelves.Files) → IsHonest later → IsTrue old.told → WasClockOf old boundary made → StaysPlain store files start.last → AreEarned (rows_by store whole) t later made
    earned store honest told clock plain = record {
      clean = λ note has. n.earned store honest told (clock note has) (keeps store plain) note has;
      seen = λ note has. let (k, below, same) = has in absurd (omega (arith, below));
      renewed = λ some. absurd (true≢false (sym some));
    }

    needed : AreNeeded t made
    needed = record { clean = n.needed; seen = refl; gone = refl; hash = refl }

    -- a path that is clean, and for which its entry doesn't vouch, is compared
    compared : (store : shelves.Files) → wants_bytes wanted ≡ true → (m : Moment) (path : List ℕ) (entry : EntryData) (stat : Stat) → t.entries path ≡ Some entry → stat_at m path ≡ Some stat
        → tracked_letter (rows_by store whole path) (marks_of entry) (is_some (t.sources path)) (m.things path) ≡ Some a_letter.C → vouches entry (is_some (t.sources path)) stat ≡ false
        → IsAsked (asked_unvouched wanted t) m path
    compared store wants m path entry stat has shown clean unvouched =
        let marks = clean_marks (rows_by store whole path) entry (is_some (t.sources path)) (m.things path) clean in
        (λ i.
        ((wants i && is_plain_entry (option_map marks_of (has i)) (is_some (t.sources path))) && marks.1 i) && not (vouches_for (has i) (is_some (t.sources path)) (shown i)))
        ∙ (λ i. ((true && marks.0 i) && true) && not (unvouched i))

    -- the entry behind the notes vouches for what the look showed
    vouched : (store : shelves.Files) → IsTrue old.told → wants_bytes wanted ≡ true → (path : List ℕ) (entry : EntryData) (stat : Stat)
        → IsLeftAsked store (asked_unvouched wanted t) (first_id t) later old.last files start.last path → t.entries path ≡ Some entry
        → stat_at (trees.now old) path ≡ Some stat → tracked_letter (rows_by store whole path) (marks_of entry) (is_some (t.sources path)) ((trees.now old).things path) ≡ Some a_letter.C
        → (stamp : StampData) → stamp_of stat.mtime boundary ≡ Some stamp → (o : Option CleanNote) → clean_at notes path ≡ o → (b : Bool) → vouches entry (is_some (t.sources path)) stat ≡ b
        → vouches_for (with_clean o (Some entry)) (is_some (t.sources path)) (Some stat) ≡ true
    vouched store told wants path entry stat left has shown clean stamp stamped None none true vouch = vouch
    vouched store told wants path entry stat left has shown clean stamp stamped (Some note) some true vouch =
        let found = note_found notes path note some in
        let need = n.needed note found.0 in
        let was = n.shown told note found.0 in
        let alike = alike_at later old.last was.at path was.from was.to left.own in
        let one : Some note.stat ≡ Some stat =
        sym was.shows ∙ ap (stat_at (later.at was.at)) found.1 ∙ stat_alike (later.at was.at) (later.at old.last) path alike ∙ ap (λ (m : Moment). stat_at m path) (passes.past.stay old.last (omega arith)) ∙ shown in
        let entries : Some need.entry ≡ Some entry = sym need.is ∙ ap t.entries found.1 ∙ has in
        let stat_is : note.stat ≡ stat = cc one in
        let entry_is : need.entry ≡ entry = cc entries in
        absurd (true≢false (sym vouch ∙ (λ i. vouches (sym entry_is i) (is_some (t.sources (sym found.1 i))) (sym stat_is i)) ∙ need.unvouched))
    vouched store told wants path entry stat left has shown clean stamp stamped o is_o false unvouched =
        let node = node_of held children are formed path entry has in
        let child = node.0 in
        let at : path_of child ≡ path = node.3 in
        let asked = compared store wants (trees.now old) path entry stat has shown clean unvouched in
        let keeps = left.row (subst (λ (m : Moment). IsAsked (asked_unvouched wanted t) m path) (sym (passes.past.stay old.last (omega arith))) asked) in
        let found = n.recorded store told wants child entry stat stamp node.2 (subst (Untouched later old.last) (sym at) left.own) (subst (KeepsRow store files start.last (first_id t)) (sym at) keeps) (ap t.entries at ∙ has) (ap (stat_at (trees.now old)) at ∙ shown)
        ((λ i. tracked_letter (rows_by store whole (at i)) (marks_of entry) (is_some (t.sources (at i))) ((trees.now old).things (at i))) ∙ clean)
        (ap (λ (p : List ℕ). vouches entry (is_some (t.sources p)) stat) at ∙ unvouched) stamped in
        let this : o ≡ Some (record { path = path_of child; stat = stat; stamp = stamp }) = sym is_o ∙ ap (clean_at notes) (sym at) ∙ found in
        let marks = clean_marks (rows_by store whole path) entry (is_some (t.sources path)) ((trees.now old).things path) clean in
        ap (λ (q : Option CleanNote). vouches_for (with_clean q (Some entry)) (is_some (t.sources path)) (Some stat)) this
        ∙ noted_vouch entry (is_some (t.sources path)) stat boundary stamp marks.0 (file_placed ((trees.now old).things path) stat shown marks.1) stamped

    some_stamp : (o : Option StampData) → is_some o ≡ true → (stamp : StampData) × (o ≡ Some stamp)
    some_stamp None none = absurd (true≢false (sym none))
    some_stamp (Some stamp) some = (stamp, refl)

    recorded : (store : shelves.Files) → IsTrue old.told → wants_bytes wanted ≡ true
        → VouchesFor (IsLeftAsked store (asked_unvouched wanted t) (first_id t) later old.last files start.last) (rows_by store whole) t (trees.now old) boundary (applied made t)
    recorded store told wants path entry stat left has shown clean some =
        let stamp = some_stamp (stamp_of stat.mtime boundary) some in
        (λ i. vouches_for (with_clean (clean_at notes path) (has i)) (is_some (t.sources path)) (shown i))
        ∙ vouched store told wants path entry stat left has shown clean stamp.0 stamp.1 (clean_at notes path) refl (vouches entry (is_some (t.sources path)) stat) refl

    notes_whole : NotesAll whole t boundary made
    notes_whole = record { needed = needed; stamp = n.stamp; shown = n.shown; earned = earned; recorded = recorded }

  -- what is noted behind nothing
  pub notes_all : (boundary : Time) → (blank all : NotesData) → IsBlank blank → blank.hash ≡ None
      → (((more : List CleanNote) × (all ≡ with_clean_notes more blank) × ((t : Table) → AreOf t id children → AreNotesOf (walk_status wanted t old later start files) t boundary children more))) → NotesAll whole t boundary all
  notes_all boundary blank all none no_hash (more, behind, notes) =
      subst (NotesAll whole t boundary) (sym (behind ∙ (λ i. record { clean = none.clean i ++ more; seen = none.seen i; gone = none.gone i; hash = no_hash i })))
      (notes_whole boundary more (notes t of_record))
