-- A walk from its parts: a read of the patterns, the look at all paths with an entry, and the listing of what else stands.
use Rattle.std.proofs.Common.{ℕ, ◌≡◌, ◌≤◌, Bool, true, false, List, Option, None, IsTrue, is_some, true≢false, sym, ap, ◌∙◌, subst, arith}
use Rattle.std.specs.Prelude.{MatchBool}
use Rattle.std.specs.List.{Contains}
use Rattle.std.proofs.lemmas.Bool.{and_parts}
use Rattle.hg_base.specs.declared.time.Time.{Time}
use Rattle.hg_entry.specs.Table.{Flat, Table, flat_of, marks_of}
use Rattle.hg_flat.specs.Course.{IsKeptState, pieces_of}
use Rattle.hg_flat.specs.Listing.{wants_bytes}
use Rattle.hg_flat.specs.Others.{ListsOthers}
use Rattle.hg_flat.specs.Parent.{IsAsked, IsLeft, IsServed, asked_by}
use Rattle.hg_flat.specs.Listing.{Gives}
use Rattle.hg_flat.specs.Passed.{AreKnown, AreServed, Known}
use Rattle.hg_compare.specs.declared.letter.Letter.{Letter}
use Rattle.hg_flat.specs.Patterns.{ignored_at}
use Rattle.hg_flat.proofs.Fullness.{Narrows, full_of}
use Rattle.hg_flat.specs.Judged.{IsLeftAsked}
use Rattle.hg_flat.proofs.Faces.{stat_alike}
use Rattle.hg_flat.proofs.Judging.{left_begun, left_ended}
use Rattle.hg_flat.proofs.Leaving.{left_all}
use Rattle.hg_flat.proofs.Moved.{letter_moved}
use Rattle.hg_flat.proofs.Whole.{whole_listing, whole_served}
use Rattle.hg_ignore.specs.State.{Piece}
use Rattle.hg_listing.specs.Full.{IsFull, IsFullFor}
use Rattle.hg_listing.specs.declared.row.Row.{Row}
use Rattle.hg_listing.specs.declared.row.Wanted.{Wanted}
use Rattle.hg_mixed.specs.declared.line.Line.{Line}
use Rattle.hg_mtime.specs.Stamps.{stamp_of}
use Rattle.hg_shelf.specs.History as shelves
use Rattle.hg_shelf.specs.Polite.{StaysPlain}
use Rattle.hg_shelf.proofs.Histories as shelf
use Rattle.hg_tree.specs.History as trees
use Rattle.hg_tree.specs.Honest.{IsHonest}
use Rattle.hg_tree.specs.Moment.{Moment, stat_at}
use Rattle.hg_tree.proofs.Faces.{past_honest}
use Rattle.hg_tree.proofs.Spans.{now_same, ours_first, passes_trans}
use Rattle.hg_tree.proofs.Stillness.{alike_between}
use Rattle.hg_walk.specs.Notes.{AreEarned, CleanNote, NotesData, applied}
use Rattle.hg_walk.specs.Passing.{has_entry, known_of}
use Rattle.hg_walk.specs.Right.{AreRight}
use Rattle.hg_walk.specs.Telling.{tracked_rows}
use Rattle.hg_walk.specs.Tracked.{IsBoundary, NotesAll, TellsAll}
use Rattle.hg_walk.specs.Walking.{AreNoted, AreNotedBy, IsLeftBy, IsRecorded, VouchesFor, asked_unvouched, first_id, rows_in, vouches_for, walk_status}
use Rattle.hg_walk.specs.declared.mark.Mark.{Mark}
use Rattle.hg_walk.proofs.Growing.{dir_on, earned_on}
use Rattle.hg_walk.proofs.Parts.{right_in_first, right_in_second}
use Rattle.hg_walk.proofs.Tells.{unvouched_alike}

-- a path that is compared is so by its marks
pub unvouched_narrows : (wanted : Wanted) (t : Table) → Narrows (asked_unvouched wanted t) wanted (flat_of t)
unvouched_narrows wanted t moment path asked = (and_parts (asked_by wanted (flat_of t) moment path) _ asked).0

-- what is known since a moment is known since an earlier one
pub known_earlier : (known : Known) (h : trees.History) (start begun : ℕ) → begun ≤ start → AreKnown known h start → AreKnown known h begun
known_earlier known h start begun within are = record {
  begun = omega (arith, within, are.begun);
  none = λ told path is. let was = are.none told path is in record { moment = was.moment; begun = omega (arith, within, was.begun); past = was.past; none = was.none };
  dirs = λ told path is. let was = are.dirs told path is in record { moment = was.moment; begun = omega (arith, within, was.begun); past = was.past; is = was.is };
}

-- no nodes serve as names
served_nowhere : (children : List Line) (marks : List Mark) (L : List ℕ → Letter → Type 0) (h : trees.History) (start : ℕ) → AreServed (known_of children marks) L h start
served_nowhere children marks L h start told dir is = absurd (cc (is))

module _ (wanted : Wanted) (t : Table) (children : List Line) (marks : List Mark) (rows : List Row) (old mid later new : trees.History) (first : trees.Passes old mid) (second : trees.Passes mid later) (third : trees.Passes later new)
    (start files : shelves.History) where
  whole : trees.Passes old new
  whole = passes_trans old mid new first (passes_trans mid later new second third)

  module _ (told : TellsAll (walk_status wanted t mid later start files) t children marks rows) (ignore : Option (List Piece)) (kept : IsKeptState wanted old mid ignore) (d : List Row)
      (others : ListsOthers (has_entry children) (known_of children marks) wanted (pieces_of ignore) later new rows d) where
    pub still : (store : shelves.Files) → AreRight (rows_in t store) t old new
        → IsFullFor (IsLeftBy store wanted t new old.last files start.last) (flat_of t) (trees.now old) (rows_in t store) (ignored_at (trees.now old)) wanted d
    still store right =
        subst
        (λ (f : Flat). IsFullFor (IsLeft store wanted f (asked_unvouched wanted t) (first_id t) new old.last files start.last) f (trees.now old) (rows_in t store) (ignored_at (trees.now old)) wanted d)
        told.flat
        (whole_listing (asked_unvouched wanted t) (unvouched_alike wanted t) (AreRight (rows_in t store) t mid later) t.p1 t.p2 (tracked_rows children) told.own wanted (first_id t) old mid later new first second third files start.last
        store rows d (told.added store) ignore kept (known_of children marks) told.known (served_nowhere children marks (Gives wanted (pieces_of ignore)) later mid.last) others
        (right_in_second (rows_in t store) t old mid later first.past (right_in_first (rows_in t store) t old later new third.past right)))

    -- all that a comparison asked for was there, whatever the times
    pub served : (store : shelves.Files) (path : List ℕ) → IsLeftBy store wanted t new old.last files start.last path → IsAsked (asked_unvouched wanted t) (trees.now old) path
        → IsServed store (first_id t) (trees.now old) path
    served store path left asked =
        whole_served (asked_unvouched wanted t) (unvouched_alike wanted t) (AreRight (rows_in t store) t mid later) t.p1 t.p2 (tracked_rows children) told.own wanted (first_id t) old mid later new first second third files start.last
        store rows (told.added store)
        (subst (Narrows (asked_unvouched wanted t) wanted) (sym told.flat) (unvouched_narrows wanted t)) path
        (subst (λ (f : Flat). IsLeft store wanted f (asked_unvouched wanted t) (first_id t) new old.last files start.last path) (sym told.flat) left) asked

    pub full : (store : shelves.Files) → AreRight (rows_in t store) t old new → trees.IsOurs old new → StaysPlain store files start.last
        → IsFull (flat_of t) (trees.now old) (rows_in t store) (ignored_at (trees.now old)) wanted d
    full store right ours keeps =
        full_of (IsLeftBy store wanted t new old.last files start.last) (flat_of t) (trees.now old) (rows_in t store) (ignored_at (trees.now old)) wanted d
        (left_all store (flat_of t) wanted (asked_unvouched wanted t) (first_id t) old new whole ours files start.last keeps) (still store right)

  -- ---- what is noted

  module _ (notes : NotesData) (boundary : Time) (all : NotesAll (walk_status wanted t mid later start files) t boundary notes) (at : trees.History) (before : trees.Passes old at) (behind : trees.Passes at mid) (past : start.last ≤ files.last)
      (is : IsBoundary (wants_bytes wanted) at boundary) where
    -- where there is a note the boundary is the clock's
    clock_by : (b : Bool) → MatchBool b (IsTrue at.told → boundary ≡ (trees.now at).clock) ((time : Time) → stamp_of time boundary ≡ None) → (note : CleanNote) → Contains notes.clean note → IsTrue at.told
        → boundary ≡ (trees.now at).clock
    clock_by true so note has told = so told
    clock_by false never note has told = absurd (true≢false (sym (ap is_some (all.stamp note has)) ∙ ap is_some (never note.stat.mtime)))

    clock_at : (note : CleanNote) → Contains notes.clean note → IsTrue old.told → boundary ≡ (trees.now at).clock
    clock_at note has told = clock_by (wants_bytes wanted) is note has (before.past.told ∙ told)

    -- as it is where bytes decide letters
    clock_true : (b : Bool) → b ≡ true → MatchBool b (IsTrue at.told → boundary ≡ (trees.now at).clock) ((time : Time) → stamp_of time boundary ≡ None) → IsTrue at.told → boundary ≡ (trees.now at).clock
    clock_true true wants so = so
    clock_true false wants never = absurd (true≢false (sym wants))

    ends : trees.Passes at new
    ends = passes_trans at mid new behind (passes_trans mid later new second third)

    pub noted : AreNoted old new notes
    noted = record {
      boundary = boundary;
      clock = λ told note has. record {
        at = at.last;
        from = before.past.later;
        to = ends.past.later;
        so = clock_at note has told ∙ ap (λ (m : Moment). m.clock) (sym (ends.past.stay at.last (omega arith)));
      };
      stamp = all.stamp;
      shown = λ told note has.
          let was = all.shown (first.past.told ∙ told) note has in record {
            at = was.at;
            from = omega (arith, first.past.later, was.from);
            to = omega (arith, was.to, third.past.later);
            so = ap (λ (m : Moment). stat_at m note.path) (third.past.stay was.at was.to) ∙ was.shows;
          };
      order = λ told note has. let was = all.shown (first.past.told ∙ told) note has in omega (arith, was.from, behind.past.later);
    }

    pub earned : (store : shelves.Files) → IsHonest new → IsTrue old.told → StaysPlain store files start.last → AreEarned (rows_in t store) t new notes
    earned store honest told keeps =
        let e = all.earned store (past_honest later new third.past honest) (first.past.told ∙ told)
        (λ note has. record { at = at.last; within = behind.past.later; is = clock_at note has told ∙ ap (λ (m : Moment). m.clock) (sym (behind.past.stay at.last (omega arith))) }) keeps in record {
          clean = λ note has entry is. earned_on (rows_in t store) later new third.past note.path _ note.stamp (e.clean note has entry is);
          seen = λ note has. dir_on later new third.past note.dir note.cache _ t.nodes (e.seen note has);
          renewed = e.renewed;
        }

    -- what is left alone over the walk is so over the look at all paths
    left_then : (store : shelves.Files) (path : List ℕ) → IsLeftBy store wanted t new old.last files start.last path → IsLeftAsked store (asked_unvouched wanted t) (first_id t) later mid.last files start.last path
    left_then store path left =
        left_begun store (asked_unvouched wanted t) (first_id t) mid later new second.past third.past files files start.last (shelf.extends_same files) path
        (left_ended store (asked_unvouched wanted t) (unvouched_alike wanted t) (first_id t) old mid new first.past (passes_trans mid later new second third).past files start.last path (record { own = left.own; row = left.row }))

    vouched : (store : shelves.Files) → IsTrue old.told → wants_bytes wanted ≡ true
        → VouchesFor (IsLeftBy store wanted t new old.last files start.last) (rows_in t store) t (trees.now old) boundary (applied notes t)
    vouched store told wants path entry stat left has shown clean some =
        let alike = alike_between old mid new path first.past (passes_trans mid later new second third).past left.own in
        let stats = stat_alike (trees.now mid) (trees.now old) path alike in
        ap (vouches_for ((applied notes t).entries path) (is_some (t.sources path))) (sym stats)
        ∙ all.recorded store (first.past.told ∙ told) wants path entry stat (left_then store path left) has (stats ∙ shown)
        (letter_moved (trees.now mid) (trees.now old) path (rows_in t store path) (marks_of entry) (is_some (t.sources path)) alike ∙ clean) some

    pub noted_by : wants_bytes wanted ≡ true → AreNotedBy wanted t old new files start.last notes
    noted_by wants = record {
      boundary = boundary;
      at = at.last;
      from = before.past.later;
      to = ends.past.later;
      clock = λ told. clock_true (wants_bytes wanted) wants is (before.past.told ∙ told) ∙ ap (λ (m : Moment). m.clock) (sym (ends.past.stay at.last (omega arith)));
      stamp = all.stamp;
      shown = λ told note has.
          let was = all.shown (first.past.told ∙ told) note has in record {
            at = was.at;
            since = omega (arith, was.from, behind.past.later);
            to = omega (arith, was.to, third.past.later);
            so = ap (λ (m : Moment). stat_at m note.path) (third.past.stay was.at was.to) ∙ was.shows;
          };
      vouched = λ store told. vouched store told wants;
    }

    pub recorded : (store : shelves.Files) → trees.IsOurs old new → StaysPlain store files start.last → IsRecorded wanted (rows_in t store) t (trees.now old) (applied notes t)
    recorded store ours keeps wants path entry stat has shown clean some =
        let until = ours_first old later new third.past ours in
        let own : trees.IsOurs old mid = ours_first old mid later second.past until in
        let clock : boundary ≡ (trees.now old).clock =
        clock_true (wants_bytes wanted) wants is (before.past.told ∙ ours.told) ∙ ap (λ (m : Moment). m.clock) (now_same old at before (ours_first old at mid behind.past own)) in
        vouched store ours.told wants path entry stat (left_all store (flat_of t) wanted (asked_unvouched wanted t) (first_id t) old new whole ours files start.last keeps path) has shown clean
        (ap (λ (b : Time). is_some (stamp_of stat.mtime b)) clock ∙ some)
