-- What a walk knows behind its look at all paths of a record that have an entry.
use Rattle.std.specs.Prelude.{◌≡◌, Bool, true, IsTrue, MatchBool, List, [], Some, None}
use Rattle.std.specs.List.{Contains}
use Rattle.hg_base.specs.declared.time.Time.{Time}
use Rattle.hg_entry.specs.Table.{Table, flat_of}
use Rattle.hg_flat.specs.Judged.{IsLeftAsked}
use Rattle.hg_flat.specs.Kept.{HaveOwnPaths, flat_from, row_at}
use Rattle.hg_flat.specs.Listing.{wants_bytes}
use Rattle.hg_flat.specs.Met.{Status}
use Rattle.hg_flat.specs.Passed.{AreKnown}
use Rattle.hg_listing.specs.declared.row.Row.{Row}
use Rattle.hg_mixed.specs.declared.line.Line.{Line}
use Rattle.hg_mtime.specs.Stamps.{stamp_of}
use Rattle.hg_shelf.specs.History.{Files}
use Rattle.hg_shelf.specs.Polite.{StaysPlain}
use Rattle.hg_tree.specs.History.{History, now}
use Rattle.hg_tree.specs.Honest.{IsHonest}
use Rattle.hg_walk.specs.Finding.{WasClock, rows_by}
use Rattle.hg_walk.specs.Notes.{AreEarned, CleanNote, NotesData, applied}
use Rattle.hg_walk.specs.Passing.{known_of}
use Rattle.hg_walk.specs.Right.{AreRight}
use Rattle.hg_walk.specs.Telling.{TellsEach, WasShown, tracked_rows}
use Rattle.hg_walk.specs.Walking.{AreNeeded, VouchesFor}
use Rattle.hg_walk.specs.declared.mark.Mark.{Mark}

-- a boundary is the clock's where bytes may decide letters; else no time is before it that may be recorded
abbrev pub IsBoundary : Bool → History → Time → Type 0
IsBoundary asked new boundary = MatchBool asked (IsTrue new.told → boundary ≡ (now new).clock) ((time : Time) → stamp_of time boundary ≡ None)

-- the rows of all paths of a record with an entry, right where times are, and what is known of paths by the looks at its nodes
pub record TellsAll (s : Status) (t : Table) (children : List Line) (marks : List Mark) (rows : List Row) : Type 0 where
  pub own : HaveOwnPaths (tracked_rows children)
  pub flat : flat_from t.p1 t.p2 (row_at (tracked_rows children)) ≡ flat_of t
  pub added : (store : Files) → TellsEach store (AreRight (rows_by store s) t s.tree_old s.tree_new) s children [] rows
  pub known : AreKnown (known_of children marks) s.tree_new s.tree_old.last

-- a boundary was the clock's at a moment so far, where anything is noted by it
abbrev pub WasClockOf : History → Time → NotesData → Type 0
WasClockOf h boundary notes = (note : CleanNote) → Contains notes.clean note → WasClock h boundary

-- what is noted of the record's times by a boundary: where that was the clock's before, it is earned, and behind it the record vouches for each path that is
-- left alone, is clean at the start, and has a time that may be recorded by the boundary
pub record NotesAll (s : Status) (t : Table) (boundary : Time) (notes : NotesData) : Type 0 where
  pub needed : AreNeeded t notes
  pub stamp : (note : CleanNote) → Contains notes.clean note → stamp_of note.stat.mtime boundary ≡ Some note.stamp
  pub shown : IsTrue s.tree_old.told → (note : CleanNote) → Contains notes.clean note → WasShown s.tree_old s.tree_new note.path note.stat
  pub earned : (store : Files) → IsHonest s.tree_new → IsTrue s.tree_old.told → WasClockOf s.tree_old boundary notes → StaysPlain store s.shelf_new s.shelf_old.last
      → AreEarned (rows_by store s) t s.tree_new notes
  pub recorded : (store : Files) → IsTrue s.tree_old.told → wants_bytes s.wanted ≡ true
      → VouchesFor (IsLeftAsked store s.asks s.id s.tree_new s.tree_old.last s.shelf_new s.shelf_old.last) (rows_by store s) t (now s.tree_old) boundary (applied notes t)
