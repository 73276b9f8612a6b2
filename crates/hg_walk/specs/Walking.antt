-- What a walk over a record answers: which paths it compares, what it notes, and what its notes make of the record.
use Rattle.std.specs.Prelude.{ℕ, ◌≡◌, ◌≤◌, Bool, true, false, not, ◌&&◌, IsTrue, List, [], Option, Some, None, is_some}
use Rattle.std.specs.List.{Contains}
use Rattle.hg_base.specs.declared.id.Id20.{Id20}
use Rattle.hg_base.specs.declared.stat.Stat.{Stat}
use Rattle.hg_base.specs.declared.time.Time.{Time}
use Rattle.hg_compare.specs.Tracked.{ParentRow, tracked_letter}
use Rattle.hg_compare.specs.declared.letter.Letter.TheVariants as a_letter
use Rattle.hg_entry.specs.Entry.{EntryData}
use Rattle.hg_entry.specs.Steps.{is_file}
use Rattle.hg_entry.specs.Table.{Table, flat_of, marks_of}
use Rattle.hg_flat.specs.Listing.{wants_bytes}
use Rattle.hg_flat.specs.Met.{Status}
use Rattle.hg_flat.specs.Parent.{Asking, IsLeft, asked_by, is_plain_entry, parent_rows}
use Rattle.hg_listing.specs.declared.row.Wanted.{Wanted}
use Rattle.hg_mtime.specs.Stamps.{stamp_of}
use Rattle.hg_mtime.specs.Vouching.{vouches}
use Rattle.hg_shelf.specs.History as shelves
use Rattle.hg_tree.specs.History as trees
use Rattle.hg_tree.specs.Moment.{Moment, stat_at}
use Rattle.hg_walk.specs.Notes.{CleanNote, NotesData, applied}

-- ---- which paths are compared

-- an entry, where there is one, vouches for what a look shows, where it shows something
abbrev pub vouches_for : Option EntryData → Bool → Option Stat → Bool
vouches_for None copied shown = false
vouches_for (Some entry) copied None = false
vouches_for (Some entry) copied (Some stat) = vouches entry copied stat

-- a record vouches for a path at a moment
abbrev pub is_vouched_at : Table → Moment → List ℕ → Bool
is_vouched_at table moment path = vouches_for (table.entries path) (is_some (table.sources path)) (stat_at moment path)

-- the test of which paths a walk compares: by their marks, and where the record doesn't vouch
abbrev pub asked_unvouched : Wanted → Table → Asking
asked_unvouched wanted table moment path = asked_by wanted (flat_of table) moment path && not (is_vouched_at table moment path)

-- the first parent that a record names
abbrev pub first_id : Table → Id20
first_id table = record { 0 = (flat_of table).p1 }

-- what it has of each path, by the files below `.hg`
abbrev pub rows_in : Table → shelves.Files → List ℕ → Option ParentRow
rows_in table files = parent_rows files (first_id table)

-- nobody touches a path from a moment on, what the first parent has of it where it is compared then is a store's, and nobody touches the patterns where they
-- decide its letter
abbrev pub IsLeftBy : shelves.Files → Wanted → Table → trees.History → ℕ → shelves.History → ℕ → List ℕ → Type 0
IsLeftBy store wanted table copy from files since = IsLeft store wanted (flat_of table) (asked_unvouched wanted table) (first_id table) copy from files since

-- a walk over a record, by what both devices tell before and after it
abbrev pub walk_status : Wanted → Table → trees.History → trees.History → shelves.History → shelves.History → Status
walk_status wanted table tree_old tree_new shelf_old shelf_new = record {
  wanted = wanted;
  asks = asked_unvouched wanted table;
  id = first_id table;
  tree_old = tree_old;
  tree_new = tree_new;
  shelf_old = shelf_old;
  shelf_new = shelf_new;
}

-- ---- what is noted

-- a note is needed: the entry's marks leave the letter to the bytes, a look showed a file or a link, and the entry doesn't vouch for that
pub record IsNeededNote (table : Table) (note : CleanNote) : Type 0 where
  pub entry : EntryData
  pub is : table.entries note.path ≡ Some entry
  pub marks : IsTrue (is_plain_entry (Some (marks_of entry)) (is_some (table.sources note.path)))
  pub kind : IsTrue (is_file note.stat.kind)
  pub unvouched : vouches entry (is_some (table.sources note.path)) note.stat ≡ false

-- only needed notes of clean paths are made
pub record AreNeeded (table : Table) (notes : NotesData) : Type 0 where
  pub clean : (note : CleanNote) → Contains notes.clean note → IsNeededNote table note
  pub seen : notes.seen ≡ []
  pub gone : notes.gone ≡ []
  pub hash : notes.hash ≡ None

-- a moment of a call shows this
pub record WasMoment (old new : trees.History) (P : Moment → Type 0) : Type 0 where
  pub at : ℕ
  pub from : old.last ≤ at
  pub to : at ≤ new.last
  pub so : P (new.at at)

-- the time of each note is that of a look in the walk, by one boundary, which was the clock's in it, at no later a moment
pub record AreNoted (old new : trees.History) (notes : NotesData) : Type 0 where
  pub boundary : Time
  pub clock : IsTrue old.told → (note : CleanNote) → Contains notes.clean note → WasMoment old new (λ moment. boundary ≡ moment.clock)
  pub stamp : (note : CleanNote) → Contains notes.clean note → stamp_of note.stat.mtime boundary ≡ Some note.stamp
  pub shown : IsTrue old.told → (note : CleanNote) → Contains notes.clean note → WasMoment old new (λ moment. stat_at moment note.path ≡ Some note.stat)
  pub order : (told : IsTrue old.told) (note : CleanNote) (has : Contains notes.clean note) → (clock told note has).at ≤ (shown told note has).at

-- a moment from one on shows this
pub record WasSince (from : ℕ) (h : trees.History) (P : Moment → Type 0) : Type 0 where
  pub at : ℕ
  pub since : from ≤ at
  pub to : at ≤ h.last
  pub so : P (h.at at)

-- another record vouches for each path with an entry that meets S, is clean at a moment, and has a time that may be recorded by a boundary
abbrev pub VouchesFor : (List ℕ → Type 0) → (List ℕ → Option ParentRow) → Table → Moment → Time → Table → Type 0
VouchesFor S rows table moment boundary after =
    (path : List ℕ) (entry : EntryData) (stat : Stat) → S path → table.entries path ≡ Some entry → stat_at moment path ≡ Some stat
    → tracked_letter (rows path) (marks_of entry) (is_some (table.sources path)) (moment.things path) ≡ Some a_letter.C
    → IsTrue (is_some (stamp_of stat.mtime boundary)) → is_vouched_at after moment path ≡ true

-- a boundary was the clock's at a moment of the walk; each time is noted by it and from a look behind it; and whoever else steps, behind the notes the
-- record vouches for each path that is left alone, is clean at the start, and has a time that may be recorded by that boundary
pub record AreNotedBy (wanted : Wanted) (table : Table) (old new : trees.History) (files : shelves.History) (since : ℕ) (notes : NotesData) : Type 0 where
  pub boundary : Time
  pub at : ℕ
  pub from : old.last ≤ at
  pub to : at ≤ new.last
  pub clock : IsTrue old.told → boundary ≡ (new.at at).clock
  pub stamp : (note : CleanNote) → Contains notes.clean note → stamp_of note.stat.mtime boundary ≡ Some note.stamp
  pub shown : IsTrue old.told → (note : CleanNote) → Contains notes.clean note → WasSince at new (λ moment. stat_at moment note.path ≡ Some note.stat)
  pub vouched : (store : shelves.Files) → IsTrue old.told → VouchesFor (IsLeftBy store wanted table new old.last files since) (rows_in table store) table (trees.now old) boundary (applied notes table)

-- where bytes decide letters that are wanted, a record vouches behind the walk for each path that is clean at a moment with a time that may be recorded
-- then: the second walk reads no byte of it
abbrev pub IsRecorded : Wanted → (List ℕ → Option ParentRow) → Table → Moment → Table → Type 0
IsRecorded wanted rows table moment after =
    wants_bytes wanted ≡ true → (path : List ℕ) (entry : EntryData) (stat : Stat) → table.entries path ≡ Some entry → stat_at moment path ≡ Some stat
    → tracked_letter (rows path) (marks_of entry) (is_some (table.sources path)) (moment.things path) ≡ Some a_letter.C
    → IsTrue (is_some (stamp_of stat.mtime moment.clock)) → is_vouched_at after moment path ≡ true
