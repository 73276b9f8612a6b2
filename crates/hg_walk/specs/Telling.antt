-- The pass over the paths of a record: the row of each that has an entry, what a look showed there, and what is noted of times.
use Rattle.std.specs.Prelude.{ℕ, ◌≡◌, ◌≤◌, Bool, true, false, IsTrue, List, [], ◌∷◌, ◌++◌, take, Option, Some, None, is_some}
use Rattle.std.specs.Option.{option_map}
use Rattle.std.specs.List.{Contains}
use Rattle.std.specs.List.Sorted.{IsStrictlySortedBy}
use Rattle.std.specs.Ordering.{nat_cmp}
use Rattle.std.specs.Cmp.Lexicographic.{slice_cmp}
use Rattle.hg_base.specs.PathText.{is_below}
use Rattle.hg_base.specs.declared.id.Id20.{Id20}
use Rattle.hg_base.specs.declared.time.Stamp.{Stamp}
use Rattle.hg_base.specs.declared.stat.Stat.{Stat}
use Rattle.hg_base.specs.declared.time.Time.{Time}
use Rattle.hg_compare.specs.Tracked.{tracked_letter}
use Rattle.hg_compare.specs.declared.letter.Letter.{Letter}
use Rattle.hg_compare.specs.declared.letter.Letter.TheVariants as a_letter
use Rattle.hg_entry.specs.Entry.{EntryData, StampData, stamp_view, view}
use Rattle.hg_entry.specs.Table.{Table, marks_of}
use Rattle.hg_entry.specs.declared.entry.Entry.{Entry}
use Rattle.hg_flat.specs.Course.{Proceeds}
use Rattle.hg_flat.specs.Judged.{AddsBy, IsLeftAsked, IsLetterBy}
use Rattle.hg_flat.specs.Listing.{wants_bytes, wants_tracked}
use Rattle.hg_flat.specs.Met.{Status}
use Rattle.hg_flat.specs.Needed.{ReadsPaths}
use Rattle.hg_flat.specs.Parent.{KeepsRow}
use Rattle.hg_flat.specs.Passed.{WasDir, WasNoDir}
use Rattle.hg_flat.specs.declared.kept.FlatRow.{FlatRow}
use Rattle.hg_flat.specs.declared.parent.Parent.{Parent}
use Rattle.hg_listing.specs.declared.row.Row.{Row}
use Rattle.hg_listing.specs.declared.row.Wanted.{Wanted}
use Rattle.hg_mixed.specs.Gathered.{path_of, paths_of}
use Rattle.hg_mixed.specs.declared.line.Line.{Line}
use Rattle.hg_mtime.specs.Stamps.{stamp_of}
use Rattle.hg_mtime.specs.Vouching.{vouches}
use Rattle.hg_shelf.specs.History as shelves
use Rattle.hg_tree.specs.History as trees
use Rattle.hg_tree.specs.Honest.{IsHonest}
use Rattle.hg_tree.specs.Moment.{stat_at}
use Rattle.hg_tree.specs.Still.{Untouched}
use Rattle.hg_walk.specs.Finding.{WasClock, rows_by}
use Rattle.hg_walk.specs.Marks.{is_no_dir, mark_of, stands}
use Rattle.hg_walk.specs.Notes.{AreClean, CleanNote, NotesData, clean_at}
use Rattle.hg_walk.specs.Walking.{IsNeededNote, first_id}
use Rattle.hg_walk.specs.declared.mark.Mark.{Mark}

-- ---- the paths of a record

-- a record has what a child shows
pub record IsChildOf (t : Table) (child : Line) : Type 0 where
  pub entry : option_map view child.entry ≡ t.entries (path_of child)
  pub source : option_map (λ source. source.text.now) child.source ≡ t.sources (path_of child)

-- it has what some children show, and names this first parent
pub record AreOf (t : Table) (id : Id20) (children : List Line) : Type 0 where
  pub first : id ≡ first_id t
  pub each : (child : Line) → Contains children child → IsChildOf t child

-- these are all of its paths with an entry, and they ascend
pub record AreAllOf (t : Table) (children : List Line) : Type 0 where
  pub ascending : IsStrictlySortedBy (slice_cmp nat_cmp) (paths_of children)
  pub all : (path : List ℕ) (entry : EntryData) → t.entries path ≡ Some entry → (child : Line) × Contains children child × (path_of child ≡ path)

-- a child has a copy source
abbrev pub copied_in : Line → Bool
copied_in child = is_some (option_map (λ source. source.text.now) child.source)

-- the row of a child with an entry
abbrev pub tracked_row : Line → Entry → FlatRow
tracked_row child entry = record { path = path_of child; entry = entry; source = option_map (λ source. source.text.now) child.source }

abbrev pub rows_with : Line → Option Entry → List FlatRow
rows_with child None = []
rows_with child (Some entry) = tracked_row child entry ∷ []

-- the rows of those children that have an entry, in their order
abbrev pub tracked_rows : List Line → List FlatRow
tracked_rows [] = []
tracked_rows (child ∷ children) = rows_with child child.entry ++ tracked_rows children

-- ---- what is put

-- the rows of children were put behind the rows so far, by what both devices tell before and behind it; under the premise they are those of the
-- paths' letters, by a store
abbrev pub TellsEach : shelves.Files → Type 0 → Status → List Line → List Row → List Row → Type 0
TellsEach store Premise s children old new =
    AddsBy s.asks Premise (IsLeftAsked store s.asks s.id s.tree_new s.tree_old.last s.shelf_new s.shelf_old.last) store s.id
    (trees.now s.tree_old) s.wanted (tracked_rows children) old new

-- ---- what is read

-- the bytes of the first of some children were asked for, one child behind another, each only where they were needed, and nothing else
abbrev pub ReadsFront : Status → List Line → Type 0
ReadsFront s children = (n : ℕ) × ReadsPaths s (paths_of (take n children))

-- ---- what looks showed

abbrev pub is_tracked : Option Entry → Bool
is_tracked None = false
is_tracked (Some entry) = entry.w

-- what a look showed of a child: where it showed no directory none stood there at a moment of the call, and where it showed a thing a directory stood at
-- each path above at one; where nobody else steps, each path with an entry has the mark of what stands there
pub record IsMarked (wanted : Wanted) (old new : trees.History) (child : Line) (mark : Mark) : Type 0 where
  pub none : IsTrue old.told → is_no_dir mark ≡ true → WasNoDir new old.last (path_of child)
  pub above : IsTrue old.told → stands mark ≡ true → (dir : List ℕ) → IsTrue (is_below dir (path_of child)) → WasDir new old.last dir
  pub looked : trees.IsOurs old new → wants_tracked wanted ≡ true → is_tracked child.entry ≡ true → mark ≡ mark_of (stat_at (trees.now old) (path_of child))

-- one mark for each child, in their order
abbrev pub AreMarked : (Line → Mark → Type 0) → List Line → List Mark → Type 0
AreMarked Is [] [] = Unit {0}
AreMarked Is [] (mark ∷ marks) = ⊥
AreMarked Is (child ∷ children) [] = ⊥
AreMarked Is (child ∷ children) (mark ∷ marks) = Is child mark × AreMarked Is children marks

-- they were put behind the marks so far
abbrev pub MarksEach : Wanted → trees.History → trees.History → List Line → List Mark → List Mark → Type 0
MarksEach wanted old new children before after = (marks : List Mark) × (after ≡ before ++ marks) × AreMarked (IsMarked wanted old new) children marks

-- ---- what is noted

-- notes of clean paths were put behind those so far
abbrev pub with_clean_notes : List CleanNote → NotesData → NotesData
with_clean_notes more notes = record notes { clean = notes.clean ++ more }

-- a moment of the call shows this of a path
pub record WasShown (old new : trees.History) (path : List ℕ) (stat : Stat) : Type 0 where
  pub at : ℕ
  pub from : old.last ≤ at
  pub to : at ≤ new.last
  pub shows : stat_at (new.at at) path ≡ Some stat

-- what the first parent has of each path is a store's, wherever it is there
abbrev pub KeepsRows : shelves.Files → Status → Type 0
KeepsRows store s = (path : List ℕ) → KeepsRow store s.shelf_new s.shelf_old.last s.id path

-- what is noted of children: needed times alone, each by the boundary and from a look in the call; whatever others do they are earned by each store that
-- what the first parent has keeps to, and no clean path is left out that is left alone, and whose time may be noted
pub record AreNotesOf (s : Status) (t : Table) (boundary : Time) (children : List Line) (notes : List CleanNote) : Type 0 where
  pub needed : (note : CleanNote) → Contains notes note → IsNeededNote t note
  pub stamp : (note : CleanNote) → Contains notes note → stamp_of note.stat.mtime boundary ≡ Some note.stamp
  pub shown : IsTrue s.tree_old.told → (note : CleanNote) → Contains notes note → WasShown s.tree_old s.tree_new note.path note.stat
  pub earned : (store : shelves.Files) → IsHonest s.tree_new → IsTrue s.tree_old.told → WasClock s.tree_old boundary → KeepsRows store s → AreClean (rows_by store s) t s.tree_new notes
  pub recorded : (store : shelves.Files) → IsTrue s.tree_old.told → wants_bytes s.wanted ≡ true
      → (child : Line) (entry : EntryData) (stat : Stat) (stamp : StampData) → Contains children child → Untouched s.tree_new s.tree_old.last (path_of child)
      → KeepsRow store s.shelf_new s.shelf_old.last s.id (path_of child) → t.entries (path_of child) ≡ Some entry
      → stat_at (trees.now s.tree_old) (path_of child) ≡ Some stat
      → tracked_letter (rows_by store s (path_of child)) (marks_of entry) (is_some (t.sources (path_of child))) ((trees.now s.tree_old).things (path_of child)) ≡ Some a_letter.C
      → vouches entry (is_some (t.sources (path_of child))) stat ≡ false → stamp_of stat.mtime boundary ≡ Some stamp
      → clean_at notes (path_of child) ≡ Some (record { path = path_of child; stat = stat; stamp = stamp })

-- they were put behind the notes so far
abbrev pub NotesBehind : (Table → List CleanNote → Type 0) → NotesData → NotesData → Type 0
NotesBehind AreNotes old new = (more : List CleanNote) × (new ≡ with_clean_notes more old) × ((t : Table) → AreNotes t more)

-- ---- one child

-- a status has come to a child of a record, with what it keeps of its parent
pub record IsAtChild (s : Status) (t : Table) (parent : Parent) (child : Line) : Type 0 where
  pub of : IsChildOf t child
  pub goes : Proceeds s parent

-- a look shows this of a path now, where the tree tells
abbrev pub ShowsNow : trees.History → List ℕ → Stat → Type 0
ShowsNow h path stat = IsTrue h.told → stat_at (trees.now h) path ≡ Some stat

-- a letter that is found of an entry by a store, or none
abbrev pub IsLetterOf : shelves.Files → Type 0 → Status → FlatRow → Option Letter → Type 0
IsLetterOf store Premise s row letter =
    IsLetterBy s.asks Premise (IsLeftAsked store s.asks s.id s.tree_new s.tree_old.last s.shelf_new s.shelf_old.last) store s.id
    (trees.now s.tree_old) s.wanted row letter

-- the note of a path
abbrev pub notes_of : List ℕ → Option (Stat × Stamp) → List CleanNote
notes_of path None = []
notes_of path (Some (stat, stamp)) = record { path = path; stat = stat; stamp = stamp_view stamp } ∷ []
