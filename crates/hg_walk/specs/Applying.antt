-- Notes as contracts see them, when they can be written into a record, and what is marked and lent behind that.
use Rattle.std.specs.Prelude.{ℕ, ◌≡◌, Bool, true, false, IsTrue, List, [], Option, Some, None}
use Rattle.std.specs.List.{Contains}
use Rattle.hg_base.specs.Within.{is_above}
use Rattle.hg_entry.specs.Entry.{EntryData, cache_view, stamp_view}
use Rattle.hg_entry.specs.Steps.{is_file, seen_clean}
use Rattle.hg_entry.specs.Table.{Table}
use Rattle.hg_nodes.specs.Edits.{IsSame}
use Rattle.hg_mixed.specs.Held.{Held, is_lent, table}
use Rattle.hg_walk.specs.Notes.{CleanNote, DirNote, NotesData, with_hash}
use Rattle.hg_walk.specs.declared.clean.Clean.{Clean}
use Rattle.hg_walk.specs.declared.noting.ListedDir.{ListedDir}

abbrev pub clean_note : Clean → CleanNote
clean_note note = record { path = note.path; stat = note.stat; stamp = stamp_view note.stamp }

abbrev pub dir_note : ListedDir → DirNote
dir_note note = record { dir = note.dir; cache = cache_view note.stamp }

-- nothing is noted but perhaps a hash
pub record IsBlank (notes : NotesData) : Type 0 where
  pub clean : notes.clean ≡ []
  pub seen : notes.seen ≡ []
  pub gone : notes.gone ≡ []

-- ---- when notes can be written

-- a directory may be cached: it has a node and no entry
pub record IsBare (t : Table) (dir : List ℕ) : Type 0 where
  pub node : t.nodes dir ≡ true
  pub no_entry : t.entries dir ≡ None

-- at each clean path a look showed a file or link, and each directory may be cached
pub record CanApply (notes : NotesData) (t : Table) : Type 0 where
  pub kind : (note : CleanNote) → Contains notes.clean note → IsTrue (is_file note.stat.kind)
  pub seen : (note : DirNote) → Contains notes.seen note → IsBare t note.dir
  pub gone : (dir : List ℕ) → Contains notes.gone dir → IsBare t dir

-- ---- what is marked and lent behind that

-- a note says what is recorded already
abbrev pub IsKnownClean : Table → CleanNote → Type 0
IsKnownClean t note = (entry : EntryData) → t.entries note.path ≡ Some entry → seen_clean entry note.stat note.stamp ≡ entry

abbrev pub IsKnownSeen : Table → DirNote → Type 0
IsKnownSeen t note = t.caches note.dir ≡ Some note.cache

abbrev pub IsKnownGone : Table → List ℕ → Type 0
IsKnownGone t dir = t.caches dir ≡ None

-- so does each note of a path that passes a test
pub record AreKnown (test : List ℕ → Bool) (notes : NotesData) (t : Table) : Type 0 where
  pub clean : (note : CleanNote) → Contains notes.clean note → test note.path ≡ true → IsKnownClean t note
  pub seen : (note : DirNote) → Contains notes.seen note → test note.dir ≡ true → IsKnownSeen t note
  pub gone : (dir : List ℕ) → Contains notes.gone dir → test dir ≡ true → IsKnownGone t dir

-- a record is marked as changed where it is another, and else as it was where all notes say what is recorded already; a mark stays
pub record MarksNotes (notes : NotesData) (old new : Held) : Type 0 where
  pub kept : AreKnown (λ path. true) notes (table old) → with_hash notes.hash (table old).hash ≡ (table old).hash → new.changed ≡ old.changed
  pub marked : (IsSame (table new) (table old) → ⊥) → new.changed ≡ true
  pub stays : old.changed ≡ true → new.changed ≡ true

-- the entry or the cache at a path is another
abbrev pub Differs : List ℕ → Table → Table → Type 0
Differs at old new = new.entries at ≡ old.entries at → new.caches at ≡ old.caches at → ⊥

-- which lists are lent still: none of a directory above a path where something differs, and each where all notes of paths below say what is recorded
-- already
pub record LendsNotes (notes : NotesData) (old new : Held) : Type 0 where
  pub kept : (dir : Option (List ℕ)) → AreKnown (is_above dir) notes (table old) → is_lent new dir ≡ is_lent old dir
  pub ended : (dir : Option (List ℕ)) (at : List ℕ) → is_above dir at ≡ true → Differs at (table old) (table new) → is_lent new dir ≡ false
