-- The steps in which notes are written: clean paths, directories that aren't cached any more, listed directories, the hash.
use Rattle.std.specs.Prelude.{ℕ, ◌≡◌, Bool, true, false, if◌then◌else◌, IsTrue, List, Option, Some, None}
use Rattle.std.specs.List.{Contains}
use Rattle.std.specs.Map.{update}
use Rattle.std.specs.Str.{bytes_eq}
use Rattle.hg_base.specs.Within.{is_above}
use Rattle.hg_entry.specs.Entry.{EntryData}
use Rattle.hg_entry.specs.Steps.{is_file}
use Rattle.hg_entry.specs.Table.{Table}
use Rattle.hg_mixed.specs.Edits.{AreLentAsBefore, ArePlacedAsBefore, IsOfSameImage, Lends}
use Rattle.hg_nodes.specs.Edits.{IsSame, Marks, after_hash}
use Rattle.hg_mixed.specs.Held.{Held, is_lent, table}
use Rattle.hg_tree.specs.Moment.{is_among}
use Rattle.hg_walk.specs.Applying.{Differs, IsBare, IsKnownClean, IsKnownGone, IsKnownSeen}
use Rattle.hg_walk.specs.Notes.{CleanNote, DirNote, clean_at, seen_at, with_clean, with_seen}

-- a look showed each to be a file or link
abbrev pub AreAllFiles : List CleanNote → Type 0
AreAllFiles notes = (note : CleanNote) → Contains notes note → IsTrue (is_file note.stat.kind)

-- each may be cached
abbrev pub AreAllBare : Table → List (List ℕ) → Type 0
AreAllBare t dirs = (dir : List ℕ) → Contains dirs dir → IsBare t dir

abbrev pub AreAllCacheable : Table → List DirNote → Type 0
AreAllCacheable t notes = (note : DirNote) → Contains notes note → IsBare t note.dir

-- ---- what is written

-- each list of notes makes this of a record
abbrev pub cleaned : List CleanNote → Table → Table
cleaned notes t = record t { entries = λ path. with_clean (clean_at notes path) (t.entries path) }

abbrev pub forgotten : List (List ℕ) → Table → Table
forgotten gone t = record t { caches = λ dir. if is_among dir gone then None else t.caches dir }

abbrev pub cached : List DirNote → Table → Table
cached notes t = record t { caches = λ dir. with_seen (seen_at notes dir) false (t.caches dir) }

-- one note of a clean path
abbrev pub after_clean : CleanNote → Table → Table
after_clean note t = record t { entries = update bytes_eq t.entries note.path (with_clean (Some note) (t.entries note.path)) }

-- a path has an entry in place of another
abbrev pub with_entry : List ℕ → EntryData → Table → Table
with_entry path entry t = record t { entries = update bytes_eq t.entries path (Some entry) }

-- ---- what is marked and lent

-- an edit at a path
pub record IsEdit (path : List ℕ) (target : Table) (old new : Held) : Type 0 where
  pub made : IsSame (table new) target
  pub marks : Marks (IsSame (table new) (table old)) old.changed new.changed
  pub lends : Lends path (IsSame (table new) (table old)) old new
  pub places : ArePlacedAsBefore old new

-- edits make this table; of a test of paths it is said where they change nothing at those that pass it
pub record IsWritten (known : (List ℕ → Bool) → Type 0) (target : Table) (old new : Held) : Type 0 where
  pub made : IsSame (table new) target
  pub kept : known (λ path. true) → new.changed ≡ old.changed
  pub marked : (IsSame (table new) (table old) → ⊥) → new.changed ≡ true
  pub stays : old.changed ≡ true → new.changed ≡ true
  pub lent : (dir : Option (List ℕ)) → known (is_above dir) → is_lent new dir ≡ is_lent old dir
  pub ended : (dir : Option (List ℕ)) (at : List ℕ) → is_above dir at ≡ true → Differs at (table old) (table new) → is_lent new dir ≡ false
  pub unlent : (dir : Option (List ℕ)) → is_lent old dir ≡ false → is_lent new dir ≡ false
  pub places : ArePlacedAsBefore old new

-- where each list of notes changes nothing
abbrev pub AreKnownClean : List CleanNote → Table → (List ℕ → Bool) → Type 0
AreKnownClean notes t test = (note : CleanNote) → Contains notes note → test note.path ≡ true → IsKnownClean t note

abbrev pub AreKnownSeen : List DirNote → Table → (List ℕ → Bool) → Type 0
AreKnownSeen notes t test = (note : DirNote) → Contains notes note → test note.dir ≡ true → IsKnownSeen t note

abbrev pub AreKnownGone : List (List ℕ) → Table → (List ℕ → Bool) → Type 0
AreKnownGone gone t test = (dir : List ℕ) → Contains gone dir → test dir ≡ true → IsKnownGone t dir

-- each list of notes is written
abbrev pub WritesClean : List CleanNote → Held → Held → Type 0
WritesClean notes old new = IsWritten (AreKnownClean notes (table old)) (cleaned notes (table old)) old new

abbrev pub WritesGone : List (List ℕ) → Held → Held → Type 0
WritesGone gone old new = IsWritten (AreKnownGone gone (table old)) (forgotten gone (table old)) old new

abbrev pub WritesSeen : List DirNote → Held → Held → Type 0
WritesSeen notes old new = IsWritten (AreKnownSeen notes (table old)) (cached notes (table old)) old new

-- the hash is this, and all else as it was
pub record IsHashed (hash : List ℕ) (old new : Held) : Type 0 where
  pub made : IsSame (table new) (after_hash hash (table old))
  pub marks : Marks (IsSame (table new) (table old)) old.changed new.changed
  pub lent : AreLentAsBefore old new
  pub places : ArePlacedAsBefore old new
  pub image : IsOfSameImage old new
