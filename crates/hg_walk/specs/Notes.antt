-- What a walk notes of times, what a record is with the notes, and when they are earned.
use Rattle.std.specs.Prelude.{ℕ, ◌≡◌, Bool, true, if◌then◌else◌, IsTrue, List, Option, Some, None, is_some, option_map}
use Rattle.std.specs.List.{Contains, find}
use Rattle.std.specs.Str.{bytes_eq}
use Rattle.hg_base.specs.declared.stat.Stat.{Stat}
use Rattle.hg_compare.specs.Tracked.{ParentRow}
use Rattle.hg_entry.specs.Entry.{CacheData, EntryData, StampData}
use Rattle.hg_entry.specs.Steps.{seen_clean}
use Rattle.hg_entry.specs.Table.{Table}
use Rattle.hg_tree.specs.History.{History}
use Rattle.hg_tree.specs.Moment.{is_among}
use Rattle.hg_walk.specs.Seeing.{SeenDir}
use Rattle.hg_walk.specs.Trust.{IsEarned}

-- a path was clean, with what a look showed of it and the time that is recorded
pub record CleanNote : Type 0 where
  pub path : List ℕ
  pub stat : Stat
  pub stamp : StampData

-- a directory was listed, with the cache that is recorded
pub record DirNote : Type 0 where
  pub dir : List ℕ
  pub cache : CacheData

-- what a walk notes: clean paths, listed directories, directories that aren't cached any more, and the hash of the patterns where it is another
pub record NotesData : Type 0 where
  pub clean : List CleanNote
  pub seen : List DirNote
  pub gone : List (List ℕ)
  pub hash : Option (List ℕ)

-- the note of a path, and that of a directory
abbrev pub clean_at : List CleanNote → List ℕ → Option CleanNote
clean_at notes path = find (λ note. bytes_eq note.path path) notes

abbrev pub seen_at : List DirNote → List ℕ → Option DirNote
seen_at notes dir = find (λ note. bytes_eq note.dir dir) notes

abbrev pub with_clean : Option CleanNote → Option EntryData → Option EntryData
with_clean None entry = entry
with_clean (Some note) entry = option_map (λ e. seen_clean e note.stat note.stamp) entry

abbrev pub with_seen : Option DirNote → Bool → Option CacheData → Option CacheData
with_seen None gone cache = if gone then None else cache
with_seen (Some note) gone cache = Some note.cache

abbrev pub with_hash : Option (List ℕ) → List ℕ → List ℕ
with_hash None hash = hash
with_hash (Some other) hash = other

-- a record with the notes
abbrev pub applied : NotesData → Table → Table
applied notes t =
    record t {
      hash = with_hash notes.hash t.hash;
      entries = λ path. with_clean (clean_at notes.clean path) (t.entries path);
      caches = λ dir. with_seen (seen_at notes.seen dir) (is_among dir notes.gone) (t.caches dir);
    }

-- the time of a note is earned by the entry as it then is
abbrev pub IsCleanNote : (List ℕ → Option ParentRow) → Table → History → CleanNote → Type 0
IsCleanNote rows t h note = (entry : EntryData) → t.entries note.path ≡ Some entry → IsEarned rows h note.path (seen_clean entry note.stat note.stamp) note.stamp

abbrev pub AreClean : (List ℕ → Option ParentRow) → Table → History → List CleanNote → Type 0
AreClean rows t h notes = (note : CleanNote) → Contains notes note → IsCleanNote rows t h note

-- each directory of the notes was seen under that hash
abbrev pub AreSeen : Table → History → List ℕ → List DirNote → Type 0
AreSeen t h hash notes = (note : DirNote) → Contains notes note → SeenDir h note.dir note.cache hash t.nodes

-- notes are earned: each by what was seen, and beside another hash each directory is noted anew or isn't cached any more
pub record AreEarned (rows : List ℕ → Option ParentRow) (t : Table) (h : History) (notes : NotesData) : Type 0 where
  pub clean : AreClean rows t h notes.clean
  pub seen : AreSeen t h (with_hash notes.hash t.hash) notes.seen
  pub renewed : is_some notes.hash ≡ true → (dir : List ℕ) → seen_at notes.seen dir ≡ None → IsTrue (is_some (t.caches dir)) → IsTrue (is_among dir notes.gone)
