-- What stays lent while a command changes a table in memory: each list below which nothing differs, and each text that is recorded still.
use Rattle.std.specs.Prelude.{ℕ, ◌≡◌, true, List, Option, Some, None}
use Rattle.std.specs.List.{Contains}
use Rattle.hg_base.specs.Within.{is_above}
use Rattle.hg_entry.specs.Entry.{EntryData}
use Rattle.hg_entry.specs.Steps.{seen_clean}
use Rattle.hg_entry.specs.Table.{Table}
use Rattle.hg_mixed.specs.Held.{Held, is_lent, source_at, table, text_at}
use Rattle.hg_walk.specs.Notes.{CleanNote, DirNote, NotesData}

-- below a directory nothing differs: no node, no entry, no source and no cache
pub record IsSameBelow (dir : Option (List ℕ)) (old new : Table) : Type 0 where
  pub nodes : (at : List ℕ) → is_above dir at ≡ true → new.nodes at ≡ old.nodes at
  pub entries : (at : List ℕ) → is_above dir at ≡ true → new.entries at ≡ old.entries at
  pub sources : (at : List ℕ) → is_above dir at ≡ true → new.sources at ≡ old.sources at
  pub caches : (at : List ℕ) → is_above dir at ≡ true → new.caches at ≡ old.caches at

-- a text that both tables have is lent as it was: that of a node's path, and that of a copy source
pub record KeepsTexts (old new : Held) : Type 0 where
  pub texts : (at : List ℕ) → (table old).nodes at ≡ true → (table new).nodes at ≡ true → text_at new at ≡ text_at old at
  pub sources : (at source : List ℕ) → (table old).sources at ≡ Some source → (table new).sources at ≡ Some source → source_at new at ≡ source_at old at

-- so is each list below which nothing differs
pub record KeepsLent (old new : Held) : Type 0 where
  pub lists : (dir : Option (List ℕ)) → IsSameBelow dir (table old) (table new) → is_lent new dir ≡ is_lent old dir
  pub texts : KeepsTexts old new

-- ---- notes

-- a note says something else of an entry than what is recorded
pub record IsNews (t : Table) (note : CleanNote) : Type 0 where
  pub entry : EntryData
  pub is : t.entries note.path ≡ Some entry
  pub other : seen_clean entry note.stat note.stamp ≡ entry → ⊥

-- a note says something else of a directory than what is recorded: that cache isn't
abbrev pub IsNewsDir : Table → DirNote → Type 0
IsNewsDir t note = t.caches note.dir ≡ Some note.cache → ⊥

-- a directory that isn't cached any more was cached
abbrev pub IsNewsGone : Table → List ℕ → Type 0
IsNewsGone t dir = t.caches dir ≡ None → ⊥

-- so does each: of several notes of one path or directory the first is written, which is one of them
pub record AreNews (t : Table) (notes : NotesData) : Type 0 where
  pub clean : (note : CleanNote) → Contains notes.clean note → IsNews t note
  pub seen : (note : DirNote) → Contains notes.seen note → IsNewsDir t note
  pub gone : (dir : List ℕ) → Contains notes.gone dir → IsNewsGone t dir
