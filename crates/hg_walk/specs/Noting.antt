-- One more note.
use Rattle.std.specs.Prelude.{ℕ, ◌++◌, List, [], ◌∷◌, Some}
use Rattle.hg_base.specs.declared.stat.Stat.{Stat}
use Rattle.hg_entry.specs.Entry.{CacheData, StampData}
use Rattle.hg_walk.specs.Notes.{NotesData}

abbrev pub with_clean_note : List ℕ → Stat → StampData → NotesData → NotesData
with_clean_note path stat stamp notes = record notes { clean = notes.clean ++ record { path = path; stat = stat; stamp = stamp } ∷ [] }

abbrev pub with_dir_note : List ℕ → CacheData → NotesData → NotesData
with_dir_note dir cache notes = record notes { seen = notes.seen ++ record { dir = dir; cache = cache } ∷ [] }

abbrev pub with_gone : List ℕ → NotesData → NotesData
with_gone dir notes = record notes { gone = notes.gone ++ dir ∷ [] }

abbrev pub with_other_hash : List ℕ → NotesData → NotesData
with_other_hash hash notes = record notes { hash = Some hash }
