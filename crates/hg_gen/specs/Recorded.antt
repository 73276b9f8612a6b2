-- What is recorded of the working copy of a number of directories, and what the plain store keeps of its parent.
use Rattle.std.specs.Prelude.{ℕ, ◌≡◌, ◌<◌, ◌*◌, ◌%◌, ◌==◌, ◌||◌, ◌⊎◌, Bool, true, false, not, if◌then◌else◌, List, [], ◌++◌, replicate, codes, Option, Some, None, Ok, IfSome, is_some}
use Rattle.std.specs.Map.{lookup}
use Rattle.std.specs.Str.{bytes_eq}
use Rattle.hg_append.specs.declared.encoding.Encoded.{Encoded}
use Rattle.hg_docket.specs.Docket.{empty_docket, empty_hash, view}
use Rattle.hg_entry.specs.Entry.{EntryData}
use Rattle.hg_entry.specs.Table.{Table}
use Rattle.hg_gen.specs.Copy.{contents_of, path_of, text_of}
use Rattle.hg_gen.specs.Manifest.{AreNamed, IsPlain, is_in_parent, named_in}
use Rattle.hg_image.specs.Reading.{reading_of}
use Rattle.hg_image.specs.View.{rows}
use Rattle.hg_image.specs.declared.opened.Image.{Image}
use Rattle.hg_mixed.specs.Edits.{IsOfSameImage}
use Rattle.hg_mixed.specs.Held.{Held, table}
use Rattle.hg_manifest.specs.Load.{manifest_in}
use Rattle.hg_manifest.specs.Plain.{plain_name}
use Rattle.hg_manifest.specs.Rows.{Rows}
use Rattle.hg_save.specs.Record.{reading}
use Rattle.hg_save.specs.Saved.{IsOver}
use Rattle.hg_shelf.specs.History.{Files}
use Rattle.hg_shelf.specs.Memory.{with_file}

abbrev pub is_tracked : ℕ → Bool
is_tracked file = not (file % 16 == 9 || file % 16 == 13)

-- an entry that records neither size nor time
abbrev pub plain_entry : Bool → Bool → EntryData
plain_entry w p1 = record { w = w; p1 = p1; p2 = false; exec = false; link = false; size = None; stamp = None; modified = false; fallback = 0 }

-- the entry of a file
abbrev pub entry_of : ℕ → Option EntryData
entry_of file = if is_tracked file || is_in_parent file then Some (plain_entry (is_tracked file) (is_in_parent file)) else None

-- the table has the entries of the first so many files, and nothing else
pub record AreEntries (files : ℕ) (t : Table) : Type 0 where
  pub entry : (i : ℕ) → i < files → t.entries (path_of i) ≡ entry_of i
  pub only : (at : List ℕ) → is_some (t.entries at) ≡ true → (i : ℕ) × (i < files) × (at ≡ path_of i)
  pub sources : (at : List ℕ) → t.sources at ≡ None
  pub caches : (at : List ℕ) → t.caches at ≡ None

-- the first parent
abbrev pub parent : List ℕ
parent = replicate 20 17

-- the table of a working copy of so many directories
pub record IsTable (dirs : ℕ) (t : Table) : Type 0 where
  pub p1 : t.p1 ≡ parent
  pub p2 : t.p2 ≡ replicate 20 0
  pub hash : t.hash ≡ empty_hash
  pub entries : AreEntries (16 * dirs) t

-- the contents of the files that the parent has, of the first so many
abbrev pub AreContents : ℕ → Files → Type 0
AreContents count files = (i : ℕ) → i < count → is_in_parent i ≡ true → files (codes "plain/f-" ++ contents_of i) ≡ Some (text_of i)

-- and no others
abbrev pub AreOnlyContents : ℕ → Files → Type 0
AreOnlyContents count files = (name bytes : List ℕ) → files name ≡ Some bytes → (i : ℕ) × (i < count) × (is_in_parent i ≡ true) × (name ≡ codes "plain/f-" ++ contents_of i)

-- the names of the files below `.hg`: those of the docket, its data file, the manifest, and the contents of the files that the parent has
abbrev pub IsStoredName : ℕ → List ℕ → Type 0
IsStoredName dirs name =
    (name ≡ codes "dirstate")
    ⊎ ((name ≡ codes "dirstate.0000000000000000")
    ⊎ ((name ≡ codes "plain/m-1111111111111111111111111111111111111111")
    ⊎ ((i : ℕ) × (i < 16 * dirs) × (is_in_parent i ≡ true) × (name ≡ codes "plain/f-" ++ contents_of i))))

-- the files below `.hg` of a working copy of so many directories: a docket and its data file, which record the table, the manifest of the parent, and the
-- contents of its files
pub record IsStored (dirs : ℕ) (files : Files) : Type 0 where
  pub docket : List ℕ
  pub nodes : List ℕ
  pub table : Table
  pub docket_is : files (codes "dirstate") ≡ Some docket
  pub nodes_is : files (codes "dirstate.0000000000000000") ≡ Some nodes
  pub reads : reading_of docket nodes ≡ Ok table
  pub is : IsTable dirs table
  pub recorded : reading files ≡ Some (Ok table)
  pub rows : Rows
  pub manifest : manifest_in (record { 0 = parent }) (files (plain_name parent)) ≡ Ok rows
  pub named : AreNamed (16 * dirs) (named_in rows)
  pub plain : (at : List ℕ) → IfSome (lookup (bytes_eq at) rows) IsPlain
  pub contents : AreContents (16 * dirs) files
  pub only : (name bytes : List ℕ) → files name ≡ Some bytes → IsStoredName dirs name

-- the parents and the hash stay, and the image that a table was opened over
pub record KeepsHead (old new : Held) : Type 0 where
  pub p1 : (table new).p1 ≡ (table old).p1
  pub p2 : (table new).p2 ≡ (table old).p2
  pub hash : (table new).hash ≡ (table old).hash
  pub image : IsOfSameImage old new

-- an image in which nothing is recorded
pub record IsEmpty (image : Image) : Type 0 where
  pub docket : view image.docket ≡ empty_docket
  pub rows : rows image ≡ []

-- a docket and a data file that record the table of so many directories, under the first identifier
pub record IsRecorded (dirs : ℕ) (e : Encoded) : Type 0 where
  pub table : Table
  pub id : e.id ≡ codes "0000000000000000"
  pub reads : reading_of e.docket.items e.bytes.items ≡ Ok table
  pub is : IsTable dirs table
  pub over : IsOver [] [] e

-- a manifest, a data file and a docket were put beside some files
abbrev pub ArePut : Encoded → List ℕ → Files → Files → Type 0
ArePut e manifest old new =
    (at : List ℕ)
    → new at
    ≡ with_file (codes "dirstate") e.docket.items
    (with_file (codes "dirstate.0000000000000000") e.bytes.items (with_file (codes "plain/m-1111111111111111111111111111111111111111") manifest old)) at
