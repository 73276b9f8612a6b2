-- What the first parent has of each path, by the files below `.hg`, and which paths are compared with it, at which moments.
use Rattle.std.specs.Prelude.{ℕ, ◌≡◌, ◌≤◌, Bool, true, false, not, ◌&&◌, ◌||◌, List, Option, Some, None, Result, Ok, Err, IsTrue, IfSome, is_some, option_map}
use Rattle.std.specs.Map.{lookup}
use Rattle.std.specs.Str.{bytes_eq}
use Rattle.hg_base.specs.declared.id.Id20.{Id20}
use Rattle.hg_entry.specs.Table.{Flat, Marks}
use Rattle.hg_tree.specs.History as tree
use Rattle.hg_tree.specs.Moment.{Moment, stat_at}
use Rattle.hg_tree.specs.Still.{Untouched}
use Rattle.hg_ignore.specs.Patterns.{KeepsPatterns}
use Rattle.hg_shelf.specs.History as shelf
use Rattle.hg_shelf.specs.Polite.{StaysIn}
use Rattle.hg_manifest.specs.Load.{manifest_in}
use Rattle.hg_manifest.specs.Plain.{is_null, plain_name}
use Rattle.hg_manifest.specs.Rows.{Rows}
use Rattle.hg_manifest.specs.declared.fault.ManifestFault.{ManifestFault}
use Rattle.hg_manifest.specs.declared.row.FileRow.{FileRow}
use Rattle.hg_compare.specs.Alike.{contents_name, is_alike}
use Rattle.hg_compare.specs.Same.{parent_row}
use Rattle.hg_compare.specs.Tracked.{ParentRow, is_file_or_link}
use Rattle.hg_flat.specs.Patterns.{needs_patterns}
use Rattle.hg_listing.specs.declared.row.Wanted.{Wanted}

-- the manifest of a parent, or its fault
abbrev pub manifest_at : shelf.Files → Id20 → Result Rows ManifestFault
manifest_at files id = manifest_in id (files (plain_name id.0))

-- the row of a path
abbrev pub row_of : Rows → List ℕ → Option FileRow
row_of rows path = lookup (bytes_eq path) rows

abbrev pub row_among : Result Rows ManifestFault → List ℕ → Option FileRow
row_among (Ok rows) path = row_of rows path
row_among (Err fault) path = None

-- what a parent has of each path: the row of its manifest, with the contents that the row names. A manifest that is absent or damaged has none
abbrev pub parent_rows : shelf.Files → Id20 → List ℕ → Option ParentRow
parent_rows files id path = option_map (λ row. parent_row row (files (contents_name row.id.0))) (row_among (manifest_at files id) path)

-- an entry by whose marks neither the second parent nor a copy source decides the letter of what stands there
abbrev pub is_plain_entry : Option Marks → Bool → Bool
is_plain_entry None copied = false
is_plain_entry (Some marks) copied = marks.w && marks.p1 && not marks.p2 && not copied

-- the bytes of a path are compared where a file or link stands there: clean or modified is wanted, and nothing else decides which
abbrev pub is_compared : Wanted → Flat → List ℕ → Bool
is_compared wanted flat path = (wanted.m || wanted.c) && is_plain_entry (flat.marks path) (is_some (flat.sources path))

-- a test of which paths are compared, by what a moment shows
abbrev pub Asking : Type 0
Asking = Moment → List ℕ → Bool

-- the test by marks: nothing else decides the letter, and a file or a link stands there
abbrev pub asked_by : Wanted → Flat → Asking
asked_by wanted flat moment path = is_compared wanted flat path && is_file_or_link (moment.things path)

-- a path is compared at a moment
abbrev pub IsAsked : Asking → Moment → List ℕ → Type 0
IsAsked asks moment path = IsTrue (asks moment path)

-- a path is compared at a moment; where the tree tells its moments, at one of the call
pub record WasAsked (asks : Asking) (old new : tree.History) (path : List ℕ) : Type 0 where
  pub moment : Moment
  pub asked : IsAsked asks moment path
  pub at : ℕ
  pub from : IsTrue old.told → old.last ≤ at
  pub to : IsTrue old.told → at ≤ new.last
  pub is : IsTrue old.told → new.at at ≡ moment

-- what a parent has of a path from a moment on is a store's, wherever it is there: its manifest, and the contents that the row of the path names. What is
-- absent may come
pub record KeepsRow (store : shelf.Files) (h : shelf.History) (from : ℕ) (id : Id20) (path : List ℕ) : Type 0 where
  pub told : IsTrue h.told
  pub manifest : is_null id.0 ≡ false → StaysIn store h from (plain_name id.0)
  pub contents : IfSome (row_among (manifest_at store id) path) (λ row. StaysIn store h from (contents_name row.id.0))

-- nobody touches a path, what the first parent has of it where the path is compared at first is a store's, and nobody touches the ignore patterns where they
-- decide its letter
pub record IsLeft (store : shelf.Files) (wanted : Wanted) (flat : Flat) (asks : Asking) (id : Id20) (copy : tree.History) (from : ℕ) (files : shelf.History) (since : ℕ) (path : List ℕ) : Type 0 where
  pub own : Untouched copy from path
  pub row : IsAsked asks (copy.at from) path → KeepsRow store files since id path
  pub patterns : needs_patterns wanted ≡ true → flat.marks path ≡ None → KeepsPatterns copy from

-- where a look shows a thing of a row's kind and executable bit, the row has contents
abbrev pub HasContents : shelf.Files → Moment → List ℕ → Option FileRow → Type 0
HasContents files moment path None = Unit {0}
HasContents files moment path (Some row) = IfSome (stat_at moment path) (λ stat. IsTrue (is_alike row stat) → IsTrue (is_some (files (contents_name row.id.0))))

-- what a comparison of a path asks for is there: the manifest, which has no fault, and the contents of the path's row
pub record IsServed (files : shelf.Files) (id : Id20) (moment : Moment) (path : List ℕ) : Type 0 where
  pub rows : Rows
  pub formed : manifest_at files id ≡ Ok rows
  pub contents : HasContents files moment path (row_of rows path)
