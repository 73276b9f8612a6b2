-- The first parent, as far as `remove` has come to need it: what is read of its manifest below `.hg`, and what is asked for there.
use Rattle.std.specs.Prelude.{ℕ, ◌≡◌, ◌≤◌, ◌<◌, ◌⊎◌, false, List, [], ◌++◌, length, take, Option, Some, None, Result, Ok, Err, IsTrue, IfSome, MatchBool, option_map}
use Rattle.std.specs.List.{AllByRecursion}
use Rattle.hg_base.specs.Fault.{Rose}
use Rattle.hg_base.specs.declared.id.Id20.{Id20}
use Rattle.hg_compare.specs.Alike.{contents_name}
use Rattle.hg_compare.specs.Same.{IsPieceOf, parent_row}
use Rattle.hg_compare.specs.Tracked.{ParentRow}
use Rattle.hg_manifest.specs.Load.{IsFrontOf, Was, asks_of, manifest_in}
use Rattle.hg_manifest.specs.Plain.{is_null, most, plain_name}
use Rattle.hg_manifest.specs.Rows.{Rows, manifest_of}
use Rattle.hg_manifest.specs.declared.fault.ManifestFault.{ManifestFault}
use Rattle.hg_manifest.specs.declared.fault.ManifestFault.TheVariants as a_manifest_fault
use Rattle.hg_manifest.specs.declared.row.FileRow.{FileRow}
use Rattle.hg_ops.specs.Parents.{row_at}
use Rattle.hg_ops.specs.declared.parent.Loaded.{Loaded}
use Rattle.hg_ops.specs.declared.parent.Parent.{Parent}
use Rattle.hg_ops.specs.declared.refusal.OpFault.{OpFault}
use Rattle.hg_ops.specs.declared.refusal.OpFault.TheVariants as a_fault
use Rattle.hg_shelf.specs.History as shelf
use Rattle.hg_shelf.specs.Polite.{StaysIn}
use Rattle.hg_shelf.specs.Reads.{size_of}
use Rattle.hg_shelf.specs.declared.asked.Asked.{Asked}
use Rattle.hg_shelf.specs.declared.asked.Asked.TheVariants as an_ask

-- ---- what the parent has of a path, by the files below `.hg`

-- the manifest of a parent, or its fault
abbrev pub manifest_at : shelf.Files → Id20 → Result Rows ManifestFault
manifest_at files id = manifest_in id (files (plain_name id.0))

-- the row of a path in what a load answers
abbrev pub row_among : Result Rows ManifestFault → List ℕ → Option FileRow
row_among (Ok rows) path = row_at rows path
row_among (Err fault) path = None

-- the row of a path in the manifest, with the contents that it names; a manifest that is absent or damaged has none
abbrev pub parent_rows : shelf.Files → Id20 → List ℕ → Option ParentRow
parent_rows files id path = option_map (λ row. parent_row row (files (contents_name row.id.0))) (row_among (manifest_at files id) path)

-- what a parent has of a path from a moment on is a store's, wherever it is there: its manifest, and the contents that the row of the path names. What is
-- absent may come
pub record KeepsRow (store : shelf.Files) (h : shelf.History) (from : ℕ) (id : Id20) (path : List ℕ) : Type 0 where
  pub told : IsTrue h.told
  pub manifest : is_null id.0 ≡ false → StaysIn store h from (plain_name id.0)
  pub contents : IfSome (row_among (manifest_at store id) path) (λ row. StaysIn store h from (contents_name row.id.0))

-- ---- what was read of it

-- a parent, and what the files below `.hg` tell before and after a span of calls
pub record Span : Type 0 where
  pub id : Id20
  pub old : shelf.History
  pub new : shelf.History

-- a span up to there
abbrev pub upto : Span → shelf.History → Span
upto s files = record s { new = files }

-- at a moment of the span a file was so
abbrev pub Holds : Span → List ℕ → (Option (List ℕ) → Type 0) → Type 0
Holds s name P = Was s.old s.new name P

-- the manifest's file was read, and its text has this answer: it had so many bytes at one moment, and these were in front at another
pub record WasRead (s : Span) (answer : Result Rows ManifestFault) : Type 0 where
  pub size : ℕ
  pub bytes : List ℕ
  pub few : size ≤ most
  pub short : length bytes ≤ size
  pub sized : Holds s (plain_name s.id.0) (λ file. size_of file ≡ Some size)
  pub front : Holds s (plain_name s.id.0) (IsFrontOf size bytes)
  pub found : manifest_of bytes ≡ answer

-- rows that were read for the parent; the null parent has none
abbrev pub IsManifest : Span → Rows → Type 0
IsManifest s rows = MatchBool (is_null s.id.0) (rows ≡ []) (WasRead s (Ok rows))

-- why the manifest could not be loaded
abbrev pub LacksManifest : Span → OpFault → Type 0
LacksManifest s a_fault.OutOfMemory = Unit {0}
LacksManifest s a_fault.TreeFailed = ⊥
LacksManifest s a_fault.ShelfFailed = Unit {0}
LacksManifest s (a_fault.NoManifest gone) = (is_null s.id.0 ≡ false) × (gone ≡ s.id) × Holds s (plain_name s.id.0) (λ file. file ≡ None)
LacksManifest s (a_fault.ManifestTooLarge size) = (is_null s.id.0 ≡ false) × (most < size) × Holds s (plain_name s.id.0) (λ file. size_of file ≡ Some size)
LacksManifest s (a_fault.ManifestLine line) = (is_null s.id.0 ≡ false) × WasRead s (Err (a_manifest_fault.ManifestLine line))
LacksManifest s (a_fault.ManifestOrder line) = (is_null s.id.0 ≡ false) × WasRead s (Err (a_manifest_fault.ManifestOrder line))
LacksManifest s (a_fault.NoContents gone) = ⊥

-- the count of failures below `.hg` rose where these files are to blame, and else stands as it stood
abbrev pub HasStoreCause : {T : Type 0} → ℕ → ℕ → Result T OpFault → Type 0
HasStoreCause before now (Ok done) = now ≡ before
HasStoreCause before now (Err a_fault.ShelfFailed) = (before ≤ now) × Rose before now
HasStoreCause before now (Err fault) = now ≡ before

-- ---- what was asked for

-- the size of the contents that a row names, or a piece of their bytes
abbrev pub IsContents : Option FileRow → Asked → Type 0
IsContents found ask =
    (row : FileRow) × (found ≡ Some row) × ((ask ≡ an_ask.Size (contents_name row.id.0)) ⊎ IsPieceOf (contents_name row.id.0) ask)

-- the same of a row of the manifest that was read
pub record IsOfRow (s : Span) (ask : Asked) : Type 0 where
  pub path : List ℕ
  pub rows : Rows
  pub read : WasRead s (Ok rows)
  pub contents : IsContents (row_at rows path) ask

-- the whole manifest was asked for, of as many bytes as its file had at a moment, and behind it contents that its rows name
pub record AsksWhole (s : Span) : Type 0 where
  pub file : Option (List ℕ)
  pub was : Holds s (plain_name s.id.0) (λ f. f ≡ file)
  pub contents : List Asked
  pub asked : s.new.asked ≡ s.old.asked ++ asks_of s.id file ++ contents
  pub each : AllByRecursion (IsOfRow s) contents

-- it was asked for so once it is loaded, and else nothing was
abbrev pub HasAsked : Span → Option Loaded → Type 0
HasAsked s None = s.new.asked ≡ s.old.asked
HasAsked s (Some loaded) = AsksWhole s

-- the manifest's size and then its bytes were asked for, of as many as its file had at a moment, or a front of that, and behind the whole of it nothing but
-- such contents
pub record AsksStore (s : Span) : Type 0 where
  pub file : Option (List ℕ)
  pub was : Holds s (plain_name s.id.0) (λ f. f ≡ file)
  pub some : ℕ
  pub contents : List Asked
  pub asked : s.new.asked ≡ s.old.asked ++ take some (asks_of s.id file) ++ contents
  pub whole : (contents ≡ []) ⊎ (some ≡ length (asks_of s.id file))
  pub each : AllByRecursion (IsOfRow s) contents

-- ---- what is kept of it

-- the rows that were read, once they are needed
abbrev pub IsKeptManifest : Span → Option Loaded → Type 0
IsKeptManifest s None = Unit {0}
IsKeptManifest s (Some loaded) = IsManifest s loaded.manifest

-- a parent that has been used over a span of calls, which asked below `.hg` and changed nothing there
pub record KeepsParent (s : Span) (parent : Parent) : Type 0 where
  pub passes : shelf.Passes s.old s.new
  pub same : parent.id ≡ s.id
  pub read : IsKeptManifest s parent.loaded
  pub asked : IsTrue s.old.told → HasAsked s parent.loaded
