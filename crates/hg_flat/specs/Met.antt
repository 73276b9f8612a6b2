-- What a plain status met where it answers a fault of the first parent or of the ignore patterns, each at a moment of the call.
use Rattle.std.specs.Prelude.{ℕ, ◌≡◌, ◌≤◌, ◌<◌, true, false, List, length, Option, Some, None, Result, Ok, Err, IsTrue}
use Rattle.hg_base.specs.declared.id.Id20.{Id20}
use Rattle.hg_base.specs.declared.stat.Stat.{Stat}
use Rattle.hg_tree.specs.History as tree
use Rattle.hg_tree.specs.Moment.{Moment, stat_at}
use Rattle.hg_ignore.specs.Patterns.{HasBadLine, IsCutAt, IsOver}
use Rattle.hg_ignore.specs.declared.fault.IgnoreFault.TheVariants as an_ignore_fault
use Rattle.hg_shelf.specs.History as shelf
use Rattle.hg_shelf.specs.Reads.{size_of}
use Rattle.hg_manifest.specs.Load.{IsFrontOf, Was}
use Rattle.hg_manifest.specs.Plain.{is_null, most, plain_name}
use Rattle.hg_manifest.specs.Rows.{Rows, manifest_of}
use Rattle.hg_manifest.specs.declared.fault.ManifestFault.{ManifestFault}
use Rattle.hg_manifest.specs.declared.fault.ManifestFault.TheVariants as a_manifest_fault
use Rattle.hg_manifest.specs.declared.row.FileRow.{FileRow}
use Rattle.hg_compare.specs.Alike.{contents_name, is_alike}
use Rattle.hg_flat.specs.Parent.{Asking, IsAsked, WasAsked, row_of}
use Rattle.hg_flat.specs.Patterns.{needs_patterns}
use Rattle.hg_listing.specs.declared.fault.StatusFault.{StatusFault}
use Rattle.hg_listing.specs.declared.fault.StatusFault.TheVariants as a_fault
use Rattle.hg_listing.specs.declared.row.Wanted.{Wanted}

-- what a status is asked for, and what both devices tell before and after it
pub record Status : Type 0 where
  pub wanted : Wanted
  pub asks : Asking  -- which paths are compared
  pub id : Id20
  pub tree_old : tree.History
  pub tree_new : tree.History
  pub shelf_old : shelf.History
  pub shelf_new : shelf.History

-- at a moment of the call the working copy was so
pub record Shows (s : Status) (P : Moment → Type 0) : Type 0 where
  pub at : ℕ
  pub from : IsTrue s.tree_old.told → s.tree_old.last ≤ at
  pub to : IsTrue s.tree_old.told → at ≤ s.tree_new.last
  pub so : IsTrue s.tree_old.told → P (s.tree_new.at at)

-- at a moment of the call the file below `.hg` was so
abbrev pub Holds : Status → List ℕ → (Option (List ℕ) → Type 0) → Type 0
Holds s name P = Was s.shelf_old s.shelf_new name P

-- the manifest's file was read, and its text has this answer: it had so many bytes at one moment, and these were in front at another
pub record WasRead (s : Status) (answer : Result Rows ManifestFault) : Type 0 where
  pub size : ℕ
  pub bytes : List ℕ
  pub few : size ≤ most
  pub short : length bytes ≤ size
  pub sized : Holds s (plain_name s.id.0) (λ file. size_of file ≡ Some size)
  pub front : Holds s (plain_name s.id.0) (IsFrontOf size bytes)
  pub found : manifest_of bytes ≡ answer

-- a path was compared, so that the manifest was needed
pub record NeedsManifest (s : Status) : Type 0 where
  pub path : List ℕ
  pub asked : WasAsked s.asks s.tree_old s.tree_new path
  pub committed : is_null s.id.0 ≡ false

-- the row of a path that was compared names contents that weren't there, and then a thing of its kind and executable bit stood at the path
pub record LacksContents (s : Status) (gone : Id20) : Type 0 where
  pub path : List ℕ
  pub asked : WasAsked s.asks s.tree_old s.tree_new path
  pub rows : Rows
  pub read : WasRead s (Ok rows)
  pub row : FileRow
  pub is : row_of rows path ≡ Some row
  pub names : row.id ≡ gone
  pub alike : Shows s (λ moment. IsAsked s.asks moment path × (stat : Stat) × (stat_at moment path ≡ Some stat) × IsTrue (is_alike row stat))
  pub absent : Holds s (contents_name gone.0) (λ file. file ≡ None)
  pub committed : is_null s.id.0 ≡ false

-- what stood in the plain store, or in the file of ignore patterns where they are needed, where its fault is answered. Want of memory and a device that fails say nothing of it
abbrev pub Met : Status → StatusFault → Type 0
Met s a_fault.OutOfMemory = Unit {0}
Met s a_fault.TreeFailed = Unit {0}
Met s a_fault.ShelfFailed = Unit {0}
Met s (a_fault.NoManifest gone) = NeedsManifest s × (gone ≡ s.id) × Holds s (plain_name s.id.0) (λ file. file ≡ None)
Met s (a_fault.ManifestTooLarge size) = NeedsManifest s × (most < size) × Holds s (plain_name s.id.0) (λ file. size_of file ≡ Some size)
Met s (a_fault.ManifestLine line) = NeedsManifest s × WasRead s (Err (a_manifest_fault.ManifestLine line))
Met s (a_fault.ManifestOrder line) = NeedsManifest s × WasRead s (Err (a_manifest_fault.ManifestOrder line))
Met s (a_fault.NoContents gone) = LacksContents s gone
Met s (a_fault.IgnoreTooLarge size) = (needs_patterns s.wanted ≡ true) × IsOver s.tree_old s.tree_new size
Met s (a_fault.IgnoreText at) = (needs_patterns s.wanted ≡ true) × IsCutAt s.tree_old s.tree_new at
Met s (a_fault.BadGlob line) = (needs_patterns s.wanted ≡ true) × HasBadLine s.tree_old s.tree_new (an_ignore_fault.BadGlob line)
Met s (a_fault.BadRegexp line) = (needs_patterns s.wanted ≡ true) × HasBadLine s.tree_old s.tree_new (an_ignore_fault.BadRegexp line)
Met s (a_fault.RegexpTooBig line) = (needs_patterns s.wanted ≡ true) × HasBadLine s.tree_old s.tree_new (an_ignore_fault.RegexpTooBig line)
Met s (a_fault.BadInclude line) = (needs_patterns s.wanted ≡ true) × HasBadLine s.tree_old s.tree_new (an_ignore_fault.BadInclude line)
