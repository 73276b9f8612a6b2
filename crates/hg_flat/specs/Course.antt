-- A status in its course: what it knows of the first parent so far, and what a comparison with it finds.
use Rattle.std.specs.Prelude.{ℕ, ◌≡◌, ◌<◌, true, false, if◌then◌else◌, List, [], ◌++◌, Option, Some, None, Result, Ok, Err, IfSome, IsTrue, MatchBool, option_map}
use Rattle.std.specs.List.{AllByRecursion}
use Rattle.hg_base.specs.declared.id.Id20.{Id20}
use Rattle.hg_base.specs.declared.stat.Stat.{Stat}
use Rattle.hg_tree.specs.History as trees
use Rattle.hg_tree.specs.Moment.{Moment}
use Rattle.hg_tree.specs.declared.asked.Asked.{Asked}
use Rattle.hg_tree.specs.declared.thing.Placed.{Placed}
use Rattle.hg_ignore.specs.Patterns.{AreFine, HasBadLine, IsCutAt, IsGivenLast, IsOver, warnings_in}
use Rattle.hg_ignore.specs.State.{Ignore, Piece}
use Rattle.hg_ignore.specs.declared.fault.IgnoreFault.TheVariants as an_ignore_fault
use Rattle.hg_ignore.specs.declared.warnings.Warning.{Warning}
use Rattle.hg_shelf.specs.History as shelves
use Rattle.hg_shelf.specs.declared.asked.Asked as shelf_asks
use Rattle.hg_shelf.specs.Polite.{StaysIn}
use Rattle.hg_shelf.specs.Reads.{size_of}
use Rattle.hg_manifest.specs.Load.{Was, asks_of}
use Rattle.hg_manifest.specs.Plain.{is_null, most, plain_name}
use Rattle.hg_manifest.specs.Rows.{Rows}
use Rattle.hg_manifest.specs.declared.fault.ManifestFault.TheVariants as a_manifest_fault
use Rattle.hg_manifest.specs.declared.row.FileRow.{FileRow}
use Rattle.hg_compare.specs.Alike.{contents_name, is_alike}
use Rattle.hg_compare.specs.Same.{Compares, parent_row}
use Rattle.hg_compare.specs.Tracked.{ParentRow, is_unchanged}
use Rattle.hg_compare.specs.declared.letter.Letter.{Letter}
use Rattle.hg_compare.specs.declared.letter.Letter.TheVariants as a_letter
use Rattle.hg_compare.specs.declared.looked.Looked.{Looked}
use Rattle.hg_compare.specs.declared.looked.Looked.TheVariants as a_look
use Rattle.hg_flat.specs.Asked.{IsPatternsRead}
use Rattle.hg_flat.specs.Met.{Holds, Met, Status, WasRead}
use Rattle.hg_flat.specs.Parent.{HasContents, IsServed, WasAsked, parent_rows, row_of}
use Rattle.hg_flat.specs.Patterns.{needs_patterns}
use Rattle.hg_flat.specs.Stored.{IsOfRow}
use Rattle.hg_listing.specs.declared.fault.StatusFault.{StatusFault}
use Rattle.hg_listing.specs.declared.fault.StatusFault.TheVariants as a_fault
use Rattle.hg_flat.specs.declared.parent.Loaded.{Loaded}
use Rattle.hg_flat.specs.declared.parent.Parent.{Parent}
use Rattle.hg_listing.specs.declared.row.Wanted.{Wanted}

-- ---- the ignore patterns

-- a state that was read in a call, and nothing is wrong with it
pub record IsState (old new : trees.History) (state : List Piece) : Type 0 where
  pub given : IsTrue old.told → IsGivenLast old new state
  pub still : trees.IsOurs old new → state ≡ Ignore (trees.now old)
  pub fine : AreFine state

-- what is kept of the patterns: a state where they are needed, and nothing where they aren't
abbrev pub IsKeptState : Wanted → trees.History → trees.History → Option (List Piece) → Type 0
IsKeptState wanted old new None = needs_patterns wanted ≡ false
IsKeptState wanted old new (Some state) = (needs_patterns wanted ≡ true) × IsState old new state

-- the state that a listing asks
abbrev pub pieces_of : Option (List Piece) → List Piece
pieces_of None = []
pieces_of (Some state) = state

-- what its reader is warned of
abbrev pub warned_of : Option (List Piece) → List Warning
warned_of None = []
warned_of (Some state) = warnings_in state

-- why patterns that are needed could not be read
abbrev pub LacksPatterns : trees.History → trees.History → StatusFault → Type 0
LacksPatterns old new a_fault.OutOfMemory = Unit {0}
LacksPatterns old new a_fault.TreeFailed = Unit {0}
LacksPatterns old new a_fault.ShelfFailed = ⊥
LacksPatterns old new (a_fault.NoManifest gone) = ⊥
LacksPatterns old new (a_fault.ManifestTooLarge size) = ⊥
LacksPatterns old new (a_fault.ManifestLine line) = ⊥
LacksPatterns old new (a_fault.ManifestOrder line) = ⊥
LacksPatterns old new (a_fault.NoContents gone) = ⊥
LacksPatterns old new (a_fault.IgnoreTooLarge size) = IsOver old new size
LacksPatterns old new (a_fault.IgnoreText at) = IsCutAt old new at
LacksPatterns old new (a_fault.BadGlob line) = HasBadLine old new (an_ignore_fault.BadGlob line)
LacksPatterns old new (a_fault.BadRegexp line) = HasBadLine old new (an_ignore_fault.BadRegexp line)
LacksPatterns old new (a_fault.RegexpTooBig line) = HasBadLine old new (an_ignore_fault.RegexpTooBig line)
LacksPatterns old new (a_fault.BadInclude line) = HasBadLine old new (an_ignore_fault.BadInclude line)

-- the patterns were read, if at all
abbrev pub AsksPatterns : Wanted → trees.History → trees.History → Type 0
AsksPatterns wanted old new = (first : List Asked) × IsPatternsRead wanted old new first × (new.asked ≡ old.asked ++ first)

-- ---- the first parent

-- what was met behind the patterns: no fault of theirs
abbrev pub MetParent : Status → StatusFault → Type 0
MetParent s a_fault.OutOfMemory = Unit {0}
MetParent s a_fault.TreeFailed = Unit {0}
MetParent s a_fault.ShelfFailed = Unit {0}
MetParent s (a_fault.NoManifest gone) = Met s (a_fault.NoManifest gone)
MetParent s (a_fault.ManifestTooLarge size) = Met s (a_fault.ManifestTooLarge size)
MetParent s (a_fault.ManifestLine line) = Met s (a_fault.ManifestLine line)
MetParent s (a_fault.ManifestOrder line) = Met s (a_fault.ManifestOrder line)
MetParent s (a_fault.NoContents gone) = Met s (a_fault.NoContents gone)
MetParent s (a_fault.IgnoreTooLarge size) = ⊥
MetParent s (a_fault.IgnoreText at) = ⊥
MetParent s (a_fault.BadGlob line) = ⊥
MetParent s (a_fault.BadRegexp line) = ⊥
MetParent s (a_fault.RegexpTooBig line) = ⊥
MetParent s (a_fault.BadInclude line) = ⊥

-- a status up to there
abbrev pub upto : Status → trees.History → shelves.History → Status
upto s copy files = record s { tree_new = copy; shelf_new = files }

-- rows that were read for the first parent; the null parent has none
abbrev pub IsManifest : Status → Rows → Type 0
IsManifest s rows = MatchBool (is_null s.id.0) (rows ≡ []) (WasRead s (Ok rows))

-- what is kept of the manifest, once it is loaded
abbrev pub IsKeptManifest : Status → Option Loaded → Type 0
IsKeptManifest s None = Unit {0}
IsKeptManifest s (Some loaded) = IsManifest s loaded.manifest

-- the shelf was asked for the whole manifest, of as many bytes as its file had at a moment, since a path was compared, and behind it for contents that its
-- rows name
pub record AsksWhole (s : Status) : Type 0 where
  pub file : Option (List ℕ)
  pub was : Holds s (plain_name s.id.0) (λ f. f ≡ file)
  pub contents : List shelf_asks.Asked
  pub asked : s.shelf_new.asked ≡ s.shelf_old.asked ++ asks_of s.id file ++ contents
  pub needed : (path : List ℕ) × WasAsked s.asks s.tree_old s.tree_new path
  pub each : AllByRecursion (IsOfRow s) contents

-- it was asked so once the manifest is loaded, and else nothing
abbrev pub HasAsked : Status → Option Loaded → Type 0
HasAsked s None = s.shelf_new.asked ≡ s.shelf_old.asked
HasAsked s (Some loaded) = AsksWhole s

-- a status that has come so far, with what it keeps of its parent
pub record Proceeds (s : Status) (parent : Parent) : Type 0 where
  pub tree : trees.Passes s.tree_old s.tree_new
  pub shelf : shelves.Passes s.shelf_old s.shelf_new
  pub same : parent.id ≡ s.id
  pub read : IsKeptManifest s parent.loaded
  pub asked : IsTrue s.shelf_old.told → HasAsked s parent.loaded

-- why a manifest could not be loaded
abbrev pub LacksManifest : Status → StatusFault → Type 0
LacksManifest s a_fault.OutOfMemory = Unit {0}
LacksManifest s a_fault.TreeFailed = ⊥
LacksManifest s a_fault.ShelfFailed = Unit {0}
LacksManifest s (a_fault.NoManifest gone) = (is_null s.id.0 ≡ false) × (gone ≡ s.id) × Holds s (plain_name s.id.0) (λ file. file ≡ None)
LacksManifest s (a_fault.ManifestTooLarge size) = (is_null s.id.0 ≡ false) × (most < size) × Holds s (plain_name s.id.0) (λ file. size_of file ≡ Some size)
LacksManifest s (a_fault.ManifestLine line) = (is_null s.id.0 ≡ false) × WasRead s (Err (a_manifest_fault.ManifestLine line))
LacksManifest s (a_fault.ManifestOrder line) = (is_null s.id.0 ≡ false) × WasRead s (Err (a_manifest_fault.ManifestOrder line))
LacksManifest s (a_fault.NoContents gone) = ⊥
LacksManifest s (a_fault.IgnoreTooLarge size) = ⊥
LacksManifest s (a_fault.IgnoreText at) = ⊥
LacksManifest s (a_fault.BadGlob line) = ⊥
LacksManifest s (a_fault.BadRegexp line) = ⊥
LacksManifest s (a_fault.RegexpTooBig line) = ⊥
LacksManifest s (a_fault.BadInclude line) = ⊥

-- what a load answers
abbrev pub LoadsParent : Status → Result Loaded StatusFault → Type 0
LoadsParent s (Ok loaded) = IsManifest s loaded.manifest
LoadsParent s (Err fault) = LacksManifest s fault

-- the letter of a path whose bytes are compared
abbrev pub compared_letter : Option ParentRow → Option Placed → Letter
compared_letter row placed = if is_unchanged row placed then a_letter.C else a_letter.M

abbrev pub letter_of : Looked → Letter
letter_of (a_look.Same settled) = a_letter.C
letter_of a_look.Differs = a_letter.M
letter_of a_look.Gone = a_letter.Gone

-- the contents of a row weren't there, though a look showed a thing of its kind and executable bit
pub record LacksFile (old new : shelves.History) (row : FileRow) (before : Stat) (gone : Id20) : Type 0 where
  pub names : row.id ≡ gone
  pub alike : IsTrue (is_alike row before)
  pub absent : Was old new (contents_name gone.0) (λ file. file ≡ None)

-- a fault of a comparison with a row
abbrev pub LacksIn : shelves.History → shelves.History → Option FileRow → Stat → StatusFault → Type 0
LacksIn old new found before a_fault.OutOfMemory = ⊥
LacksIn old new found before a_fault.TreeFailed = Unit {0}
LacksIn old new found before a_fault.ShelfFailed = Unit {0}
LacksIn old new found before (a_fault.NoManifest id) = ⊥
LacksIn old new found before (a_fault.ManifestTooLarge size) = ⊥
LacksIn old new found before (a_fault.ManifestLine line) = ⊥
LacksIn old new found before (a_fault.ManifestOrder line) = ⊥
LacksIn old new found before (a_fault.NoContents gone) = (row : FileRow) × (found ≡ Some row) × LacksFile old new row before gone
LacksIn old new found before (a_fault.IgnoreTooLarge size) = ⊥
LacksIn old new found before (a_fault.IgnoreText at) = ⊥
LacksIn old new found before (a_fault.BadGlob line) = ⊥
LacksIn old new found before (a_fault.BadRegexp line) = ⊥
LacksIn old new found before (a_fault.RegexpTooBig line) = ⊥
LacksIn old new found before (a_fault.BadInclude line) = ⊥

-- the letter of a path by what a manifest has of it, and that the row's contents were there
pub record IsJudged (files : shelves.Files) (found : Option FileRow) (moment : Moment) (path : List ℕ) (letter : Letter) : Type 0 where
  pub letter_is : letter ≡ compared_letter (option_map (λ row. parent_row row (files (contents_name row.id.0))) found) (moment.things path)
  pub contents : HasContents files moment path found

-- the letter of a path by what the first parent has of it
pub record IsFound (files : shelves.Files) (id : Id20) (moment : Moment) (path : List ℕ) (letter : Letter) : Type 0 where
  pub letter_is : letter ≡ compared_letter (parent_rows files id path) (moment.things path)
  pub served : IsServed files id moment path

-- what a comparison of a path saw, by what a manifest has of it: each at a moment of the comparison; what the manifest hasn't differs
abbrev pub ComparesFound : List ℕ → trees.History → trees.History → shelves.History → shelves.History → Option FileRow → Stat → Looked → Type 0
ComparesFound path copy later old new None before looked = looked ≡ a_look.Differs
ComparesFound path copy later old new (Some row) before looked =
    Compares
    (record { path = path; name = contents_name row.id.0; tree_old = copy; tree_new = later; shelf_old = old; shelf_new = new })
    row before (Ok looked)

-- a path was compared with what the first parent has of it in a store, whose contents those of the row were, wherever they were there meanwhile
pub record IsComparedBy (store : shelves.Files) (s : Status) (copy : trees.History) (path : List ℕ) (before : Stat) (looked : Looked) : Type 0 where
  pub found : Option FileRow
  pub since : shelves.History
  pub told : IsTrue since.told
  pub rows : parent_rows store s.id path ≡ option_map (λ row. parent_row row (store (contents_name row.id.0))) found
  pub stays : IfSome found (λ row. StaysIn store s.shelf_new since.last (contents_name row.id.0))
  pub compared : ComparesFound path copy s.tree_new since s.shelf_new found before looked

-- the manifest has a row of the path, whose contents weren't there
pub record LacksParentRow (s : Status) (path : List ℕ) (before : Stat) (gone : Id20) : Type 0 where
  pub committed : is_null s.id.0 ≡ false
  pub rows : Rows
  pub read : WasRead s (Ok rows)
  pub row : FileRow
  pub is : row_of rows path ≡ Some row
  pub file : LacksFile s.shelf_old s.shelf_new row before gone

-- what a comparison of a path met, behind a look that showed something there
abbrev pub MetBy : Status → List ℕ → Stat → StatusFault → Type 0
MetBy s path before a_fault.OutOfMemory = Unit {0}
MetBy s path before a_fault.TreeFailed = Unit {0}
MetBy s path before a_fault.ShelfFailed = Unit {0}
MetBy s path before (a_fault.NoManifest gone) = LacksManifest s (a_fault.NoManifest gone)
MetBy s path before (a_fault.ManifestTooLarge size) = LacksManifest s (a_fault.ManifestTooLarge size)
MetBy s path before (a_fault.ManifestLine line) = LacksManifest s (a_fault.ManifestLine line)
MetBy s path before (a_fault.ManifestOrder line) = LacksManifest s (a_fault.ManifestOrder line)
MetBy s path before (a_fault.NoContents gone) = LacksParentRow s path before gone
MetBy s path before (a_fault.IgnoreTooLarge size) = ⊥
MetBy s path before (a_fault.IgnoreText at) = ⊥
MetBy s path before (a_fault.BadGlob line) = ⊥
MetBy s path before (a_fault.BadRegexp line) = ⊥
MetBy s path before (a_fault.RegexpTooBig line) = ⊥
MetBy s path before (a_fault.BadInclude line) = ⊥
