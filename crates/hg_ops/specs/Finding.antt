-- What is found at a path that may be removed, step by step.
use Rattle.std.specs.Prelude.{ℕ, ◌≡◌, Bool, true, false, ◌⊎◌, List, Option, Some, None, Result, Ok, Err, IsTrue, MatchBool}
use Rattle.hg_base.specs.declared.id.Id20.{Id20}
use Rattle.hg_base.specs.declared.stat.Stat.{Stat}
use Rattle.hg_compare.specs.Alike.{contents_name, is_alike}
use Rattle.hg_compare.specs.Same.{IsOther, IsSame}
use Rattle.hg_compare.specs.Seen.{Compared, SeesNothing}
use Rattle.hg_compare.specs.declared.looked.Looked.{Looked}
use Rattle.hg_compare.specs.declared.looked.Looked.TheVariants as a_look
use Rattle.hg_entry.specs.Steps.{is_file}
use Rattle.hg_manifest.specs.Load.{Was}
use Rattle.hg_manifest.specs.Rows.{Rows}
use Rattle.hg_manifest.specs.declared.row.FileRow.{FileRow}
use Rattle.hg_ops.specs.Look.{WasShown}
use Rattle.hg_ops.specs.Parent.{IsManifest, LacksManifest, Span, WasRead}
use Rattle.hg_ops.specs.Parents.{row_at}
use Rattle.hg_ops.specs.Remove.{WasGone, compared}
use Rattle.hg_ops.specs.declared.finding.Found.{Found}
use Rattle.hg_ops.specs.declared.finding.Found.TheVariants as a_find
use Rattle.hg_ops.specs.declared.parent.Loaded.{Loaded}
use Rattle.hg_ops.specs.declared.refusal.OpFault.{OpFault}
use Rattle.hg_ops.specs.declared.refusal.OpFault.TheVariants as a_fault
use Rattle.hg_ops.specs.declared.refusal.Refusal.{Refusal}
use Rattle.hg_ops.specs.declared.refusal.Refusal.TheVariants as a_refusal
use Rattle.hg_shelf.specs.History as shelf
use Rattle.hg_tree.specs.History.{History, Extends}
use Rattle.hg_tree.specs.Own.{MayUnlink}

-- why a path is refused by what was found there
abbrev pub refusal_of : Found → Option Refusal
refusal_of a_find.StillThere = Some a_refusal.StillThere
refusal_of a_find.Changed = Some a_refusal.Changed
refusal_of a_find.Unchanged = None
refusal_of a_find.Nothing = None

-- what a comparison answers
abbrev pub found_of : Looked → Found
found_of (a_look.Same settled) = a_find.Unchanged
found_of a_look.Differs = a_find.Changed
found_of a_look.Gone = a_find.Nothing

-- what a load answers
abbrev pub LoadsParent : Span → Result Loaded OpFault → Type 0
LoadsParent s (Ok loaded) = IsManifest s loaded.manifest
LoadsParent s (Err fault) = LacksManifest s fault

-- what a comparison with a row saw
abbrev pub FindsBy : Compared → FileRow → Stat → Found → Type 0
FindsBy c row before a_find.StillThere = ⊥
FindsBy c row before a_find.Changed = (is_alike row before ≡ false) ⊎ IsOther c before
FindsBy c row before a_find.Unchanged = (is_alike row before ≡ true) × IsSame c before
FindsBy c row before a_find.Nothing = (is_alike row before ≡ true) × SeesNothing c

-- the same where there may be no row
abbrev pub FindsIn : List ℕ → History → History → shelf.History → shelf.History → Stat → Option FileRow → Found → Type 0
FindsIn path old new files later before None found = found ≡ a_find.Changed
FindsIn path old new files later before (Some row) found = FindsBy (compared path row old new files later) row before found

-- what a comparison with the first parent saw
pub record FindsByRow (path : List ℕ) (old new : History) (s : Span) (before : Stat) (found : Found) : Type 0 where
  pub rows : Rows
  pub read : IsManifest s rows
  pub seen : FindsIn path old new s.old s.new before (row_at rows path) found

-- what stands where a look showed something
abbrev pub FindsThere : Bool → Bool → List ℕ → History → History → Span → Stat → Found → Type 0
FindsThere after needs path old new s before found =
    MatchBool (is_file before.kind)
    (MatchBool after (found ≡ a_find.StillThere) (MatchBool needs (FindsByRow path old new s before found) (found ≡ a_find.Changed)))
    (found ≡ a_find.Nothing)

-- what stands there, by what a look showed
abbrev pub FindsShown : Bool → Bool → List ℕ → History → History → Span → Option Stat → Found → Type 0
FindsShown after needs path old new s None found = found ≡ a_find.Nothing
FindsShown after needs path old new s (Some before) found = FindsThere after needs path old new s before found

-- what was found at a path, and that nothing was there where nothing was found
pub record Finds (after needs : Bool) (path : List ℕ) (old new : History) (s : Span) (found : Found) : Type 0 where
  pub shown : Option Stat
  pub was_shown : IsTrue old.told → WasShown old new path shown
  pub seen : FindsShown after needs path old new s shown found
  pub gone : found ≡ a_find.Nothing → IsTrue old.told → WasGone old new path

-- the contents of a row weren't there, though a look showed a thing of its kind and executable bit
pub record LacksFile (old new : shelf.History) (row : FileRow) (before : Stat) (lost : Id20) : Type 0 where
  pub names : row.id ≡ lost
  pub alike : is_alike row before ≡ true
  pub absent : Was old new (contents_name lost.0) (λ file. file ≡ None)

-- a fault of a comparison with a row
abbrev pub LacksIn : shelf.History → shelf.History → Option FileRow → Stat → OpFault → Type 0
LacksIn old new found before a_fault.OutOfMemory = ⊥
LacksIn old new found before a_fault.TreeFailed = Unit {0}
LacksIn old new found before a_fault.ShelfFailed = Unit {0}
LacksIn old new found before (a_fault.NoManifest id) = ⊥
LacksIn old new found before (a_fault.ManifestTooLarge size) = ⊥
LacksIn old new found before (a_fault.ManifestLine line) = ⊥
LacksIn old new found before (a_fault.ManifestOrder line) = ⊥
LacksIn old new found before (a_fault.NoContents lost) = (row : FileRow) × (found ≡ Some row) × LacksFile old new row before lost

-- the manifest has a row of the path, whose contents weren't there
pub record LacksParentRow (s : Span) (path : List ℕ) (before : Stat) (lost : Id20) : Type 0 where
  pub rows : Rows
  pub read : WasRead s (Ok rows)
  pub row : FileRow
  pub has : row_at rows path ≡ Some row
  pub file : LacksFile s.old s.new row before lost

-- what a comparison of a path met, behind a look that showed something there
abbrev pub MetBy : Span → List ℕ → Stat → OpFault → Type 0
MetBy s path before a_fault.OutOfMemory = Unit {0}
MetBy s path before a_fault.TreeFailed = Unit {0}
MetBy s path before a_fault.ShelfFailed = Unit {0}
MetBy s path before (a_fault.NoManifest lost) = LacksManifest s (a_fault.NoManifest lost)
MetBy s path before (a_fault.ManifestTooLarge size) = LacksManifest s (a_fault.ManifestTooLarge size)
MetBy s path before (a_fault.ManifestLine line) = LacksManifest s (a_fault.ManifestLine line)
MetBy s path before (a_fault.ManifestOrder line) = LacksManifest s (a_fault.ManifestOrder line)
MetBy s path before (a_fault.NoContents lost) = LacksParentRow s path before lost

-- a file that was found is taken away by the last step, and else nothing is changed
abbrev pub TakesFound : Found → List ℕ → History → History → Type 0
TakesFound a_find.StillThere path old new = new ≡ old
TakesFound a_find.Changed path old new = new ≡ old
TakesFound a_find.Unchanged path old new = Extends old new × (IsTrue old.told → MayUnlink path old new)
TakesFound a_find.Nothing path old new = new ≡ old
