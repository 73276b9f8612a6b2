-- That of several contents that are absent those of the first path are answered, in the order in which paths are compared.
use Rattle.std.specs.Prelude.{ℕ, ◌≡◌, List}
use Rattle.std.specs.Ordering.{nat_cmp}
use Rattle.std.specs.declared.cmp.Ordering.TheVariants.{Less}
use Rattle.std.specs.Cmp.Lexicographic.{slice_cmp}
use Rattle.hg_base.specs.declared.id.Id20.{Id20}
use Rattle.hg_tree.specs.History as trees
use Rattle.hg_shelf.specs.History as shelves
use Rattle.hg_flat.specs.Judged.{IsLeftAsked}
use Rattle.hg_flat.specs.Met.{LacksContents, Status}
use Rattle.hg_flat.specs.Parent.{IsAsked, IsServed}
use Rattle.hg_listing.specs.declared.fault.StatusFault.{StatusFault}
use Rattle.hg_listing.specs.declared.fault.StatusFault.TheVariants as a_fault

-- the contents of the row of this path weren't there
abbrev pub LacksAt : Status → List ℕ → Id20 → Type 0
LacksAt s path gone = (lacks : LacksContents s gone) × (lacks.path ≡ path)

-- a fault that speaks of absent contents speaks of those of this path
abbrev pub MetAt : Status → List ℕ → StatusFault → Type 0
MetAt s path a_fault.OutOfMemory = Unit {0}
MetAt s path a_fault.TreeFailed = Unit {0}
MetAt s path a_fault.ShelfFailed = Unit {0}
MetAt s path (a_fault.NoManifest gone) = Unit {0}
MetAt s path (a_fault.ManifestTooLarge size) = Unit {0}
MetAt s path (a_fault.ManifestLine line) = Unit {0}
MetAt s path (a_fault.ManifestOrder line) = Unit {0}
MetAt s path (a_fault.NoContents gone) = LacksAt s path gone
MetAt s path (a_fault.IgnoreTooLarge size) = Unit {0}
MetAt s path (a_fault.IgnoreText at) = Unit {0}
MetAt s path (a_fault.BadGlob line) = Unit {0}
MetAt s path (a_fault.BadRegexp line) = Unit {0}
MetAt s path (a_fault.RegexpTooBig line) = Unit {0}
MetAt s path (a_fault.BadInclude line) = Unit {0}

-- a path comes before another, by their bytes
abbrev pub IsBefore : List ℕ → List ℕ → Type 0
IsBefore other path = slice_cmp nat_cmp other path ≡ Less

-- each path before this one that is left alone, and is compared at the start, has all that its comparison asks for in a store that tells what the first
-- parent has of it
abbrev pub AreServedBefore : Status → List ℕ → Type 0
AreServedBefore s path =
    (store : shelves.Files) (other : List ℕ) → IsBefore other path → IsLeftAsked store s.asks s.id s.tree_new s.tree_old.last s.shelf_new s.shelf_old.last other
    → IsAsked s.asks (trees.now s.tree_old) other → IsServed store s.id (trees.now s.tree_old) other

-- contents that weren't there, and no path before theirs lacks its own
pub record LacksFirst (s : Status) (gone : Id20) : Type 0 where
  pub lacks : LacksContents s gone
  pub before : AreServedBefore s lacks.path

-- absent contents that are answered are the first
abbrev pub MetFirst : Status → StatusFault → Type 0
MetFirst s a_fault.OutOfMemory = Unit {0}
MetFirst s a_fault.TreeFailed = Unit {0}
MetFirst s a_fault.ShelfFailed = Unit {0}
MetFirst s (a_fault.NoManifest gone) = Unit {0}
MetFirst s (a_fault.ManifestTooLarge size) = Unit {0}
MetFirst s (a_fault.ManifestLine line) = Unit {0}
MetFirst s (a_fault.ManifestOrder line) = Unit {0}
MetFirst s (a_fault.NoContents gone) = LacksFirst s gone
MetFirst s (a_fault.IgnoreTooLarge size) = Unit {0}
MetFirst s (a_fault.IgnoreText at) = Unit {0}
MetFirst s (a_fault.BadGlob line) = Unit {0}
MetFirst s (a_fault.BadRegexp line) = Unit {0}
MetFirst s (a_fault.RegexpTooBig line) = Unit {0}
MetFirst s (a_fault.BadInclude line) = Unit {0}
