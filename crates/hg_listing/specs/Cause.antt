-- What stands behind the faults of a plain status.
use Rattle.std.specs.Prelude.{ℕ, ◌≡◌, ◌≤◌, ◌⊎◌, Result, IfErr, OnOk}
use Rattle.hg_base.specs.Fault.{Rose}
use Rattle.hg_tree.specs.declared.fault.TreeFault.{TreeFault}
use Rattle.hg_tree.specs.declared.fault.TreeFault.TheVariants as a_tree_fault
use Rattle.hg_ignore.specs.declared.fault.IgnoreFault.{IgnoreFault}
use Rattle.hg_ignore.specs.declared.fault.IgnoreFault.TheVariants as an_ignore_fault
use Rattle.hg_manifest.specs.declared.fault.ManifestFault.{ManifestFault}
use Rattle.hg_manifest.specs.declared.fault.ManifestFault.TheVariants as a_manifest_fault
use Rattle.hg_compare.specs.declared.fault.CompareFault.{CompareFault}
use Rattle.hg_compare.specs.declared.fault.CompareFault.TheVariants as a_compare_fault
use Rattle.hg_listing.specs.declared.fault.StatusFault.{StatusFault}
use Rattle.hg_listing.specs.declared.fault.StatusFault.TheVariants as a_fault

-- a fault of the tree, under the same name
abbrev pub of_tree : TreeFault → StatusFault
of_tree a_tree_fault.OutOfMemory = a_fault.OutOfMemory
of_tree a_tree_fault.Failed = a_fault.TreeFailed

-- a fault of the ignore patterns, under the same name
abbrev pub of_ignore : IgnoreFault → StatusFault
of_ignore an_ignore_fault.OutOfMemory = a_fault.OutOfMemory
of_ignore an_ignore_fault.Failed = a_fault.TreeFailed
of_ignore (an_ignore_fault.IgnoreTooLarge size) = a_fault.IgnoreTooLarge size
of_ignore (an_ignore_fault.IgnoreText at) = a_fault.IgnoreText at
of_ignore (an_ignore_fault.BadGlob line) = a_fault.BadGlob line
of_ignore (an_ignore_fault.BadRegexp line) = a_fault.BadRegexp line
of_ignore (an_ignore_fault.RegexpTooBig line) = a_fault.RegexpTooBig line
of_ignore (an_ignore_fault.BadInclude line) = a_fault.BadInclude line

-- a fault of a manifest, under the same name
abbrev pub of_manifest : ManifestFault → StatusFault
of_manifest a_manifest_fault.OutOfMemory = a_fault.OutOfMemory
of_manifest a_manifest_fault.Failed = a_fault.ShelfFailed
of_manifest (a_manifest_fault.NoManifest id) = a_fault.NoManifest id
of_manifest (a_manifest_fault.ManifestTooLarge size) = a_fault.ManifestTooLarge size
of_manifest (a_manifest_fault.ManifestLine line) = a_fault.ManifestLine line
of_manifest (a_manifest_fault.ManifestOrder line) = a_fault.ManifestOrder line

-- a fault of a comparison, under the same name
abbrev pub of_compare : CompareFault → StatusFault
of_compare (a_compare_fault.NoContents id) = a_fault.NoContents id
of_compare a_compare_fault.TreeFailed = a_fault.TreeFailed
of_compare a_compare_fault.ShelfFailed = a_fault.ShelfFailed

-- what a call says of a device's count: it never falls, rose where the device is named as the cause, and stands as it stood with every other answer
pub record TellsFailing {T E : Type 0} (before now : ℕ) (result : Result T E) (IsFailed : E → Type 0) : Type 0 where
  pub later : before ≤ now
  pub quiet : OnOk result (now ≡ before)
  pub rose : IfErr result (λ e. IsFailed e → Rose before now)
  -- where it rose, the device is named as the cause
  pub stayed : IfErr result (λ e. IsFailed e ⊎ (now ≡ before))

-- the tree's count rose where a listing failed, and stands still with every other answer
abbrev pub HasListingCause : {T : Type 0} → ℕ → ℕ → Result T TreeFault → Type 0
HasListingCause before now result = TellsFailing before now result (λ e. e ≡ a_tree_fault.Failed)

-- the tree's count rose wherever it is named as the cause, and stands still with every other answer
abbrev pub HasStatusCause : {T : Type 0} → ℕ → ℕ → Result T StatusFault → Type 0
HasStatusCause before now result = TellsFailing before now result (λ e. e ≡ a_fault.TreeFailed)

-- and so did the count of the files below `.hg`
abbrev pub HasShelfCause : {T : Type 0} → ℕ → ℕ → Result T StatusFault → Type 0
HasShelfCause before now result = TellsFailing before now result (λ e. e ≡ a_fault.ShelfFailed)
