-- Why a command stops.
use Rattle.std.specs.Prelude.{ℕ, ◌≡◌, ◌≤◌, Result, Ok, Err, ◌⊎◌, List, None}
use Rattle.hg_base.specs.Fault.{Rose}
use Rattle.hg_compare.specs.declared.fault.CompareFault.{CompareFault}
use Rattle.hg_compare.specs.declared.fault.CompareFault.TheVariants as a_compare_fault
use Rattle.hg_entry.specs.Table.{Table}
use Rattle.hg_manifest.specs.declared.fault.ManifestFault.{ManifestFault}
use Rattle.hg_manifest.specs.declared.fault.ManifestFault.TheVariants as a_manifest_fault
use Rattle.hg_nodes.specs.Edits.{IsSame, after_copy}
use Rattle.hg_ops.specs.declared.refusal.OpFault.{OpFault}
use Rattle.hg_ops.specs.declared.refusal.OpFault.TheVariants as a_fault

-- a fault of a manifest, and one of a comparison, under the same name
abbrev pub of_manifest : ManifestFault → OpFault
of_manifest a_manifest_fault.OutOfMemory = a_fault.OutOfMemory
of_manifest a_manifest_fault.Failed = a_fault.ShelfFailed
of_manifest (a_manifest_fault.NoManifest id) = a_fault.NoManifest id
of_manifest (a_manifest_fault.ManifestTooLarge size) = a_fault.ManifestTooLarge size
of_manifest (a_manifest_fault.ManifestLine line) = a_fault.ManifestLine line
of_manifest (a_manifest_fault.ManifestOrder line) = a_fault.ManifestOrder line

abbrev pub of_compare : CompareFault → OpFault
of_compare (a_compare_fault.NoContents id) = a_fault.NoContents id
of_compare a_compare_fault.TreeFailed = a_fault.TreeFailed
of_compare a_compare_fault.ShelfFailed = a_fault.ShelfFailed

-- the tree's count of failures rose where the tree is to blame, and else stands as it stood
abbrev pub HasOpCause : {T : Type 0} → ℕ → ℕ → Result T OpFault → Type 0
HasOpCause before now (Ok done) = now ≡ before
HasOpCause before now (Err a_fault.TreeFailed) = (before ≤ now) × Rose before now
HasOpCause before now (Err fault) = now ≡ before

-- what want of memory leaves of a table: all, or all but the path's copy source
abbrev pub LeavesAll : List ℕ → Table → Table → Type 0
LeavesAll path old new = IsSame new old ⊎ IsSame new (after_copy path None old)
