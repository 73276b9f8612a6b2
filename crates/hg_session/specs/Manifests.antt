-- The manifests that a command loads to set the parents.
use Rattle.std.specs.Prelude.{◌≡◌, ◌⊎◌, Bool, false, List, [], ◌++◌, ℕ, Option, Result, Ok, Err, MatchBool}
use Rattle.hg_base.specs.declared.id.Id20.{Id20}
use Rattle.hg_entry.specs.Table.{Table}
use Rattle.hg_manifest.specs.Load.{Finds, Was, asks_of}
use Rattle.hg_manifest.specs.Plain.{is_null, plain_name}
use Rattle.hg_manifest.specs.Rows.{Rows}
use Rattle.hg_manifest.specs.declared.fault.ManifestFault.{ManifestFault}
use Rattle.hg_nodes.specs.Edits.{IsSame}
use Rattle.hg_ops.specs.Cause.{of_manifest}
use Rattle.hg_ops.specs.Parents.{HasParents}
use Rattle.hg_ops.specs.declared.refusal.OpFault.{OpFault}
use Rattle.hg_ops.specs.declared.refusal.OpFault.TheVariants as an_op_fault
use Rattle.hg_session.specs.Call.{Watched}
use Rattle.hg_shelf.specs.Asks.{AsksFrontOf}
use Rattle.hg_shelf.specs.History.{Extends, History}

-- a load of an identifier's manifest answered this; the null parent has no file and no rows
abbrev pub Answers : History → History → Id20 → Result Rows ManifestFault → Type 0
Answers old new id answer = MatchBool (is_null id.0) (answer ≡ Ok []) (Finds old new (plain_name id.0) id answer)

-- so it did within a call
pub record LoadsRows (files : Watched History) (id : Id20) (answer : Result Rows ManifestFault) : Type 0 where
  pub old : History
  pub new : History
  pub before : Extends files.old old
  pub behind : Extends new files.new
  pub answers : Answers old new id answer

-- both manifests were asked for, or a front of that: the first before the second, and of each as many bytes as its file had at a moment
pub record AsksManifests (p1 p2 : Id20) (old new : History) : Type 0 where
  pub first : Option (List ℕ)
  pub second : Option (List ℕ)
  pub first_was : Was old new (plain_name p1.0) (λ f. f ≡ first)
  pub second_was : Was old new (plain_name p2.0) (λ f. f ≡ second)
  pub asks : AsksFrontOf (asks_of p1 first ++ asks_of p2 second) old new

-- new parents were set by the manifests of both, as they were loaded in the call; no line is told, and nothing was changed exactly where the
-- record is the same
pub record IsReparented (p1 p2 : Id20) (files : Watched History) (old new : Table) (lines : List ℕ) (changed : Bool) : Type 0 where
  pub m1 : Rows
  pub m2 : Rows
  pub first : LoadsRows files p1 (Ok m1)
  pub second : LoadsRows files p2 (Ok m2)
  pub parents : HasParents p1.0 p2.0 m1 m2 old new
  pub silent : lines ≡ []
  pub idle : IsSame new old → changed ≡ false
  pub same : changed ≡ false → IsSame new old

-- a manifest has this fault
pub record LacksRows (id : Id20) (files : Watched History) (fault : OpFault) : Type 0 where
  pub met : ManifestFault
  pub is : fault ≡ of_manifest met
  pub loads : LoadsRows files id (Err met)

-- why new parents aren't set: the manifest of the first has a fault, or else that of the second
abbrev pub LacksParents : Id20 → Id20 → Watched History → OpFault → Type 0
LacksParents p1 p2 files fault = LacksRows p1 files fault ⊎ ((m1 : Rows) × LoadsRows files p1 (Ok m1) × LacksRows p2 files fault)

-- so it is at each fault; want of memory, and a shelf that fails, say nothing of what stands there
abbrev pub StopsParents : Id20 → Id20 → Watched History → OpFault → Type 0
StopsParents p1 p2 files an_op_fault.OutOfMemory = Unit {0}
StopsParents p1 p2 files an_op_fault.TreeFailed = ⊥
StopsParents p1 p2 files an_op_fault.ShelfFailed = Unit {0}
StopsParents p1 p2 files (an_op_fault.NoManifest id) = LacksParents p1 p2 files (an_op_fault.NoManifest id)
StopsParents p1 p2 files (an_op_fault.ManifestTooLarge size) = LacksParents p1 p2 files (an_op_fault.ManifestTooLarge size)
StopsParents p1 p2 files (an_op_fault.ManifestLine line) = LacksParents p1 p2 files (an_op_fault.ManifestLine line)
StopsParents p1 p2 files (an_op_fault.ManifestOrder line) = LacksParents p1 p2 files (an_op_fault.ManifestOrder line)
StopsParents p1 p2 files (an_op_fault.NoContents id) = ⊥
