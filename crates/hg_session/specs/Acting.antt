-- What a command did over a table in memory, as its parts say it.
use Rattle.std.specs.Prelude.{ℕ, ◌≡◌, ◌<◌, false, Result, Err, IfErr, IfOk, OnOk, IsTrue, Vec}
use Rattle.std.specs.declared.alloc.Global.{Global}
use Rattle.hg_base.specs.Fault.{HasCause}
use Rattle.hg_mixed.specs.Edits.{IsOfSameImage}
use Rattle.hg_mixed.specs.Held.{Held, table}
use Rattle.hg_nodes.specs.Edits.{IsSame}
use Rattle.hg_ops.specs.declared.refusal.OpFault.TheVariants as an_op_fault
use Rattle.hg_ops.specs.declared.refusal.OpFault.{OpFault}
use Rattle.hg_report.specs.Cause.{of_op}
use Rattle.hg_session.specs.Acts.{makes_of, ChangesTree, AsksBehind}
use Rattle.hg_session.specs.Call.{Watched}
use Rattle.hg_session.specs.Kept.{KeepsLent}
use Rattle.hg_session.specs.Told.{refusing}
use Rattle.hg_shelf.specs.History as shelf
use Rattle.hg_tree.specs.History as tree
use Rattle.hg_words.specs.declared.given.Command.{Command}

-- what a command did over a table in memory in which nothing was changed before, at each answer: what it made, or why it stopped; and what it asked
pub record ActsOn (command : Command) (copy : Watched tree.History) (files : Watched shelf.History) (old new : Held) (result : Result (Vec ℕ Global) OpFault) : Type 0 where
  pub does : old.changed ≡ false → IfOk result (λ lines. (makes_of command copy files).does (table old) (table new) (refusing lines.items) new.changed)
  pub stops : old.changed ≡ false → IfErr result (λ fault. (makes_of command copy files).stops (table old) (of_op fault))
  -- what isn't marked as changed is the same
  pub same : old.changed ≡ false → OnOk result (new.changed ≡ false → IsSame (table new) (table old))
  -- each list below which nothing differs is lent still
  pub lent : OnOk result (KeepsLent old new)
  pub image : IsOfSameImage old new
  pub tree : ChangesTree command (table old) copy
  pub below : shelf.Passes files.old files.new
  pub asked : IsTrue files.old.told → AsksBehind command copy (table old) files.old files.new
  -- a device's fault comes only where its count rose; a working copy that failed is told as such
  pub tree_cause : HasCause copy.before copy.after result (λ e. e ≡ an_op_fault.TreeFailed)
  pub tree_failed : copy.before < copy.after → result ≡ Err an_op_fault.TreeFailed
  pub shelf_cause : HasCause files.before files.after result (λ e. e ≡ an_op_fault.ShelfFailed)
