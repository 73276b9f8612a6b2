-- The caller's own change stands behind what was due.
use Rattle.std.proofs.Common.{sym, ◌∙◌}
use Rattle.hg_tree.proofs.Calls.{called_passes, none_is, unlink_acts}
use Rattle.hg_tree.proofs.memory.MemTree.unlink_counted.Goals as goal

pub returns-then-not-has_contents-clause-done : goal.returns-then-not-has_contents-clause-done
returns-then-not-has_contents-clause-done c = (called_passes _ _ c.in_ok-begin.ensures.ok, none_is _ (sym c.has_contents.ensures ∙ c.if-not-has_contents.true))

pub returns-in-Ok-clause-done : goal.returns-in-Ok-clause-done
returns-in-Ok-clause-done c = unlink_acts _ _ _ c.in_ok-begin.ensures.ok _ (sym c.has_contents.ensures ∙ c.if-not-has_contents.false) c.in-Ok.ensures.ok
