-- The caller's own change stands behind what was due.
use Rattle.hg_tree.proofs.Calls.{called_passes, put_acts}
use Rattle.hg_tree.proofs.memory.MemTree.put_counted.Goals as goal

pub returns-then-not-can_put-clause-done : goal.returns-then-not-can_put-clause-done
returns-then-not-can_put-clause-done c = (called_passes _ _ c.in_ok-begin.ensures.ok, c.can_put.ensures.cannot c.if-not-can_put.true)

pub returns-in-Ok-clause-done : goal.returns-in-Ok-clause-done
returns-in-Ok-clause-done c = put_acts _ _ _ c.in_ok-begin.ensures.ok _ _ _ _ _ (c.can_put.ensures.can c.if-not-can_put.false) c.in-Ok.ensures.ok
