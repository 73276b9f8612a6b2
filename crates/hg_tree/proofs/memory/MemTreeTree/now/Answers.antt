-- What was due is of others.
use Rattle.hg_tree.proofs.Calls.{called_passes, fails_passes}
use Rattle.hg_tree.proofs.memory.MemTreeTree.now.Goals as goal

pub returns-in_err-begin-clause-passes : goal.returns-in_err-begin-clause-passes
returns-in_err-begin-clause-passes c = fails_passes _ _ c.in_err-begin.ensures.failed

pub returns-clause-passes : goal.returns-clause-passes
returns-clause-passes c = called_passes _ _ c.in_ok-begin.ensures.ok
