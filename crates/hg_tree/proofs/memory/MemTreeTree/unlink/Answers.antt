-- What a call leaves stands behind what was there.
use Rattle.hg_tree.proofs.Calls.{own_extends, own_failed_on}
use Rattle.hg_tree.proofs.memory.MemTreeTree.unlink.Goals as goal

pub returns-clause-past : goal.returns-clause-past
returns-clause-past c = own_extends _ _ _ _ c.unlink_counted-result.ensures.state

pub returns-clause-failed : goal.returns-clause-failed
returns-clause-failed c = own_failed_on _ _ _ _ c.unlink_counted-result.ensures.state
