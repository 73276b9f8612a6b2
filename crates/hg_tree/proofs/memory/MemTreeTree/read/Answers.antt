-- What was due is of others.
use Rattle.hg_tree.proofs.Calls.{read_passes}
use Rattle.hg_tree.proofs.memory.MemTreeTree.read.Goals as goal

pub returns-in_err-begin_read-clause-passes : goal.returns-in_err-begin_read-clause-passes
returns-in_err-begin_read-clause-passes c = read_passes _ _ _ _ c.begin_read.ensures.state

pub returns-in-Some-clause-passes : goal.returns-in-Some-clause-passes
returns-in-Some-clause-passes c = read_passes _ _ _ _ c.begin_read.ensures.state

pub returns-in-None-clause-passes : goal.returns-in-None-clause-passes
returns-in-None-clause-passes c = read_passes _ _ _ _ c.begin_read.ensures.state
