-- What was due is of others.
use Rattle.hg_tree.proofs.Calls.{listed_passes}
use Rattle.hg_tree.proofs.memory.MemTreeTree.list.Goals as goal

pub returns-in_err-begin_listing-clause-passes : goal.returns-in_err-begin_listing-clause-passes
returns-in_err-begin_listing-clause-passes c = listed_passes _ _ _ _ c.begin_listing.ensures.state

pub returns-in_err-names-clause-passes : goal.returns-in_err-names-clause-passes
returns-in_err-names-clause-passes c = listed_passes _ _ _ _ c.begin_listing.ensures.state

pub returns-clause-passes : goal.returns-clause-passes
returns-clause-passes c = listed_passes _ _ _ _ c.begin_listing.ensures.state
