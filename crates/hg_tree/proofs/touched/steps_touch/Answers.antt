-- Each call by itself, and calls one behind another.
use Rattle.hg_tree.proofs.Touching.{changes_trans, may_put_only, may_unlink_only, puts_only, unlinks_only}
use Rattle.hg_tree.proofs.touched.steps_touch.Goals as goal

pub returns-clause-unlinks : goal.returns-clause-unlinks
returns-clause-unlinks c = unlinks_only

pub returns-clause-may_unlink : goal.returns-clause-may_unlink
returns-clause-may_unlink c = may_unlink_only

pub returns-clause-puts : goal.returns-clause-puts
returns-clause-puts c = puts_only

pub returns-clause-may_put : goal.returns-clause-may_put
returns-clause-may_put c = may_put_only

pub returns-clause-together : goal.returns-clause-together
returns-clause-together c = changes_trans
