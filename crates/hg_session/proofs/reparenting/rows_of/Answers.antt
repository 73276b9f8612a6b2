use Rattle.hg_session.proofs.ParentLoads.{by_test}
use Rattle.hg_session.proofs.reparenting.rows_of.Goals as goal

pub returns-clause-answers : goal.returns-clause-answers
returns-clause-answers g c = by_test _ _ _ c.load.ensures.null c.load.ensures.found
