use Rattle.hg_flat.proofs.Arriving.{plain_stays, plain_there, there_stays}
use Rattle.hg_flat.proofs.coming.store_of_end.Goals as goal

pub returns-clause-end : goal.returns-clause-end
returns-clause-end c = there_stays

pub returns-clause-start : goal.returns-clause-start
returns-clause-start c = plain_stays

pub returns-clause-weaker : goal.returns-clause-weaker
returns-clause-weaker c = plain_there
