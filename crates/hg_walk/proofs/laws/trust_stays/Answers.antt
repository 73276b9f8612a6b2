use Rattle.hg_walk.proofs.Growing.{trust_stays}
use Rattle.hg_walk.proofs.laws.trust_stays.Goals as goal

pub returns : goal.returns
returns c = trust_stays
