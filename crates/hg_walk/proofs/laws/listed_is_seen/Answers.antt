use Rattle.hg_walk.proofs.Listed.{listed_is_seen}
use Rattle.hg_walk.proofs.laws.listed_is_seen.Goals as goal

pub returns : goal.returns
returns c = listed_is_seen
