use Rattle.hg_walk.proofs.Noted.{noted_is_earned}
use Rattle.hg_walk.proofs.laws.noted_is_earned.Goals as goal

pub returns : goal.returns
returns c = noted_is_earned
