use Rattle.hg_walk.proofs.Growing.{noted_is_good}
use Rattle.hg_walk.proofs.laws.good_with_notes.Goals as goal

pub returns : goal.returns
returns c = noted_is_good
