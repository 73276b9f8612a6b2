use Rattle.hg_walk.proofs.Parts.{timeless_are_right, untaken_are_right}
use Rattle.hg_walk.proofs.laws.timeless_are_right.Goals as goal

pub returns-clause-timeless : goal.returns-clause-timeless
returns-clause-timeless c = timeless_are_right

pub returns-clause-untaken : goal.returns-clause-untaken
returns-clause-untaken c = untaken_are_right
