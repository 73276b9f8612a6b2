use Rattle.hg_append.proofs.OneTree.{all_lost}
use Rattle.hg_append.proofs.laws.all_lost.Goals as goal

pub returns : goal.returns
returns c = all_lost
