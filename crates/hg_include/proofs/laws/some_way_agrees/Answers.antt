use Rattle.hg_include.proofs.Sound.{agrees_known}
use Rattle.hg_include.proofs.laws.some_way_agrees.Goals as goal

pub returns : goal.returns
returns c = agrees_known
