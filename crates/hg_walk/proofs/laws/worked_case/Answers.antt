use Rattle.hg_walk.proofs.Example.{worked}
use Rattle.hg_walk.proofs.laws.worked_case.Goals as goal

pub returns : goal.returns
returns c = worked
