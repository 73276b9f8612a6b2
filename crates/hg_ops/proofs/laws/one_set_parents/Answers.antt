use Rattle.hg_ops.proofs.OneParents.{parents_one}
use Rattle.hg_ops.proofs.laws.one_set_parents.Goals as goal

pub returns : goal.returns
returns c = parents_one
