use Rattle.hg_ops.proofs.OneStep.{add_one}
use Rattle.hg_ops.proofs.laws.one_add.Goals as goal

pub returns : goal.returns
returns c = add_one
