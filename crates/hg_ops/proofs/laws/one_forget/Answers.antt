use Rattle.hg_ops.proofs.OneStep.{forget_one}
use Rattle.hg_ops.proofs.laws.one_forget.Goals as goal

pub returns : goal.returns
returns c = forget_one
