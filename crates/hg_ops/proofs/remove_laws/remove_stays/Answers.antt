use Rattle.hg_ops.proofs.LongerSpan.{removes_longer}
use Rattle.hg_ops.proofs.remove_laws.remove_stays.Goals as goal

pub returns : goal.returns
returns c = removes_longer
