use Rattle.hg_flat.proofs.Arriving.{worked}
use Rattle.hg_flat.proofs.coming.files_may_come.Goals as goal

pub returns : goal.returns
returns c = worked
