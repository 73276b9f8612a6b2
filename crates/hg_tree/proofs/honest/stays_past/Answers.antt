use Rattle.hg_tree.proofs.Faces.{stays_past}
use Rattle.hg_tree.proofs.honest.stays_past.Goals as goal

pub returns : goal.returns
returns c = stays_past
