use Rattle.hg_tree.proofs.Faces.{past_honest}
use Rattle.hg_tree.proofs.honest.honest_past.Goals as goal

pub returns : goal.returns
returns c = past_honest
