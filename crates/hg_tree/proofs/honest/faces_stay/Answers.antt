use Rattle.hg_tree.proofs.Faces.{law}
use Rattle.hg_tree.proofs.honest.faces_stay.Goals as goal

pub returns : goal.returns
returns c = law
