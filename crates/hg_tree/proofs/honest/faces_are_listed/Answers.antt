use Rattle.hg_tree.proofs.Telling.{face_is_listed}
use Rattle.hg_tree.proofs.honest.faces_are_listed.Goals as goal

pub returns : goal.returns
returns c = face_is_listed
