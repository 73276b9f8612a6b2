use Rattle.hg_tree.proofs.Telling.{face_is_told, face_tells, face_with_exec}
use Rattle.hg_tree.proofs.honest.faces_tell.Goals as goal

pub returns-clause-tells : goal.returns-clause-tells
returns-clause-tells c = face_tells

pub returns-clause-told : goal.returns-clause-told
returns-clause-told c = face_is_told

pub returns-clause-exec : goal.returns-clause-exec
returns-clause-exec c = face_with_exec
