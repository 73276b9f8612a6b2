use Rattle.hg_alone.proofs.Since.{ok_formed}
use Rattle.hg_alone.proofs.tree.AloneTreeTree.list.Goals as goal

pub returns-clause-formed : goal.returns-clause-formed
returns-clause-formed c = λ told. ok_formed c.list.new.self c.list.result c.list.ensures.formed
