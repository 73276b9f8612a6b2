use Rattle.hg_alone.proofs.Since.{ok_formed}
use Rattle.hg_alone.proofs.tree.AloneTreeTree.now.Goals as goal

pub returns-clause-formed : goal.returns-clause-formed
returns-clause-formed c = λ told. ok_formed c.now.new.self c.now.result c.now.ensures.formed
