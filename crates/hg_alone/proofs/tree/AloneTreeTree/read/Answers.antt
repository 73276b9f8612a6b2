use Rattle.hg_alone.proofs.Since.{ok_formed}
use Rattle.hg_alone.proofs.tree.AloneTreeTree.read.Goals as goal

pub returns-clause-formed : goal.returns-clause-formed
returns-clause-formed c = λ told. ok_formed c.read.new.self c.read.result c.read.ensures.formed
