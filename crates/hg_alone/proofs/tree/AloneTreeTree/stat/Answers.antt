use Rattle.hg_alone.proofs.Since.{ok_formed}
use Rattle.hg_alone.proofs.tree.AloneTreeTree.stat.Goals as goal

pub returns-clause-formed : goal.returns-clause-formed
returns-clause-formed c = λ told. ok_formed c.stat.new.self c.stat.result c.stat.ensures.formed
