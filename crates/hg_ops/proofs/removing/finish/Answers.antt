use Rattle.hg_tree.proofs.Touching.{may_unlink_only}
use Rattle.hg_ops.proofs.removing.finish.Goals as goal

pub returns-in-Err-clause-touches : goal.returns-in-Err-clause-touches
returns-in-Err-clause-touches g c = λ told.
    may_unlink_only c.args.path.text.now (g.T.Tree.history c.args.tree.now) (g.T.Tree.history c.take.new.tree) (c.take.ensures.formed told) (c.take.ensures.takes told)

pub returns-in-Ok-clause-touches : goal.returns-in-Ok-clause-touches
returns-in-Ok-clause-touches g c = λ told.
    may_unlink_only c.args.path.text.now (g.T.Tree.history c.args.tree.now) (g.T.Tree.history c.take.new.tree) (c.take.ensures.formed told) (c.take.ensures.takes told)
