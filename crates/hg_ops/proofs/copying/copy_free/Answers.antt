use Rattle.hg_ops.proofs.Pieces.{putting_behind, putting_none}
use Rattle.hg_ops.proofs.copying.copy_free.Goals as goal

pub returns-in-Err-clause-put : goal.returns-in-Err-clause-put
returns-in-Err-clause-put g c = putting_none c.args.from.text.now c.args.to.text.now c.args.stat.now (g.T.Tree.history c.args.tree.now) c.in-Err.fault

pub returns-clause-put : goal.returns-clause-put
returns-clause-put g c =
    putting_behind c.args.from.text.now c.args.to.text.now c.args.stat.now (g.T.Tree.history c.args.tree.now) (g.T.Tree.history c.put_bytes.new.tree) (rw c.in-Ok-None.field-0-is at c.in-Ok-None.ensures.put) c.track_copy.result
    c.track_copy.ensures.done
