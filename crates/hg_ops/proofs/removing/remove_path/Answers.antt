use Rattle.std.proofs.Common.{refl}
use Rattle.hg_mixed.specs.Held.{table}
use Rattle.hg_ops.specs.Parent.{upto}
use Rattle.hg_ops.proofs.FoundSpans.{reads_none}
use Rattle.hg_ops.proofs.Taken.{removes_early, takes_passes, touches_none}
use Rattle.hg_tree.proofs.Spans.{passes_same}
use Rattle.hg_ops.proofs.removing.remove_path.Goals as goal

pub returns-in-Err-clause-stepped : goal.returns-in-Err-clause-stepped
returns-in-Err-clause-stepped g c = λ s keeps.
    removes_early c.args.after c.args.path.text.now (g.T.Tree.history c.args.tree.now) (upto s (g.S.Shelf.history c.args.shelf.now)) (table c.args.mixed.now) c.in-Err.refusal c.in-Err.ensures.refused keeps.passes

pub returns-in-Err-clause-takes : goal.returns-in-Err-clause-takes
returns-in-Err-clause-takes g c = takes_passes _ c.args.path.text.now (g.T.Tree.history c.args.tree.now) (g.T.Tree.history c.args.tree.now) (passes_same (g.T.Tree.history c.args.tree.now))

pub returns-in-Err-clause-touches : goal.returns-in-Err-clause-touches
returns-in-Err-clause-touches g c = λ told. touches_none c.args.path.text.now (g.T.Tree.history c.args.tree.now) (g.T.Tree.history c.args.tree.now) (passes_same (g.T.Tree.history c.args.tree.now))

pub returns-in-Err-clause-asked : goal.returns-in-Err-clause-asked
returns-in-Err-clause-asked g c = reads_none _ c.args.path.text.now (g.T.Tree.history c.args.tree.now) (g.T.Tree.history c.args.tree.now) (λ told. refl)
