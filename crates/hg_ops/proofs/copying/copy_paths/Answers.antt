use Rattle.std.proofs.Common.{Ok, Some, refl}
use Rattle.hg_mixed.specs.Held.{table}
use Rattle.hg_ops.proofs.Course.{copying, copying_none}
use Rattle.hg_ops.proofs.Tracked.{tables_on}
use Rattle.hg_ops.proofs.copying.copy_paths.Goals as goal

pub returns-in-Ok-Refused-clause-copying : goal.returns-in-Ok-Refused-clause-copying
returns-in-Ok-Refused-clause-copying g c =
    copying_none c.args.from.text.now c.args.to.text.now (table c.args.mixed.now) (g.T.Tree.history c.args.tree.now) (g.T.Tree.history c.look_at_both.new.tree) (Ok (Some c.in-Ok-Refused.refusal)) c.look_at_both.ensures.passes c.look_at_both.ensures.unasked c.look_at_both.ensures.idle
    (c.in-Ok-Refused.refusal, refl, rw c.in-Ok-Refused.field-0-is at c.in-Ok-Refused.ensures.found)

pub returns-in-Ok-Free-clause-table : goal.returns-in-Ok-Free-clause-table
returns-in-Ok-Free-clause-table g c =
    tables_on c.args.from.text.now c.args.to.text.now c.args.mixed.now c.look_at_both.new.mixed c.copy_free.new.mixed c.look_at_both.ensures.kept c.copy_free.result c.copy_free.ensures.table

pub returns-in-Ok-Free-clause-copying : goal.returns-in-Ok-Free-clause-copying
returns-in-Ok-Free-clause-copying g c =
    copying c.args.from.text.now c.args.to.text.now (table c.args.mixed.now) (g.T.Tree.history c.args.tree.now) (g.T.Tree.history c.look_at_both.new.tree) c.in-Ok-Free.stat (rw c.in-Ok-Free.field-0-is at c.in-Ok-Free.ensures.found) (g.T.Tree.history c.copy_free.new.tree)
    c.look_at_both.ensures.unasked c.copy_free.result c.copy_free.ensures.put
