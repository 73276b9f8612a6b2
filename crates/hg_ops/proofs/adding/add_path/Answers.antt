use Rattle.std.proofs.Common.{sym, ◌∙◌}
use Rattle.hg_mixed.specs.Held.{table}
use Rattle.hg_ops.proofs.Added.{by_look, tracked_already}
use Rattle.hg_ops.proofs.adding.add_path.Goals as goal

pub returns-then-is_tracked-clause-stepped : goal.returns-then-is_tracked-clause-stepped
returns-then-is_tracked-clause-stepped g c =
    tracked_already c.args.path.text.now (g.T.Tree.history c.args.tree.now) (table c.args.mixed.now) c.args.path.is_path (sym c.is_tracked.ensures ∙ c.if-is_tracked.true)

pub returns-in-Ok-clause-stepped : goal.returns-in-Ok-clause-stepped
returns-in-Ok-clause-stepped g c =
    by_look c.args.path.text.now (g.T.Tree.history c.args.tree.now) (g.T.Tree.history c.stat.new.self) (table c.args.mixed.now) (table c.add_shown.new.mixed) c.in-Ok.shown
    c.add_shown.result c.stat.ensures.passes c.in-Ok.ensures.found c.add_shown.ensures.stepped
