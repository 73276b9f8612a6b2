use Rattle.std.proofs.Common.{None}
use Rattle.hg_entry.specs.Entry.{view}
use Rattle.hg_nodes.specs.Edits.{after_copy}
use Rattle.hg_mixed.specs.Held.{table}
use Rattle.hg_ops.proofs.Forgotten.{leave_both, set_both, source_gone}
use Rattle.hg_ops.proofs.ForgottenLent.{leave_lends, leave_places}
use Rattle.hg_ops.proofs.forgetting.leave.Goals as goal

pub returns-in-Ok-clause-table : goal.returns-in-Ok-clause-table
returns-in-Ok-clause-table c =
    set_both c.args.path.text.now (view c.args.left) (table c.copy_from.new.self) (after_copy c.args.path.text.now None (table c.args.mixed.now)) (table c.set_left.new.mixed)
    c.in-Ok.ensures.table c.set_left.result c.set_left.ensures.table

pub returns-in-Ok-clause-changed : goal.returns-in-Ok-clause-changed
returns-in-Ok-clause-changed c =
    leave_both c.args.path.text.now (view c.args.was) (view c.args.left) (table c.args.mixed.now) (table c.copy_from.new.self) (table c.set_left.new.mixed) c.args.mixed.now.changed
    c.copy_from.new.self.changed c.set_left.new.mixed.changed c.requires.entry c.requires.tracked c.requires.untracked c.in-Ok.ensures.table c.set_left.result c.set_left.ensures.table
    c.set_left.ensures.changed

pub returns-in-Ok-clause-err : goal.returns-in-Ok-clause-err
returns-in-Ok-clause-err c = source_gone c.args.path.text.now c.args.mixed.now c.copy_from.new.self c.set_left.new.mixed c.in-Ok.ensures.table c.set_left.result c.set_left.ensures.err

pub returns-in-Ok-clause-lent : goal.returns-in-Ok-clause-lent
returns-in-Ok-clause-lent c =
    leave_lends c.args.path.text.now (view c.args.was) (view c.args.left) c.args.mixed.now c.copy_from.new.self c.set_left.new.mixed c.requires.entry c.requires.tracked c.requires.untracked
    c.in-Ok.ensures.table c.in-Ok.ensures.lent c.set_left.result c.set_left.ensures.table c.set_left.ensures.lent

pub returns-in-Ok-clause-places : goal.returns-in-Ok-clause-places
returns-in-Ok-clause-places c =
    leave_places c.args.path.text.now c.args.mixed.now c.copy_from.new.self c.set_left.new.mixed c.in-Ok.ensures.table c.in-Ok.ensures.places c.set_left.result c.set_left.ensures.places
