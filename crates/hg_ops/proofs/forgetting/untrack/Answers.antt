use Rattle.hg_entry.specs.Entry.{view}
use Rattle.hg_mixed.specs.Held.{table}
use Rattle.hg_ops.proofs.Forgotten.{drop_marks}
use Rattle.hg_ops.proofs.ForgottenLent.{drop_lends}
use Rattle.hg_ops.proofs.forgetting.untrack.Goals as goal

pub returns-in-Ok-clause-changed : goal.returns-in-Ok-clause-changed
returns-in-Ok-clause-changed c =
    drop_marks c.args.path.text.now (view c.args.entry) (table c.args.mixed.now) (table c.drop_entry.new.self) c.args.mixed.now.changed c.drop_entry.new.self.changed c.requires.entry
    c.in-Ok.ensures.pruned c.in-Ok.ensures.changed

pub returns-in-Ok-clause-lent : goal.returns-in-Ok-clause-lent
returns-in-Ok-clause-lent c =
    drop_lends c.args.path.text.now (view c.args.entry) c.args.mixed.now c.drop_entry.new.self c.requires.entry c.in-Ok.ensures.pruned c.in-Ok.ensures.lent
