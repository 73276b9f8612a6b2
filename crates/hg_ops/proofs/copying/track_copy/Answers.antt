use Rattle.std.proofs.Common.{List, ℕ, Option, subst}
use Rattle.hg_nodes.specs.Edits.{IsSame, after_copy}
use Rattle.hg_mixed.specs.Held.{table}
use Rattle.hg_ops.proofs.Tracked.{tracked_copy, tracked_only}
use Rattle.hg_ops.proofs.copying.track_copy.Goals as goal

pub returns-clause-table : goal.returns-clause-table
returns-clause-table c = λ from is.
    tracked_copy from c.args.to.text.now c.args.mixed.now c.track.new.mixed c.copy_from.new.self c.requires c.args.source.now is (rw c.in-Ok-None.field-0-is at c.in-Ok-None.ensures.table)
    (subst (λ (s : Option (List ℕ)). IsSame (table c.copy_from.new.self) (after_copy c.args.to.text.now s (table c.track.new.mixed))) c.source_ref.ensures c.in-Ok.ensures.table)
    c.in-Ok-None.ensures.changed c.in-Ok-None.ensures.lent c.in-Ok-None.ensures.places c.in-Ok.ensures.changed c.in-Ok.ensures.lent c.in-Ok.ensures.places

pub returns-in-Err-copy_from-clause-table : goal.returns-in-Err-copy_from-clause-table
returns-in-Err-copy_from-clause-table c = λ from is.
    tracked_only from c.args.to.text.now c.args.mixed.now c.track.new.mixed c.copy_from.new.self c.requires c.args.source.now is (rw c.in-Ok-None.field-0-is at c.in-Ok-None.ensures.table)
    c.in-Err-copy_from.ensures.err
