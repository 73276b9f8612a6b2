use Rattle.std.proofs.lemmas.Result.{on_ok_weaker}
use Rattle.hg_alone.proofs.Owned.{acted}
use Rattle.hg_shelf.proofs.Courses.{acts_own, goes_acted}
use Rattle.hg_shelf.proofs.Rules.{meets_synced_names}
use Rattle.hg_shelf.specs.Rules.{SyncsNames}
use Rattle.hg_shelf.specs.declared.outside.Step.TheVariants as a_step
use Rattle.hg_alone.proofs.shelf.AloneShelfShelf.sync_names.Goals as goal

pub invariant_of-self : goal.invariant_of-self
invariant_of-self c =
    let own = acted c.args.self.now.shelf (record { due = c.args.self.now.alone; failing = c.args.self.now.calm; changes = c.args.self.now.own }) c.sync_names.new.self (a_step.SyncedNames) c.sync_names.result c.sync_names.ensures.acted c.sync_names.ensures.failed in
    record { alone = own.due; calm = own.failing; own = own.changes }

pub returns-clause-synced : goal.returns-clause-synced
returns-clause-synced c =
    λ told. on_ok_weaker c.sync_names.result (λ is. acts_own c.args.self.now.shelf c.sync_names.new.self (a_step.SyncedNames) is SyncsNames meets_synced_names) c.sync_names.ensures.acted

pub returns-clause-kept : goal.returns-clause-kept
returns-clause-kept c = goes_acted c.args.self.now.shelf c.sync_names.new.self (a_step.SyncedNames) c.sync_names.result c.sync_names.ensures.acted c.sync_names.ensures.failed
