use Rattle.std.proofs.lemmas.Result.{on_ok_weaker}
use Rattle.hg_alone.proofs.Owned.{acted}
use Rattle.hg_shelf.proofs.Courses.{acts_own, goes_acted}
use Rattle.hg_shelf.proofs.Rules.{meets_synced}
use Rattle.hg_shelf.specs.Rules.{Syncs}
use Rattle.hg_shelf.specs.declared.outside.Step.TheVariants as a_step
use Rattle.hg_alone.proofs.shelf.AloneShelfShelf.sync.Goals as goal

pub invariant_of-self : goal.invariant_of-self
invariant_of-self c =
    let own = acted c.args.self.now.shelf (record { due = c.args.self.now.alone; failing = c.args.self.now.calm; changes = c.args.self.now.own }) c.sync.new.self (a_step.Synced c.args.name.now) c.sync.result c.sync.ensures.acted c.sync.ensures.failed in
    record { alone = own.due; calm = own.failing; own = own.changes }

pub returns-clause-synced : goal.returns-clause-synced
returns-clause-synced c =
    λ told. on_ok_weaker c.sync.result (λ is. acts_own c.args.self.now.shelf c.sync.new.self (a_step.Synced c.args.name.now) is (Syncs c.args.name.now) (meets_synced c.args.name.now)) c.sync.ensures.acted

pub returns-clause-kept : goal.returns-clause-kept
returns-clause-kept c = goes_acted c.args.self.now.shelf c.sync.new.self (a_step.Synced c.args.name.now) c.sync.result c.sync.ensures.acted c.sync.ensures.failed
