use Rattle.std.proofs.lemmas.Result.{on_ok_weaker}
use Rattle.hg_alone.proofs.Owned.{acted}
use Rattle.hg_shelf.proofs.Courses.{acts_own, goes_acted}
use Rattle.hg_shelf.proofs.Rules.{meets_removed}
use Rattle.hg_shelf.specs.Rules.{Removes}
use Rattle.hg_shelf.specs.declared.outside.Step.TheVariants as a_step
use Rattle.hg_alone.proofs.shelf.AloneShelfShelf.remove.Goals as goal

pub invariant_of-self : goal.invariant_of-self
invariant_of-self c =
    let own = acted c.args.self.now.shelf (record { due = c.args.self.now.alone; failing = c.args.self.now.calm; changes = c.args.self.now.own }) c.remove.new.self (a_step.Removed c.args.name.now) c.remove.result c.remove.ensures.acted c.remove.ensures.failed in
    record { alone = own.due; calm = own.failing; own = own.changes }

pub returns-clause-removed : goal.returns-clause-removed
returns-clause-removed c =
    λ told. on_ok_weaker c.remove.result (λ is. acts_own c.args.self.now.shelf c.remove.new.self (a_step.Removed c.args.name.now) is (Removes c.args.name.now) (meets_removed c.args.name.now)) c.remove.ensures.acted

pub returns-clause-kept : goal.returns-clause-kept
returns-clause-kept c = goes_acted c.args.self.now.shelf c.remove.new.self (a_step.Removed c.args.name.now) c.remove.result c.remove.ensures.acted c.remove.ensures.failed
