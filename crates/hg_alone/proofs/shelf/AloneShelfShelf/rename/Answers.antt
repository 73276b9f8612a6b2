use Rattle.std.proofs.lemmas.Result.{on_ok_weaker}
use Rattle.hg_alone.proofs.Owned.{acted}
use Rattle.hg_shelf.proofs.Courses.{acts_own, goes_acted}
use Rattle.hg_shelf.proofs.Rules.{meets_renamed}
use Rattle.hg_shelf.specs.Rules.{Renames}
use Rattle.hg_shelf.specs.declared.outside.Step.TheVariants as a_step
use Rattle.hg_alone.proofs.shelf.AloneShelfShelf.rename.Goals as goal

pub invariant_of-self : goal.invariant_of-self
invariant_of-self c =
    let own = acted c.args.self.now.shelf (record { due = c.args.self.now.alone; failing = c.args.self.now.calm; changes = c.args.self.now.own }) c.rename.new.self (a_step.Renamed c.args.from.now c.args.to.now) c.rename.result c.rename.ensures.acted c.rename.ensures.failed in
    record { alone = own.due; calm = own.failing; own = own.changes }

pub returns-clause-renamed : goal.returns-clause-renamed
returns-clause-renamed c =
    λ told. on_ok_weaker c.rename.result (λ is. acts_own c.args.self.now.shelf c.rename.new.self (a_step.Renamed c.args.from.now c.args.to.now) is (Renames c.args.from.now c.args.to.now) (meets_renamed c.args.from.now c.args.to.now)) c.rename.ensures.acted

pub returns-clause-kept : goal.returns-clause-kept
returns-clause-kept c = goes_acted c.args.self.now.shelf c.rename.new.self (a_step.Renamed c.args.from.now c.args.to.now) c.rename.result c.rename.ensures.acted c.rename.ensures.failed
