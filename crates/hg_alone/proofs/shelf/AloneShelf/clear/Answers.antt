use Rattle.hg_alone.proofs.Owned.{acted, cleared}
use Rattle.hg_shelf.specs.declared.outside.Step.TheVariants as a_step
use Rattle.hg_alone.proofs.shelf.AloneShelf.clear.Goals as goal

pub invariant_of-self : goal.invariant_of-self
invariant_of-self c =
    let own = acted c.args.self.now.shelf (record { due = c.args.self.now.alone; failing = c.args.self.now.calm; changes = c.args.self.now.own }) c.remove.new.self (a_step.Removed c.args.name.now) c.remove.result c.remove.ensures.acted c.remove.ensures.failed in
    record { alone = own.due; calm = own.failing; own = own.changes }

pub returns-clause-files : goal.returns-clause-files
returns-clause-files c = cleared c.args.self.now.shelf (record { due = c.args.self.now.alone; failing = c.args.self.now.calm; changes = c.args.self.now.own }) c.args.name.now c.remove.new.self c.remove.result c.remove.ensures.acted
