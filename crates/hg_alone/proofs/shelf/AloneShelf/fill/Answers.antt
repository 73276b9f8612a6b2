use Rattle.hg_alone.proofs.Owned.{acted, filled}
use Rattle.hg_shelf.specs.declared.outside.Step.TheVariants as a_step
use Rattle.hg_alone.proofs.shelf.AloneShelf.fill.Goals as goal

pub invariant_of-self : goal.invariant_of-self
invariant_of-self c =
    let own = acted c.args.self.now.shelf (record { due = c.args.self.now.alone; failing = c.args.self.now.calm; changes = c.args.self.now.own }) c.write_at.new.self (a_step.Wrote c.args.name.now 0 c.args.bytes.now) c.write_at.result c.write_at.ensures.acted c.write_at.ensures.failed in
    record { alone = own.due; calm = own.failing; own = own.changes }

pub returns-clause-files : goal.returns-clause-files
returns-clause-files c = filled c.args.self.now.shelf (record { due = c.args.self.now.alone; failing = c.args.self.now.calm; changes = c.args.self.now.own }) c.args.name.now c.args.bytes.now c.write_at.new.self c.write_at.result c.write_at.ensures.acted
