use Rattle.std.proofs.lemmas.Result.{on_ok_weaker}
use Rattle.hg_alone.proofs.Owned.{acted}
use Rattle.hg_shelf.proofs.Courses.{acts_own, goes_acted}
use Rattle.hg_shelf.proofs.Rules.{meets_wrote}
use Rattle.hg_shelf.specs.Rules.{Writes}
use Rattle.hg_shelf.specs.declared.outside.Step.TheVariants as a_step
use Rattle.hg_alone.proofs.shelf.AloneShelfShelf.write_at.Goals as goal

pub invariant_of-self : goal.invariant_of-self
invariant_of-self c =
    let own = acted c.args.self.now.shelf (record { due = c.args.self.now.alone; failing = c.args.self.now.calm; changes = c.args.self.now.own }) c.write_at.new.self (a_step.Wrote c.args.name.now c.args.place c.args.bytes.now) c.write_at.result c.write_at.ensures.acted c.write_at.ensures.failed in
    record { alone = own.due; calm = own.failing; own = own.changes }

pub returns-clause-written : goal.returns-clause-written
returns-clause-written c =
    λ told. on_ok_weaker c.write_at.result (λ is. acts_own c.args.self.now.shelf c.write_at.new.self (a_step.Wrote c.args.name.now c.args.place c.args.bytes.now) is (Writes c.args.name.now c.args.place c.args.bytes.now) (meets_wrote c.args.name.now c.args.place c.args.bytes.now)) c.write_at.ensures.acted

pub returns-clause-kept : goal.returns-clause-kept
returns-clause-kept c = goes_acted c.args.self.now.shelf c.write_at.new.self (a_step.Wrote c.args.name.now c.args.place c.args.bytes.now) c.write_at.result c.write_at.ensures.acted c.write_at.ensures.failed
