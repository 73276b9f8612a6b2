use Rattle.std.proofs.Common.{None, ap, subst, sym, ◌∙◌}
use Rattle.hg_nodes.specs.Kids.{IsMarked}
use Rattle.hg_nodes.specs.Lists.{AreListed, rows_of}
use Rattle.hg_nodes.proofs.Childless.{marked_removed}
use Rattle.hg_nodes.proofs.Listed.{rows_changed}
use Rattle.hg_nodes.proofs.Made.{some_entries}
use Rattle.hg_nodes.proofs.nodes.Nodes.remove.Goals as goal

pub returns : goal.returns
returns c =
    let are = some_entries _ c.in-Some.lists c.in-Some.is in
    rows_changed c.in-Some.lists c.remove.new.lists c.args.self.now (subst AreListed are c.self.invariant.0) (ap rows_of (sym are) ∙ c.self.view_is) c.args.path.text.now None c.remove.ensures

pub invariant_of-self-2 : goal.invariant_of-self-2
invariant_of-self-2 c =
    let are = some_entries _ c.in-Some.lists c.in-Some.is in (
      c.remove.ensures.listed,
      marked_removed c.args.self.now _ c.args.path.text.now c.self.inside.stacked
          (rows_changed c.in-Some.lists c.remove.new.lists c.args.self.now (subst AreListed are c.self.invariant.0) (ap rows_of (sym are) ∙ c.self.view_is) c.args.path.text.now None c.remove.ensures)
          (subst (IsMarked c.self.inside.stacked) c.self.view_is c.self.invariant.1),
    )
