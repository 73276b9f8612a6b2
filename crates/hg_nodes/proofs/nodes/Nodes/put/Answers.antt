use Rattle.std.proofs.Common.{Some, ap, subst, sym, ◌∙◌}
use Rattle.hg_nodes.specs.Kids.{IsMarked}
use Rattle.hg_nodes.specs.Lists.{AreListed, data_of, rows_of}
use Rattle.hg_nodes.proofs.Childless.{marked_put, marked_same}
use Rattle.hg_nodes.proofs.Listed.{rows_changed, rows_kept}
use Rattle.hg_nodes.proofs.Made.{made_entries}
use Rattle.hg_nodes.proofs.nodes.Nodes.put.Goals as goal

pub returns-in-Ok-clause-ok : goal.returns-in-Ok-clause-ok
returns-in-Ok-clause-ok c =
    let are = made_entries c.self.inside.lists c.new.result c.get_or_insert-lists.result.now c.new.ensures.empty c.get_or_insert-lists.ensures.value in
    rows_changed c.get_or_insert-lists.result.now c.put.new.lists c.args.self.now (subst AreListed are c.self.invariant.0) (ap rows_of (sym are) ∙ c.self.view_is) c.args.path.text.now (Some c.args.node) c.in-Ok.ensures.ok

pub returns-in-Err-clause-err : goal.returns-in-Err-clause-err
returns-in-Err-clause-err c =
    let are = made_entries c.self.inside.lists c.new.result c.get_or_insert-lists.result.now c.new.ensures.empty c.get_or_insert-lists.ensures.value in
    rows_kept c.get_or_insert-lists.result.now c.put.new.lists c.args.self.now (subst AreListed are c.self.invariant.0) (ap rows_of (sym are) ∙ c.self.view_is) c.in-Err.ensures.err

pub invariant_of-self : goal.invariant_of-self
invariant_of-self c =
    let are = made_entries c.self.inside.lists c.new.result c.get_or_insert-lists.result.now c.new.ensures.empty c.get_or_insert-lists.ensures.value in (
      c.in-Err.ensures.err.listed,
      marked_same c.args.self.now _ c.self.inside.stacked
          (rows_kept c.get_or_insert-lists.result.now c.put.new.lists c.args.self.now (subst AreListed are c.self.invariant.0) (ap rows_of (sym are) ∙ c.self.view_is) c.in-Err.ensures.err)
          (subst (IsMarked c.self.inside.stacked) c.self.view_is c.self.invariant.1),
    )

pub invariant_of-self-in-Ok : goal.invariant_of-self-in-Ok
invariant_of-self-in-Ok c =
    let are = made_entries c.self.inside.lists c.new.result c.get_or_insert-lists.result.now c.new.ensures.empty c.get_or_insert-lists.ensures.value in (
      c.in-Ok.ensures.ok.listed,
      marked_put c.args.self.now _ c.args.path.text.now (data_of c.args.node)
          (rows_changed c.get_or_insert-lists.result.now c.put.new.lists c.args.self.now (subst AreListed are c.self.invariant.0) (ap rows_of (sym are) ∙ c.self.view_is) c.args.path.text.now (Some c.args.node) c.in-Ok.ensures.ok)
          c.self.inside.stacked (subst (IsMarked c.self.inside.stacked) c.self.view_is c.self.invariant.1) c.args.path.is_path c.is_stacking-stacks.result c.is_stacking-stacks.ensures,
    )
