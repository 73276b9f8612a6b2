use Rattle.std.proofs.Common.{Some, sym, ◌∙◌, ap, subst, List, ℕ}
use Rattle.std.specs.Option.{option_map}
use Rattle.hg_nodes.specs.Kids.{IsMarked}
use Rattle.hg_nodes.specs.Lists.{AreListed, data_of, rows_of}
use Rattle.hg_nodes.specs.Node.{NodeData, node_at}
use Rattle.hg_nodes.proofs.Childless.{marked_replaced}
use Rattle.hg_nodes.proofs.Listed.{node_is, rows_changed}
use Rattle.hg_nodes.proofs.Made.{some_entries}
use Rattle.hg_nodes.proofs.Rows.{row_of}
use Rattle.hg_nodes.proofs.nodes.Nodes.replace.Goals as goal

pub replace-was-requires-clause-there : goal.replace-was-requires-clause-there
replace-was-requires-clause-there c =
    let are = some_entries _ c.in-Some.lists c.in-Some.is in
    node_is c.in-Some.lists c.in-Some.lists c.args.self.now (subst AreListed are c.self.invariant.0) (ap rows_of (sym are) ∙ c.self.view_is) c.args.path.text.now c.requires

pub returns-clause-was : goal.returns-clause-was
returns-clause-was c =
    let are = some_entries _ c.in-Some.lists c.in-Some.is in
    ap (option_map data_of) c.replace-was.ensures.was
    ∙ sym (row_of c.in-Some.lists.entries (subst AreListed are c.self.invariant.0) c.args.path.text.now)
    ∙ ap (λ (rows : List (List ℕ × NodeData)). node_at rows c.args.path.text.now) (ap rows_of (sym are) ∙ c.self.view_is)

pub returns-clause-put : goal.returns-clause-put
returns-clause-put c =
    let are = some_entries _ c.in-Some.lists c.in-Some.is in
    rows_changed c.in-Some.lists c.replace-was.new.lists c.args.self.now (subst AreListed are c.self.invariant.0) (ap rows_of (sym are) ∙ c.self.view_is) c.args.path.text.now (Some c.args.node) c.replace-was.ensures.changed

pub invariant_of-self-2 : goal.invariant_of-self-2
invariant_of-self-2 c =
    let are = some_entries _ c.in-Some.lists c.in-Some.is in (
      c.replace-was.ensures.changed.listed,
      marked_replaced c.args.self.now _ c.args.path.text.now (data_of c.args.node)
          (rows_changed c.in-Some.lists c.replace-was.new.lists c.args.self.now (subst AreListed are c.self.invariant.0) (ap rows_of (sym are) ∙ c.self.view_is) c.args.path.text.now (Some c.args.node) c.replace-was.ensures.changed)
          c.self.inside.stacked (subst (IsMarked c.self.inside.stacked) c.self.view_is c.self.invariant.1) c.requires c.stacks-stacks.result c.stacks-stacks.ensures,
    )
