use Rattle.std.proofs.Common.{sym, ◌∙◌, ap, subst, List, ℕ}
use Rattle.std.specs.Option.{option_map}
use Rattle.hg_nodes.specs.Lists.{AreListed, data_of, rows_of}
use Rattle.hg_nodes.specs.Node.{NodeData, node_at}
use Rattle.hg_nodes.proofs.Made.{some_entries}
use Rattle.hg_nodes.proofs.Rows.{map_now, row_of}
use Rattle.hg_nodes.proofs.nodes.Nodes.get.Goals as goal

pub returns-in-Some : goal.returns-in-Some
returns-in-Some c =
    let are = some_entries _ c.in-Some.lists c.in-Some.is in
    map_now c.look.result
    ∙ ap (option_map data_of) c.look.ensures
    ∙ sym (row_of c.in-Some.lists.entries (subst AreListed are c.self.invariant.0) c.args.path.text.now)
    ∙ ap (λ (rows : List (List ℕ × NodeData)). node_at rows c.args.path.text.now) (ap rows_of (sym are) ∙ c.self.view_is)
