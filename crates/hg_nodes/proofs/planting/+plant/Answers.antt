-- The directories above the directory, with it and the path, are those above the path.
use Rattle.std.proofs.Common.{arith, ◌∙◌, ap}
use Rattle.hg_base.proofs.Children.{parent_length}
use Rattle.hg_nodes.specs.Lists.{data_of}
use Rattle.hg_nodes.specs.Node.{NodeData, node_at, planted}
use Rattle.hg_nodes.proofs.Planted.{planted_up, rooted_above_parent, still_missing}
use Rattle.hg_nodes.proofs.planting.+plant.Goals as goal

pub plant-requires : goal.plant-requires
plant-requires t c =
    let shorter = parent_length c.in-Some.dir.text.now c.args.path.text.now c.in-Some.ensures.0 in
    let was = node_at c.args.nodes.now in
    let put = node_at c.put.new.self in (
      omega (arith, c.decreases, shorter),
      (
        rooted_above_parent c.args.path.text.now c.in-Some.dir.text.now c.args.path.is_path c.in-Some.ensures.0 (data_of c.args.node) was put c.in_ok-put.ensures.ok c.requires.rooted,
        still_missing c.args.path.text.now c.in-Some.dir.text.now c.args.path.is_path c.in-Some.ensures.0 (data_of c.args.node) was put c.in_ok-put.ensures.ok c.in-Some.ensures.1,
      ),
    )

pub returns-in-Ok-clause-ok : goal.returns-in-Ok-clause-ok
returns-in-Ok-clause-ok t c =
    planted_up c.args.path.text.now c.in-Some.dir.text.now c.args.path.is_path c.in-Some.ensures.0 (data_of c.args.node) (node_at c.args.nodes.now) (node_at c.put.new.self) c.in_ok-put.ensures.ok
    c.in-Some.ensures.1 (node_at c.plant.new.nodes)
    (λ at. c.in-Ok.ensures.ok at ∙ ap (λ (n : NodeData). planted c.in-Some.dir.text.now n (node_at c.put.new.self) at) c.blank.ensures)
