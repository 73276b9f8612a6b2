-- The parents of the parent, with it and the path, are those of the path.
use Rattle.std.proofs.Common.{arith}
use Rattle.std.specs.BTreeMap.{get_by_text}
use Rattle.hg_tree.proofs.Planting.{parent_shorter, rooted_above_parent, planted}
use Rattle.hg_tree.proofs.things.+plant.Goals as goal

pub plant-requires : goal.plant-requires
plant-requires t c =
    let shorter = parent_shorter c.in-Some.dir.text.now c.args.path.text.now c.in-Some.ensures.0 in (
      omega (arith, c.decreases, shorter),
      rooted_above_parent c.args.path.text.now c.in-Some.dir.text.now c.args.placed (get_by_text c.args.things.now) (get_by_text c.put.new.things) c.in-Some.ensures.0 c.in_ok-was.ensures.put c.requires,
    )

pub returns-in-Ok-clause-ok : goal.returns-in-Ok-clause-ok
returns-in-Ok-clause-ok t c =
    planted c.args.path.text.now c.in-Some.dir.text.now c.args.placed (get_by_text c.args.things.now) (get_by_text c.put.new.things) c.in-Some.ensures.0 c.in_ok-was.ensures.put c.in-Some.ensures.1
    (get_by_text c.plant.new.things) c.in-Ok.ensures.ok
