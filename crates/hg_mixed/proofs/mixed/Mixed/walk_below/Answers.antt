use Rattle.hg_mixed.proofs.LentChildren.{children_found, children_none}
use Rattle.hg_mixed.proofs.mixed.Mixed.walk_below.Goals as goal

pub lent_walk-requires : goal.lent_walk-requires
lent_walk-requires c =
    children_none c.args.self.now _ c.self.view_is c.self.invariant.0 c.args.dir.text.now c.in-Image-None.field-0 c.in-Image-None.ensures c.in-Image-None.field-0-is

pub lent_walk-requires-in-Image-Some : goal.lent_walk-requires-in-Image-Some
lent_walk-requires-in-Image-Some c =
    children_found c.args.self.now _ c.self.view_is c.self.invariant.0 c.args.dir.text.now c.in-Image-Some.field-0 c.in-Image-Some.node c.children.result c.in-Image-Some.ensures
    c.in-Image-Some.field-0-is c.children.ensures.rows c.children.ensures.dir
