use Rattle.hg_mixed.proofs.LentChildren.{children_listed}
use Rattle.hg_mixed.proofs.mixed.Mixed.walk.Goals as goal

pub lent_walk-requires : goal.lent_walk-requires
lent_walk-requires c =
    children_listed c.args.self.now _ c.self.view_is c.self.invariant.0 c.args.dir c.in-Some.list c.text_of.result.now c.text_of.ensures c.in-Some.ensures.rows c.in-Some.ensures.dir
