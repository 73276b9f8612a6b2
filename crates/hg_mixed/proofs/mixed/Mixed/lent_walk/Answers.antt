use Rattle.std.proofs.Common.{refl}
use Rattle.hg_mixed.proofs.Handed.{begun_lent}
use Rattle.hg_mixed.proofs.LentChildren.{children_lent}
use Rattle.hg_mixed.proofs.mixed.Mixed.lent_walk.Goals as goal

pub returns-clause-children : goal.returns-clause-children
returns-clause-children c = children_lent c.args.self.now _ c.self.view_is c.self.invariant.0 _ c.args.list c.requires

pub returns-clause-lists : goal.returns-clause-lists
returns-clause-lists c = begun_lent c.args.self.now _ c.self.view_is c.self.invariant.0 _ refl _ c.args.list refl c.requires
