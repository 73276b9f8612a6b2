use Rattle.hg_docket.specs.Docket as docket
use Rattle.hg_mixed.proofs.ImageLists.{lent_image}
use Rattle.hg_mixed.proofs.Placed.{places_image}
use Rattle.hg_mixed.proofs.mixed.Mixed.image.Goals as goal

pub returns-clause-places : goal.returns-clause-places
returns-clause-places c = places_image _ _ c.self.view_is c.self.invariant.1

pub returns-clause-lent : goal.returns-clause-lent
returns-clause-lent c =
    lent_image (docket.view c.self.inside.image.docket) c.self.inside.image.bytes.now c.self.inside.left c.self.inside.memory c.self.invariant.2 c.args.self.now c.self.view_is
