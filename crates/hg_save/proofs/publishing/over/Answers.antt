use Rattle.std.proofs.Common.{rules}
use Rattle.hg_append.proofs.Behind.{over_planned}
use Rattle.hg_save.proofs.publishing.over.Goals as goal

pub returns-clause-image : goal.returns-clause-image
returns-clause-image c = λ plan.
    over_planned c.args.table.now c.image.result c.image.ensures.docket c.image.ensures.bytes (search rules) c.image.ensures.lent c.image.ensures.places plan c.parents.ensures.formed
