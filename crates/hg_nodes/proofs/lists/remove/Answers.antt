use Rattle.std.proofs.Common.{◌∙◌}
use Rattle.hg_nodes.proofs.lists.remove.Goals as goal

pub returns : goal.returns
returns c = record { found = λ at. c.drop_empty.ensures.found at ∙ c.take.ensures.found at; listed = c.drop_empty.ensures.listed }
