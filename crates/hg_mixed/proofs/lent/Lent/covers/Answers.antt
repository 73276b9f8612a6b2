use Rattle.std.proofs.Common.{◌∙◌}
use Rattle.hg_mixed.proofs.Nearest.{over_some}
use Rattle.hg_mixed.proofs.lent.Lent.covers.Goals as goal

pub returns : goal.returns
returns c = c.is_some.ensures ∙ over_some c.args.self.now c.args.path.text.now c.over.result c.over.ensures
