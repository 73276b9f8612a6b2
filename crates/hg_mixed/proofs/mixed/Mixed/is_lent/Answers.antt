use Rattle.std.proofs.Common.{◌∙◌}
use Rattle.std.specs.Option.{option_map}
use Rattle.hg_mixed.proofs.ImageLists.{lent_some}
use Rattle.hg_mixed.proofs.mixed.Mixed.is_lent.Goals as goal

pub returns : goal.returns
returns c = c.is_some.ensures ∙ lent_some c.args.self.now (option_map (λ d. d.text.now) c.args.dir) c.lent.result c.lent.ensures
