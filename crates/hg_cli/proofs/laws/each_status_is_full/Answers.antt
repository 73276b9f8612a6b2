use Rattle.hg_cli.proofs.Headline.{each_status_is_full}
use Rattle.hg_cli.proofs.laws.each_status_is_full.Goals as goal

pub returns : goal.returns
returns g c = each_status_is_full _ (λ s told k within. g.met.S.Shelf.named_leaves s k ((g.S.Shelf.history s).at k).files (g.met.S.Shelf.shown_named s k told within))
