use Rattle.hg_cli.proofs.GoodLists.{each_call_is_good}
use Rattle.hg_cli.proofs.laws.each_call_is_good.Goals as goal

pub returns : goal.returns
returns g c = each_call_is_good _ (λ s told k within. g.met.S.Shelf.named_leaves s k ((g.S.Shelf.history s).at k).files (g.met.S.Shelf.shown_named s k told within))
