use Rattle.std.proofs.Common.{refl}
use Rattle.hg_mixed.proofs.ClashWhole.{least_result}
use Rattle.hg_mixed.proofs.mixed.Mixed.clash.Goals as goal

pub returns-clause-clash : goal.returns-clause-clash
returns-clause-clash c =
    least_result _ _ c.self.view_is _ _ _ _ _ _ c.take_near.ensures.moved c.args.path.text.now c.in_ok-take_near.ensures.near refl c.clash.result c.clash.ensures
