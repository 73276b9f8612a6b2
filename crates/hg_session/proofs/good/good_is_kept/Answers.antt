use Rattle.hg_session.proofs.GoodCalls.{answered_good}
use Rattle.hg_session.proofs.good.good_is_kept.Goals as goal

pub returns : goal.returns
returns g c = λ command copy old new before after oversize locks out err code fault ran.
    answered_good copy (record { old = g.S.Shelf.history old; new = g.S.Shelf.history new; before = before; after = after }) oversize locks (g.S.Shelf.images old) (g.S.Shelf.images new) out err code fault
    (λ told k within. g.met.S.Shelf.named_leaves new k ((g.S.Shelf.history new).at k).files (g.met.S.Shelf.shown_named new k told within)) command ran
