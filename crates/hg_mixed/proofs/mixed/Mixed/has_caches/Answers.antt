use Rattle.hg_mixed.proofs.Bare.{finds_any}
use Rattle.hg_mixed.proofs.mixed.Mixed.has_caches.Goals as goal

pub returns : goal.returns
returns c = finds_any c.args.self.now c.has_in.result c.has_in.ensures
