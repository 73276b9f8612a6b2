use Rattle.hg_nodes.proofs.same.same_cache.Goals as goal
use Rattle.hg_nodes.proofs.SameCaches.{caches_match}

pub returns : goal.returns
returns c = caches_match c.args.a c.args.b c.same_time.result c.same_time.ensures
