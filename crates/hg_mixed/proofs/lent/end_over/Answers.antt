use Rattle.std.proofs.Common.{ℕ, List, None, ap, cond, subst, sym}
use Rattle.std.specs.List.{list_any}
use Rattle.hg_base.specs.Within.{is_above}
use Rattle.hg_entry.specs.Entry.{CacheData}
use Rattle.hg_mixed.specs.Lent.{as_dir, lent_at}
use Rattle.hg_nodes.specs.Times.{AreTimedPaths}
use Rattle.hg_mixed.proofs.Ended.{timed_paths}
use Rattle.hg_mixed.proofs.lent.end_over.Goals as goal

pub loop-dir-init : goal.loop-dir-init
loop-dir-init c = (
  subst AreTimedPaths (sym c.cached-cached.ensures.all) (timed_paths _ _ _ c.args.memory.now.rows c.args.memory.now.times c.cached-cached.ensures.formed),
  λ dir. ap (λ (times : List (List ℕ × CacheData)). cond (list_any (λ t. is_above (as_dir dir) t.0) times) None (lent_at c.args.lent.now dir)) c.cached-cached.ensures.all,
)
