use Rattle.hg_nodes.proofs.Edited.{no_cache_marks}
use Rattle.hg_nodes.proofs.memory.Memory.drop_caches.Goals as goal

pub returns-clause-changed : goal.returns-clause-changed
returns-clause-changed c = no_cache_marks _ _ c.self.view_is c.clear.new.self c.clear.ensures c.is_empty-differs.result c.is_empty-differs.ensures
