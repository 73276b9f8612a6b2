use Rattle.std.proofs.Common.{◌≡◌, Some, Option, subst}
use Rattle.std.specs.Bool.{MatchBool}
use Rattle.hg_entry.specs.Entry.{CacheData, cache_view}
use Rattle.hg_nodes.proofs.Edited.{cache_marks, cache_told}
use Rattle.hg_nodes.proofs.memory.Memory.note_dir.Goals as goal

pub returns-in-Ok-clause-changed : goal.returns-in-Ok-clause-changed
returns-in-Ok-clause-changed c =
    cache_marks c.args.dir.text.now (Some (cache_view c.args.time)) _ _ c.self.view_is c.put.new.self c.in-Ok.ensures.ok c.same_cache-differs.result
    (subst (λ (o : Option CacheData). MatchBool c.same_cache-differs.result (o ≡ Some (cache_view c.args.time)) (o ≡ Some (cache_view c.args.time) → ⊥)) c.get.ensures c.same_cache-differs.ensures)

pub returns-in-Ok-clause-differs : goal.returns-in-Ok-clause-differs
returns-in-Ok-clause-differs c =
    cache_told c.args.dir.text.now (Some (cache_view c.args.time)) _ _ c.self.view_is c.put.new.self c.in-Ok.ensures.ok c.same_cache-differs.result
    (subst (λ (o : Option CacheData). MatchBool c.same_cache-differs.result (o ≡ Some (cache_view c.args.time)) (o ≡ Some (cache_view c.args.time) → ⊥)) c.get.ensures c.same_cache-differs.ensures)
