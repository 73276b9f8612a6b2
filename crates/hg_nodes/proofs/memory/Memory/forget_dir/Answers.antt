use Rattle.std.proofs.Common.{◌≡◌, None, Option, subst}
use Rattle.std.specs.Bool.{MatchBool}
use Rattle.hg_entry.specs.Entry.{CacheData}
use Rattle.hg_nodes.proofs.Edited.{cache_marks, cache_told}
use Rattle.hg_nodes.proofs.memory.Memory.forget_dir.Goals as goal

pub returns-clause-changed : goal.returns-clause-changed
returns-clause-changed c =
    cache_marks c.args.dir.text.now None _ _ c.self.view_is c.remove.new.self c.remove.ensures c.same_cache-differs.result
    (subst (λ (o : Option CacheData). MatchBool c.same_cache-differs.result (o ≡ None) (o ≡ None → ⊥)) c.get.ensures c.same_cache-differs.ensures)

pub returns-clause-differs : goal.returns-clause-differs
returns-clause-differs c =
    cache_told c.args.dir.text.now None _ _ c.self.view_is c.remove.new.self c.remove.ensures c.same_cache-differs.result
    (subst (λ (o : Option CacheData). MatchBool c.same_cache-differs.result (o ≡ None) (o ≡ None → ⊥)) c.get.ensures c.same_cache-differs.ensures)
