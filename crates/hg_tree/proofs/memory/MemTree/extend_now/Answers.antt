-- What is made is what the log with one change more makes.
use Rattle.std.proofs.Common.{sym, ◌∙◌, ap, subst, List, [], ◌∷◌, ◌++◌, ℕ}
use Rattle.std.specs.BTreeMap.{get_by_text}
use Rattle.std.specs.Result.{is_ok}
use Rattle.hg_tree.specs.declared.asked.Change.{Change}
use Rattle.hg_tree.specs.declared.asked.Own.TheVariants as an_own
use Rattle.hg_tree.specs.Memory.{IsKept, by_us}
use Rattle.hg_tree.proofs.After.{kept_extended, kept_still, pushed_is}
use Rattle.hg_tree.proofs.memory.MemTree.extend_now.Goals as goal

pub invariant_of-self-in_err-extend : goal.invariant_of-self-in_err-extend
invariant_of-self-in_err-extend c =
    kept_still c.self.inside.start c.self.inside.changes.items c.reserve.new.self.items c.self.inside.clock (get_by_text c.self.inside.things) (get_by_text c.extend.new.things) c.reserve.ensures.items c.in_err-extend.ensures.err
    c.self.invariant

pub invariant_of-self-2 : goal.invariant_of-self-2
invariant_of-self-2 c =
    let log = pushed_is c.self.inside.changes.items c.reserve.new.self.items c.push.new.self.items (is_ok c.push.result) (by_us (an_own.Extend c.in_ok-path_copy.path_copy c.in_ok-copy.copy)) c.push.ensures.items (ap is_ok c.unwrap.ensures) c.reserve.ensures.items in
    subst (λ (l : List Change). IsKept c.self.inside.start l c.self.inside.clock (get_by_text c.extend.new.things))
    (sym (log
    ∙ ap (λ (p : List ℕ). c.self.inside.changes.items ++ by_us (an_own.Extend p c.in_ok-copy.copy) ∷ []) c.in_ok-path_copy.ensures
    ∙ ap (λ (b : List ℕ). c.self.inside.changes.items ++ by_us (an_own.Extend c.args.path.text.now b) ∷ []) c.in_ok-copy.ensures))
    (kept_extended c.self.inside.start c.self.inside.changes.items c.self.inside.clock (get_by_text c.self.inside.things) c.self.invariant c.args.path.text.now c.args.more.now (get_by_text c.extend.new.things) c.in_ok-extend.ensures.ok)
