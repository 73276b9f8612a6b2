-- What stands there is left, and the log has one change more.
use Rattle.std.proofs.Common.{sym, subst, List}
use Rattle.std.specs.BTreeMap.{get_by_text}
use Rattle.std.specs.Result.{is_ok}
use Rattle.std.proofs.Common.{ap}
use Rattle.hg_tree.specs.declared.asked.Change.{Change}
use Rattle.hg_tree.specs.declared.asked.Outside.TheVariants as a_change
use Rattle.hg_tree.specs.Change.{by_others}
use Rattle.hg_tree.specs.Memory.{IsKept}
use Rattle.hg_tree.proofs.After.{kept_clocked, pushed_is}
use Rattle.hg_tree.proofs.memory.MemTree.set_clock.Goals as goal

pub invariant_of-self-2 : goal.invariant_of-self-2
invariant_of-self-2 c =
    let log = pushed_is c.self.inside.changes.items c.reserve.new.self.items c.push.new.self.items (is_ok c.push.result) (by_others (a_change.Clock c.args.clock)) c.push.ensures.items (ap is_ok c.unwrap.ensures) c.reserve.ensures.items in
    subst (λ (l : List Change). IsKept c.self.inside.start l c.args.clock (get_by_text c.self.inside.things)) (sym log)
    (kept_clocked c.self.inside.start c.self.inside.changes.items c.self.inside.clock (get_by_text c.self.inside.things) c.self.invariant c.args.clock)
