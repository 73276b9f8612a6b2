-- What is left is what the log with one change more makes.
use Rattle.std.proofs.Common.{◌≡◌, true, sym, ◌∙◌, ap, subst, List, [], ◌∷◌, ◌++◌, ℕ}
use Rattle.std.specs.BTreeMap.{get_by_text}
use Rattle.std.specs.Result.{is_ok}
use Rattle.hg_tree.specs.declared.asked.Change.{Change}
use Rattle.hg_tree.specs.declared.asked.Own.TheVariants as an_own
use Rattle.hg_tree.specs.Memory.{IsKept, Memory, by_us}
use Rattle.hg_tree.proofs.Shown.{kept_seen, now_shown}
use Rattle.std.specs.Prelude.{is_some}
use Rattle.std.specs.Option.{option_and_then}
use Rattle.hg_tree.specs.Moment.{Things, bytes_of}
use Rattle.hg_tree.proofs.After.{kept_unlinked, pushed_is}
use Rattle.hg_tree.proofs.memory.MemTree.unlink_now.Goals as goal

pub invariant_of-self-2 : goal.invariant_of-self-2
invariant_of-self-2 c =
    let log = pushed_is c.self.inside.changes.items c.reserve.new.self.items c.push.new.self.items (is_ok c.push.result) (by_us (an_own.Unlink c.in_ok-path_copy.path_copy)) c.push.ensures.items (ap is_ok c.unwrap.ensures) c.reserve.ensures.items in
    let here = subst (λ (f : Things). is_some (option_and_then (λ placed. bytes_of placed.thing) (f c.args.path.text.now)) ≡ true) (now_shown c.args.self.now c.self.inside.clock (get_by_text c.self.inside.things) (kept_seen c.args.self.now c.self.inside.start c.self.inside.changes.items c.self.inside.clock (get_by_text c.self.inside.things) (sym (ap (λ (m : Memory). m.start) c.self.view_is)) (sym (ap (λ (m : Memory). m.changes) c.self.view_is)) c.self.invariant)) c.requires in
    subst (λ (l : List Change). IsKept c.self.inside.start l c.self.inside.clock (get_by_text c.unlink.new.things))
    (sym (log ∙ ap (λ (p : List ℕ). c.self.inside.changes.items ++ by_us (an_own.Unlink p) ∷ []) c.in_ok-path_copy.ensures))
    (kept_unlinked c.self.inside.start c.self.inside.changes.items c.self.inside.clock (get_by_text c.self.inside.things) c.self.invariant c.args.path.text.now (get_by_text c.unlink.new.things) c.args.path.is_path here c.unlink.ensures)
