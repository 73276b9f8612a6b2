-- What stood anywhere stood below directories; what was placed is kept, and what could not be placed left all as it was.
use Rattle.std.proofs.Common.{sym, ◌∙◌, ap, subst, List, [], ◌∷◌, ◌++◌, ℕ}
use Rattle.std.specs.BTreeMap.{get_by_text}
use Rattle.std.specs.Result.{is_ok}
use Rattle.hg_tree.specs.declared.asked.Change.{Change}
use Rattle.hg_tree.specs.declared.asked.Outside.TheVariants as a_change
use Rattle.hg_tree.specs.declared.thing.Thing.{Thing}
use Rattle.hg_tree.specs.Change.{after_place, by_others}
use Rattle.hg_tree.specs.Memory.{IsKept}
use Rattle.hg_tree.proofs.After.{formed_shown, kept_placed, kept_still, pushed_is}
use Rattle.hg_tree.proofs.memory.MemTree.place.Goals as goal

pub settle-requires : goal.settle-requires
settle-requires c =
    (formed_shown c.self.inside.start c.self.inside.changes.items c.self.inside.clock (get_by_text c.self.inside.things) c.self.invariant).rooted

pub invariant_of-self-in_err-settle : goal.invariant_of-self-in_err-settle
invariant_of-self-in_err-settle c =
    kept_still c.self.inside.start c.self.inside.changes.items c.reserve.new.self.items c.self.inside.clock (get_by_text c.self.inside.things) (get_by_text c.settle.new.things) c.reserve.ensures.items c.in_err-settle.ensures.err
    c.self.invariant

pub invariant_of-self-2 : goal.invariant_of-self-2
invariant_of-self-2 c =
    let log = pushed_is c.self.inside.changes.items c.reserve.new.self.items c.push.new.self.items (is_ok c.push.result) (by_others (a_change.Place c.in_ok-path_copy.path_copy c.args.thing c.args.mtime)) c.push.ensures.items (ap is_ok c.unwrap.ensures) c.reserve.ensures.items in
    subst (λ (l : List Change). IsKept c.self.inside.start l c.self.inside.clock (get_by_text c.settle.new.things))
    (sym (log ∙ ap (λ (p : List ℕ). c.self.inside.changes.items ++ by_others (a_change.Place p c.args.thing c.args.mtime) ∷ []) c.in_ok-path_copy.ensures))
    (kept_placed c.self.inside.start c.self.inside.changes.items c.self.inside.clock (get_by_text c.self.inside.things) c.self.invariant c.args.path.text.now c.args.thing c.args.mtime (get_by_text c.settle.new.things) c.args.path.is_path c.requires
    (λ at. c.in_ok-settle.ensures.ok at ∙ ap (λ (t : Thing). after_place c.args.path.text.now t c.args.mtime (get_by_text c.self.inside.things) at) c.in_ok-copy.ensures))
