-- What is made is what the log with one change more makes.
use Rattle.std.proofs.Common.{◌≡◌, true, sym, ◌∙◌, ap, subst, List, [], ◌∷◌, ◌++◌, ℕ}
use Rattle.std.specs.BTreeMap.{get_by_text}
use Rattle.std.specs.Result.{is_ok}
use Rattle.hg_tree.specs.declared.asked.Change.{Change}
use Rattle.hg_tree.specs.declared.asked.Own.TheVariants as an_own
use Rattle.hg_tree.specs.Memory.{IsKept, Memory, by_us}
use Rattle.hg_tree.proofs.Shown.{kept_seen, now_shown}
use Rattle.std.proofs.lemmas.Bool.{and_parts}
use Rattle.hg_tree.specs.declared.thing.Thing.{Thing}
use Rattle.hg_tree.specs.Moment.{Things, is_short_thing}
use Rattle.hg_tree.specs.Own.{after_made, is_puttable_at}
use Rattle.hg_tree.proofs.After.{formed_shown, kept_made, kept_still, pushed_is}
use Rattle.hg_tree.proofs.Making.{held_of_rooted}
use Rattle.hg_tree.proofs.memory.MemTree.make_now.Goals as goal

pub make-requires : goal.make-requires
make-requires c =
    held_of_rooted _ (get_by_text c.self.inside.things) (formed_shown c.self.inside.start c.self.inside.changes.items c.self.inside.clock (get_by_text c.self.inside.things) c.self.invariant).rooted

pub invariant_of-self-in_err-make : goal.invariant_of-self-in_err-make
invariant_of-self-in_err-make c =
    kept_still c.self.inside.start c.self.inside.changes.items c.reserve.new.self.items c.self.inside.clock (get_by_text c.self.inside.things) (get_by_text c.make.new.things) c.reserve.ensures.items c.in_err-make.ensures.err
    c.self.invariant

pub invariant_of-self-2 : goal.invariant_of-self-2
invariant_of-self-2 c =
    let log = pushed_is c.self.inside.changes.items c.reserve.new.self.items c.push.new.self.items (is_ok c.push.result) (by_us (an_own.Make c.in_ok-path_copy.path_copy c.in_ok-thing.thing)) c.push.ensures.items (ap is_ok c.unwrap.ensures) c.reserve.ensures.items in
    let here = subst (λ (f : Things). is_puttable_at c.args.kind c.args.exec 0 c.args.bytes.now (f c.args.path.text.now) ≡ true) (now_shown c.args.self.now c.self.inside.clock (get_by_text c.self.inside.things) (kept_seen c.args.self.now c.self.inside.start c.self.inside.changes.items c.self.inside.clock (get_by_text c.self.inside.things) (sym (ap (λ (m : Memory). m.start) c.self.view_is)) (sym (ap (λ (m : Memory). m.changes) c.self.view_is)) c.self.invariant)) c.requires.here in
    let parts = and_parts _ _ here in
    subst (λ (l : List Change). IsKept c.self.inside.start l c.self.inside.clock (get_by_text c.make.new.things))
    (sym (log ∙ ap (λ (p : List ℕ). c.self.inside.changes.items ++ by_us (an_own.Make p c.in_ok-thing.thing) ∷ []) c.in_ok-path_copy.ensures))
    (kept_made c.self.inside.start c.self.inside.changes.items c.self.inside.clock (get_by_text c.self.inside.things) c.self.invariant c.args.path.text.now c.in_ok-thing.thing (get_by_text c.make.new.things) c.args.path.is_path
    (ap is_short_thing c.in_ok-thing.ensures ∙ parts.1) parts.0
    (λ at. c.in_ok-make.ensures.ok at ∙ ap (λ (t : Thing). after_made c.args.path.text.now t c.self.inside.clock (get_by_text c.self.inside.things) at) (c.in_ok-copy.ensures ∙ sym c.in_ok-thing.ensures)))
