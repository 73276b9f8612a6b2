-- The directory that gains a name, with it and the path, are what is made.
use Rattle.std.proofs.Common.{arith, sym, ◌∙◌, ap}
use Rattle.std.specs.Prelude.{is_some}
use Rattle.std.specs.BTreeMap.{get_by_text}
use Rattle.hg_base.proofs.Paths.{path_base_plain}
use Rattle.hg_tree.proofs.Planting.{parent_shorter}
use Rattle.hg_tree.proofs.Parents.{parent_joined, no_parent}
use Rattle.hg_tree.proofs.Making.{made_again, made_alone, made_more, held_parent}
use Rattle.hg_tree.proofs.own.+make.Goals as goal

pub returns-then-is_some-clause-ok : goal.returns-then-is_some-clause-ok
returns-then-is_some-clause-ok t c =
    made_again c.args.path.text.now c.args.placed (get_by_text c.args.things.now) (get_by_text c.put.new.things) c.in_ok-was.ensures.put c.requires
    (sym (ap is_some c.in_ok-was.ensures.was) ∙ sym c.is_some.ensures ∙ c.if-is_some.true)

pub returns-in_default-clause-ok : goal.returns-in_default-clause-ok
returns-in_default-clause-ok t c =
    made_alone c.args.path.text.now c.args.placed (get_by_text c.args.things.now) (get_by_text c.put.new.things) c.in_ok-was.ensures.put
    (no_parent _ c.args.path.is_path c.in_default.ensures.joined)

pub make-requires : goal.make-requires
make-requires t c =
    let parent = parent_joined _ _ c.args.path.is_path c.in-Some.ensures.joined in
    let shorter = parent_shorter c.in-Some.dir.text.now c.args.path.text.now parent in (
      omega (arith, c.decreases, shorter),
      held_parent c.args.path.text.now c.args.placed (get_by_text c.args.things.now) (get_by_text c.put.new.things) c.in_ok-was.ensures.put
          c.in-Some.dir.text.now _ c.in-Some.ensures.joined (path_base_plain c.args.path.text.now c.args.path.is_path) parent c.requires,
    )

pub returns-in-Ok-clause-ok : goal.returns-in-Ok-clause-ok
returns-in-Ok-clause-ok t c =
    made_more c.args.path.text.now c.args.placed (get_by_text c.args.things.now) (get_by_text c.put.new.things) c.in_ok-was.ensures.put
    c.in-Some.dir.text.now _ c.in-Some.ensures.joined (path_base_plain c.args.path.text.now c.args.path.is_path) (parent_joined _ _ c.args.path.is_path c.in-Some.ensures.joined)
    (sym (ap is_some c.in_ok-was.ensures.was) ∙ sym c.is_some.ensures ∙ c.if-is_some.false) (get_by_text c.make.new.things) c.in-Ok.ensures.ok
