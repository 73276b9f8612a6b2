-- What was planted, without what was below where it is covered.
use Rattle.std.proofs.Common.{sym, ◌∙◌}
use Rattle.std.specs.BTreeMap.{get_by_text}
use Rattle.hg_tree.proofs.Formed.{settled_clear, settled_keep}
use Rattle.hg_tree.proofs.things.settle.Goals as goal

pub returns-then-covers-clause-ok : goal.returns-then-covers-clause-ok
returns-then-covers-clause-ok c =
    settled_clear c.args.path.text.now c.args.placed.thing c.args.placed.mtime (get_by_text c.args.things.now)
    (sym c.covers-covers.ensures ∙ c.if-covers.true) (get_by_text c.plant.new.things) (get_by_text c.clear_below.new.things) c.in_ok-plant.ensures.ok c.clear_below.ensures

pub returns-clause-ok : goal.returns-clause-ok
returns-clause-ok c =
    settled_keep c.args.path.text.now c.args.placed.thing c.args.placed.mtime (get_by_text c.args.things.now) c.requires
    (sym c.covers-covers.ensures ∙ c.if-covers.false) (get_by_text c.plant.new.things) c.in_ok-plant.ensures.ok
