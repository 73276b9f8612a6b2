-- What stood at the path goes, and what stood below it where that was a directory: nothing stands below anything else.
use Rattle.std.proofs.Common.{◌∙◌, sym}
use Rattle.std.specs.BTreeMap.{get_by_text}
use Rattle.std.proofs.lemmas.Map.Text.{btree_map_updates_text}
use Rattle.hg_tree.proofs.Formed.{taken_clear, taken_keep}
use Rattle.hg_tree.proofs.things.remove.Goals as goal

pub returns-then-was_dir : goal.returns-then-was_dir
returns-then-was_dir c =
    taken_clear c.args.path.now (get_by_text c.args.things.now) (get_by_text c.remove.new.self) _
    (sym c.is_dir-was_dir.ensures ∙ c.if-was_dir.true)
    (λ at. btree_map_updates_text c.args.path.now c.args.things.now c.remove.new.self _ c.remove.ensures.updates at)
    c.clear_below.ensures

pub returns : goal.returns
returns c =
    taken_keep c.args.path.now (get_by_text c.args.things.now) c.requires (get_by_text c.remove.new.self)
    (sym c.is_dir-was_dir.ensures ∙ c.if-was_dir.false)
    (λ at. btree_map_updates_text c.args.path.now c.args.things.now c.remove.new.self _ c.remove.ensures.updates at)
