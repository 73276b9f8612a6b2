use Rattle.std.proofs.Common.{sym, ◌∙◌}
use Rattle.hg_nodes.proofs.Searched.{above_dir, above_found, above_nothing, above_root}
use Rattle.hg_nodes.proofs.clash.+tracked_above.Goals as goal

pub returns-in-None : goal.returns-in-None
returns-in-None t c = above_root c.args.nodes.now c.args.path.text.now c.args.path.is_path (sym c.in-None.ensures.parent)

pub returns-in-Some-tracked_above : goal.returns-in-Some-tracked_above
returns-in-Some-tracked_above t c =
    above_found c.args.nodes.now c.args.path.text.now c.args.path.is_path c.in-Some.dir.text.now (sym c.in-Some.ensures.parent) c.in-Some-tracked_above.found.text.now c.in-Some-tracked_above.ensures

pub returns-then-is_tracked : goal.returns-then-is_tracked
returns-then-is_tracked t c =
    above_dir c.args.nodes.now c.args.path.text.now c.args.path.is_path c.in-Some.dir.text.now (sym c.in-Some.ensures.parent) c.in-None-tracked_above.ensures (sym c.is_tracked.ensures ∙ c.if-is_tracked.true)

pub returns-else-is_tracked : goal.returns-else-is_tracked
returns-else-is_tracked t c =
    above_nothing c.args.nodes.now c.args.path.text.now c.args.path.is_path c.in-Some.dir.text.now (sym c.in-Some.ensures.parent) c.in-None-tracked_above.ensures (sym c.is_tracked.ensures ∙ c.if-is_tracked.false)
