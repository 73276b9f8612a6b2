use Rattle.std.proofs.Common.{sym, ◌∙◌, true≢false}
use Rattle.hg_base.proofs.Within.{above_none}
use Rattle.hg_nodes.specs.Node.{node_at}
use Rattle.hg_nodes.proofs.Planted.{all_above}
use Rattle.hg_nodes.proofs.planting.missing_parent.Goals as goal

pub returns-then-has : goal.returns-then-has
returns-then-has c =
    all_above c.args.path.text.now c.in-Some.dir.text.now c.args.path.is_path (sym c.in-Some.ensures.parent) (node_at c.args.nodes.now) c.requires (sym c.has.ensures ∙ c.if-has.true)

pub returns-in-None : goal.returns-in-None
returns-in-None c = λ at above. absurd (true≢false (sym above ∙ above_none c.args.path.text.now c.args.path.is_path (sym c.in-None.ensures.parent) at))
