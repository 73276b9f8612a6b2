use Rattle.hg_mixed.proofs.Nearest.{in_image}
use Rattle.hg_mixed.proofs.lent.Lent.find.Goals as goal

pub returns-in-Some : goal.returns-in-Some
returns-in-Some c = in_image c.args.self.now c.args.path.text.now c.in-Some.list c.node_in.result c.in-Some.ensures.0 c.in-Some.ensures.1 c.node_in.ensures.node c.node_in.ensures.below
