use Rattle.hg_glob.proofs.Neighbours.{at_later}
use Rattle.hg_glob.proofs.ordering.shared_at.Goals as goal

pub returns : goal.returns
returns c = at_later c.args.row.now c.args.i c.shared_end.result c.at.result.now c.at-2.result.now c.if-i-eq0.false c.at.ensures.parts c.at-2.ensures.parts c.shared_end.ensures
