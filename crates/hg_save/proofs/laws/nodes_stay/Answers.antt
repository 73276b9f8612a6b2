use Rattle.hg_save.proofs.Bases.{long_at, nodes_at}
use Rattle.hg_save.proofs.laws.nodes_stay.Goals as goal

pub returns-clause-nodes : goal.returns-clause-nodes
returns-clause-nodes c = nodes_at

pub returns-clause-long : goal.returns-clause-long
returns-clause-long c = long_at
