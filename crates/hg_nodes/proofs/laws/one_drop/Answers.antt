use Rattle.hg_nodes.proofs.Dropped.{pruned_one}
use Rattle.hg_nodes.proofs.laws.one_drop.Goals as goal

pub returns : goal.returns
returns c = pruned_one
