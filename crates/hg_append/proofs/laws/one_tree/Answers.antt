use Rattle.hg_append.proofs.OneTree.{one_tree}
use Rattle.hg_append.proofs.laws.one_tree.Goals as goal

pub returns : goal.returns
returns c = one_tree
