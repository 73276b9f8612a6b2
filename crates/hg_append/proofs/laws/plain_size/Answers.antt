use Rattle.hg_append.proofs.OneTree.{plain_size}
use Rattle.hg_append.proofs.laws.plain_size.Goals as goal

pub returns : goal.returns
returns c = plain_size
