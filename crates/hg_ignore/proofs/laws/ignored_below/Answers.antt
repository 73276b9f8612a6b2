use Rattle.hg_ignore.proofs.Staying.{below_ignored}
use Rattle.hg_ignore.proofs.laws.ignored_below.Goals as goal

pub returns : goal.returns
returns c = below_ignored
