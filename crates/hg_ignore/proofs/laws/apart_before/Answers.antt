use Rattle.hg_ignore.proofs.Staying.{apart_before}
use Rattle.hg_ignore.proofs.laws.apart_before.Goals as goal

pub returns : goal.returns
returns c = apart_before
