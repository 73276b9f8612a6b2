use Rattle.hg_ignore.proofs.Staying.{texts_stay}
use Rattle.hg_ignore.proofs.laws.still_read.Goals as goal

pub returns : goal.returns
returns c = texts_stay
