use Rattle.hg_glob.proofs.Spellable.{one_glob}
use Rattle.hg_glob.proofs.laws.one_glob.Goals as goal

pub returns : goal.returns
returns c = one_glob
