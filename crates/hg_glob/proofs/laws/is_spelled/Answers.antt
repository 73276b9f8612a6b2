use Rattle.hg_glob.proofs.Spellable.{is_spelled}
use Rattle.hg_glob.proofs.laws.is_spelled.Goals as goal

pub returns : goal.returns
returns c = is_spelled
