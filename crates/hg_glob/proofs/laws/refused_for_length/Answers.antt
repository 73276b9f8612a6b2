use Rattle.hg_glob.proofs.Spellable.{refused_for_length}
use Rattle.hg_glob.proofs.laws.refused_for_length.Goals as goal

pub returns : goal.returns
returns c = refused_for_length
