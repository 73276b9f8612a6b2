use Rattle.std.proofs.Common.{refl}
use Rattle.hg_words.proofs.laws.help_names_all.Goals as goal

pub returns : goal.returns
returns c = refl
