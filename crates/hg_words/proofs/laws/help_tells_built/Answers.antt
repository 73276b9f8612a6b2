use Rattle.hg_words.proofs.Again.{help_tells_built}
use Rattle.hg_words.proofs.laws.help_tells_built.Goals as goal

pub returns : goal.returns
returns c = help_tells_built
