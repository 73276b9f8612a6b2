use Rattle.hg_words.proofs.Again.{located_keeps}
use Rattle.hg_words.proofs.laws.located_keeps.Goals as goal

pub returns : goal.returns
returns c = located_keeps
