use Rattle.hg_words.proofs.Again.{located_without_files}
use Rattle.hg_words.proofs.laws.located_without_files.Goals as goal

pub returns : goal.returns
returns c = located_without_files
