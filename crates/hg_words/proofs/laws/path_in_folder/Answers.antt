use Rattle.hg_words.proofs.Paths.{told_in_folder}
use Rattle.hg_words.proofs.laws.path_in_folder.Goals as goal

pub returns : goal.returns
returns c = told_in_folder
