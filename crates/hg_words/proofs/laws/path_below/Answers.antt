use Rattle.hg_words.proofs.Paths.{told_path}
use Rattle.hg_words.proofs.laws.path_below.Goals as goal

pub returns : goal.returns
returns c = told_path
