use Rattle.hg_words.proofs.Paths.{told_at_root}
use Rattle.hg_words.proofs.laws.path_at_root.Goals as goal

pub returns : goal.returns
returns c = told_at_root
