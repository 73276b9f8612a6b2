use Rattle.hg_ignore.proofs.Asking.{law_of_ignored}
use Rattle.hg_ignore.proofs.laws.ignored_with_directory.Goals as goal

pub returns : goal.returns
returns c = law_of_ignored
