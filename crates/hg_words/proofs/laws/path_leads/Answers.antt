use Rattle.hg_words.proofs.Paths.{path_leads}
use Rattle.hg_words.proofs.laws.path_leads.Goals as goal

pub returns : goal.returns
returns c = path_leads
