use Rattle.hg_save.proofs.Encodings.{goes_over}
use Rattle.hg_save.proofs.laws.encoded_over.Goals as goal

pub returns : goal.returns
returns c = goes_over
