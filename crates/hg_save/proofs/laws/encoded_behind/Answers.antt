use Rattle.hg_save.proofs.Encodings.{goes_behind}
use Rattle.hg_save.proofs.laws.encoded_behind.Goals as goal

pub returns : goal.returns
returns c = goes_behind
