use Rattle.hg_store.proofs.ReadingBack.{read_back}
use Rattle.hg_store.proofs.laws.what_is_written_is_read.Goals as goal

pub returns : goal.returns
returns c = read_back
