use Rattle.hg_words.proofs.Again.{spelled_reads}
use Rattle.hg_words.proofs.laws.spelled_reads.Goals as goal

pub returns : goal.returns
returns c = spelled_reads
