use Rattle.hg_append.proofs.LentIn.{few_lent}
use Rattle.hg_append.proofs.laws.few_entries.Goals as goal

pub returns : goal.returns
returns c = λ held over. few_lent held over.counted over.formed
