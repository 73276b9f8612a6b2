use Rattle.hg_glob.proofs.Bits.{bit_of_longer, bit_of_longer_front}
use Rattle.hg_glob.proofs.words.longer.Goals as goal

pub returns-clause-more : goal.returns-clause-more
returns-clause-more c = λ i below. bit_of_longer i below

pub returns-clause-front : goal.returns-clause-front
returns-clause-front c = bit_of_longer_front
