use Rattle.std.proofs.Common.{ap, ◌==◌}
use Rattle.std.proofs.lemmas.Nat.Bits.{shr_and_one}
use Rattle.hg_glob.specs.Column.{bit}
use Rattle.hg_glob.proofs.words.has.Goals as goal

pub returns : goal.returns
unfolding bit
returns c = ap (λ v. v == 1) (shr_and_one c.args.word c.args.at)
