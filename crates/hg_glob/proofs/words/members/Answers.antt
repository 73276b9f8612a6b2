use Rattle.std.proofs.Common.{cond, not, sym, ap, ◌∙◌}
use Rattle.hg_glob.specs.Column.{bit}
use Rattle.hg_glob.proofs.Bits.{bit_of_xor, bit_of_ones, differ}
use Rattle.hg_glob.proofs.words.members.Goals as goal

pub returns-then-negated : goal.returns-then-negated
returns-then-negated c = λ i below.
    bit_of_xor 18446744073709551615 c.args.word i ∙ ap (λ v. differ v (bit c.args.word i)) (bit_of_ones i below) ∙ ap (λ v. cond v (not (bit c.args.word i)) (bit c.args.word i)) (sym c.if-negated.true)

pub returns-else-negated : goal.returns-else-negated
returns-else-negated c = λ i below. ap (λ v. cond v (not (bit c.args.word i)) (bit c.args.word i)) (sym c.if-negated.false)
