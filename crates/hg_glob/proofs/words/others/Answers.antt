use Rattle.std.proofs.Common.{◌+◌, ap, ◌∙◌, ◌&&◌}
use Rattle.std.specs.Int.Bits.{bit_xor}
use Rattle.hg_glob.specs.Column.{bit}
use Rattle.hg_glob.proofs.Bits.{bit_of_and, bit_of_xor, bit_of_ones, differ}
use Rattle.hg_glob.proofs.words.others.Goals as goal

pub returns-clause-front : goal.returns-clause-front
returns-clause-front c =
    let other = bit_xor 18446744073709551615 c.args.word in
    bit_of_and c.longer.result other 0 ∙ ap (λ v. v && bit other 0) c.longer.ensures.front

pub returns-clause-more : goal.returns-clause-more
returns-clause-more c = λ i below.
    let other = bit_xor 18446744073709551615 c.args.word in
    bit_of_and c.longer.result other (i + 1) ∙ ap (λ v. v && bit other (i + 1)) (c.longer.ensures.more i below)
    ∙ bit_of_xor 18446744073709551615 c.args.word (i + 1) ∙ ap (λ v. differ v (bit c.args.word (i + 1))) (bit_of_ones (i + 1) below)
