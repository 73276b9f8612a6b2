use Rattle.std.proofs.Common.{◌+◌, ◌==◌, ◌&&◌, ◌||◌, sym, ap, ◌∙◌, arith}
use Rattle.hg_glob.specs.Column.{bit}
use Rattle.hg_glob.proofs.Bits.{bit_of_set, or_false}
use Rattle.hg_glob.proofs.words.put.Goals as goal

pub returns-then-hit : goal.returns-then-hit
returns-then-hit c = λ i. bit_of_set c.args.word (c.args.at + 1) i (omega arith) ∙ ap (λ v. bit c.args.word i || (v && i == c.args.at + 1)) (sym c.if-hit.true)

pub returns-else-hit : goal.returns-else-hit
returns-else-hit c = λ i. sym (or_false (bit c.args.word i)) ∙ ap (λ v. bit c.args.word i || (v && i == c.args.at + 1)) (sym c.if-hit.false)
