use Rattle.std.proofs.Common.{◌-◌, arith, ◌∙◌}
use Rattle.std.proofs.lemmas.List.{length-set}
use Rattle.hg_docket.specs.Number.{hex_text}
use Rattle.hg_docket.proofs.Hex.{text_step, text_done, text_digits, names_of_digits, text_number}
use Rattle.hg_docket.proofs.number.hex_text.Goals as goal

pub loop-at-preserved : goal.loop-at-preserved
loop-at-preserved c =
    record {
      below = omega arith;
      len = length-set c.loop-at.digits (c.loop-at.at - 1) c.digit_of.result ∙ c.loop-at.invariant.len;
      whole = rw c.digit_of.ensures (text_step (hex_text 16 c.args.n) c.loop-at.digits c.loop-at.at (c.loop-at.at - 1) c.loop-at.rest (omega arith) (omega arith) c.loop-at.invariant.whole);
    }

pub returns-clause-digits : goal.returns-clause-digits
returns-clause-digits c = text_done (hex_text 16 c.args.n) c.loop-at.digits c.loop-at.at c.loop-at.rest c.loop-at-test.false c.loop-at.invariant.whole

pub returns-clause-names : goal.returns-clause-names
returns-clause-names c =
    let same = text_done (hex_text 16 c.args.n) c.loop-at.digits c.loop-at.at c.loop-at.rest c.loop-at-test.false c.loop-at.invariant.whole in
    rw same (names_of_digits (hex_text 16 c.args.n) (text_digits 16 c.args.n))

pub returns-clause-number : goal.returns-clause-number
returns-clause-number c =
    let same = text_done (hex_text 16 c.args.n) c.loop-at.digits c.loop-at.at c.loop-at.rest c.loop-at-test.false c.loop-at.invariant.whole in
    rw same (text_number c.args.n (omega arith))
