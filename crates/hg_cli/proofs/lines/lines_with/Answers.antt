use Rattle.std.proofs.Common.{◌≤◌, refl, arith}
use Rattle.hg_cli.proofs.Counting.{all_counted, one_at_most, step}
use Rattle.hg_cli.proofs.lines.lines_with.Goals as goal

pub loop-b-preserved : goal.loop-b-preserved
loop-b-preserved c =
    let one : c.begun-lines.result ≤ 1 = one_at_most _ c.begun-lines.result c.begun-lines.ensures in
    record {
      sum = step c.args.letter c.loop-b.begins c.args.text.now c.loop-b.b-index _ c.loop-b.lines c.begun-lines.result c.loop-b-test.true refl c.loop-b.invariant.sum c.begun-lines.ensures;
      few = omega (arith, one, c.loop-b.invariant.few);
    }

pub returns : goal.returns
returns c = all_counted c.args.letter c.loop-b.begins c.args.text.now c.loop-b.b-index c.loop-b.lines c.requires c.loop-b-test.false c.loop-b.invariant.sum
