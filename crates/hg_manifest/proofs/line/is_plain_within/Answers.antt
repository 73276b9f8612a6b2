use Rattle.std.proofs.Common.{arith}
use Rattle.hg_manifest.proofs.Plain.{window_more}
use Rattle.hg_manifest.proofs.line.is_plain_within.Goals as goal

pub loop-b-preserved : goal.loop-b-preserved
loop-b-preserved c = record {
  counted = omega (arith, c.loop-b.invariant.counted);
  so_far = window_more c.args.window.now c.args.len c.loop-b.b-index c.loop-b.at c.loop-b.plain c.loop-b.begins c.is_plain_byte.result c.loop-b-test.true c.loop-b.invariant.counted c.is_plain_byte.ensures c.loop-b.invariant.so_far;
}
