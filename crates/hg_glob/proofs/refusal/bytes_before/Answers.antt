use Rattle.std.proofs.Common.{arith}
use Rattle.hg_glob.proofs.Faults.{bytes_more}
use Rattle.hg_glob.proofs.refusal.bytes_before.Goals as goal

pub loop-c-preserved : goal.loop-c-preserved
loop-c-preserved c = record {
  bytes = omega (arith, c.loop-c.invariant.bytes, c.len_utf8.ensures.len, bytes_more c.split_at.result.0.now c.loop-c.c-index c.c-item.result c.c-item.result c.loop-c-test.true c.c-item.is);
  most = omega (arith, c.loop-c.invariant.most, c.len_utf8.ensures.upper_bound);
}
