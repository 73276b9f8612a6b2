use Rattle.std.proofs.Common.{arith}
use Rattle.hg_glob.proofs.Spelled.{ranges_more, ranges_done}
use Rattle.hg_glob.proofs.spell.push_ranges.Goals as goal

pub loop-low-preserved : goal.loop-low-preserved
loop-low-preserved c = record {
  place = omega (arith, c.in-Some.ensures.cases.1, c.split_at.ensures.back_len);
  parts = ranges_more _ _ _ c.loop-low.place c.in-Some.low.now c.range_end-high.result.0 c.range_end-high.result.1 c.loop-low.left.now c.in-Some.rest.now c.split_at.result.1.now c.loop-low.invariant.parts c.in-Some.ensures.cases.0
      c.in_ok-push.ensures.items c.range_end-high.ensures.0 c.range_end-high.ensures.1 c.split_at.ensures.back;
}

pub returns : goal.returns
returns c = ranges_done _ _ c.loop-low.place c.loop-low.left.now c.loop-low.invariant.parts c.in_default.ensures.cases
