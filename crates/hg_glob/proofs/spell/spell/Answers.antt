use Rattle.std.proofs.Common.{arith, ap, length}
use Rattle.hg_glob.proofs.Bounds.{parts_few}
use Rattle.hg_glob.proofs.Spelled.{parts_more, parts_done}
use Rattle.hg_glob.proofs.spell.spell.Goals as goal

pub loop-c-preserved : goal.loop-c-preserved
loop-c-preserved c = record {
  place = omega (arith, c.in-Some.ensures.cases.1, c.split_at.ensures.back_len);
  depth = omega (arith, c.depth_after-depth.ensures.most);
  parts = parts_more _ _ _ c.loop-c.depth c.depth_after-depth.result c.loop-c.at c.in-Some.c.now c.in_ok-more.more c.loop-c.left.now c.in-Some.rest.now c.split_at.result.1.now c.loop-c.invariant.parts c.in-Some.ensures.cases.0
      c.in_ok-more.ensures.1 c.depth_after-depth.ensures.after c.in_ok-more.ensures.0 c.split_at.ensures.back;
}

pub returns : goal.returns
returns c =
    let all = parts_done _ _ c.loop-c.depth c.loop-c.at c.loop-c.left.now c.loop-c.invariant.parts c.in_default.ensures.cases in
    record { parts = all; few = omega (arith, ap length all, parts_few 0 0 0 c.args.text.now) }
