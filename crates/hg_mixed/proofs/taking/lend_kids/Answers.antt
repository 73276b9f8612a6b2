use Rattle.std.proofs.Common.{refl, arith}
use Rattle.hg_image.specs.View.{IsMember}
use Rattle.hg_mixed.proofs.Freed.{lends_step, served_step}
use Rattle.hg_mixed.proofs.taking.lend_kids.Goals as goal

pub returns-in_err-lend_kid-clause-lends : goal.returns-in_err-lend_kid-clause-lends
returns-in_err-lend_kid-clause-lends c =
    let member : IsMember c.args.list c.get.result = record {
      place = c.loop-i.i;
      inside = omega (arith, c.loop-i-test.true, c.len-i-end.ensures.count, c.loop-i.auto.i-end);
      rec = c.get.ensures.record;
      bytes = c.get.ensures.bytes;
      levels = c.get.ensures.levels;
    } in
    lends_step c.args.list c.loop-i.i c.get.result member refl c.loop-i.left c.lend_kid.new.left c.lend_kid.ensures.lends c.args.left.now c.loop-i.invariant.0

pub loop-i-preserved : goal.loop-i-preserved
loop-i-preserved c =
    let member : IsMember c.args.list c.get.result = record {
      place = c.loop-i.i;
      inside = omega (arith, c.loop-i-test.true, c.len-i-end.ensures.count, c.loop-i.auto.i-end);
      rec = c.get.ensures.record;
      bytes = c.get.ensures.bytes;
      levels = c.get.ensures.levels;
    } in (
      lends_step c.args.list c.loop-i.i c.get.result member refl c.loop-i.left c.lend_kid.new.left c.lend_kid.ensures.lends c.args.left.now c.loop-i.invariant.0,
      served_step c.args.list c.loop-i.i c.get.result member refl c.loop-i.left c.lend_kid.new.left c.lend_kid.ensures.lends c.loop-i.invariant.1 c.in_ok-lend_kid.ensures.served,
    )
