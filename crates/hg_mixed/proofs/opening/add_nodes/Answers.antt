use Rattle.std.proofs.Common.{refl, arith}
use Rattle.hg_image.specs.View.{IsMember}
use Rattle.hg_mixed.proofs.Adding.{adds_some, adds_step, on_err_of, others_on}
use Rattle.hg_mixed.proofs.opening.add_nodes.Goals as goal

pub returns-in_err-add_own-clause-err : goal.returns-in_err-add_own-clause-err
returns-in_err-add_own-clause-err c =
    let member : IsMember c.args.list c.get.result = record {
      place = c.loop-i.i;
      inside = omega (arith, c.loop-i-test.true, c.len-i-end.ensures.count, c.loop-i.auto.i-end);
      rec = c.get.ensures.record;
      bytes = c.get.ensures.bytes;
      levels = c.get.ensures.levels;
    } in
    on_err_of c.from_residual.result _
    (adds_some c.args.list c.loop-i.i c.get.result member refl c.args.memory.now.rows c.args.memory.now.times c.loop-i.memory.rows c.loop-i.memory.times c.loop-i.invariant.nodes c.add_own.new.memory.rows c.add_own.new.memory.times c.in_err-add_own.ensures.err)

pub loop-i-preserved : goal.loop-i-preserved
loop-i-preserved c =
    let member : IsMember c.args.list c.get.result = record {
      place = c.loop-i.i;
      inside = omega (arith, c.loop-i-test.true, c.len-i-end.ensures.count, c.loop-i.auto.i-end);
      rec = c.get.ensures.record;
      bytes = c.get.ensures.bytes;
      levels = c.get.ensures.levels;
    } in
    record { others = others_on _ _ _ c.loop-i.invariant.others c.add_own.ensures.others; nodes = adds_step c.args.list c.loop-i.i c.get.result member refl c.args.memory.now.rows c.args.memory.now.times c.loop-i.memory.rows c.loop-i.memory.times c.loop-i.invariant.nodes c.add_own.new.memory.rows c.add_own.new.memory.times c.in_ok-add_own.ensures.ok }

pub returns-in_err-add_own-clause-others : goal.returns-in_err-add_own-clause-others
returns-in_err-add_own-clause-others c = others_on _ _ _ c.loop-i.invariant.others c.add_own.ensures.others
