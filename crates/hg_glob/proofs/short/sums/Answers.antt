use Rattle.std.proofs.Common.{refl, arith}
use Rattle.hg_glob.proofs.Sums.{sums_first, sums_more}
use Rattle.hg_glob.proofs.short.sums.Goals as goal

pub loop-x-init : goal.loop-x-init
loop-x-init c = sums_first c.args.table.now _ 0 refl refl refl

pub loop-x-preserved : goal.loop-x-preserved
loop-x-preserved c = sums_more c.args.table.now c.loop-x.sums c.loop-x.x (omega (arith, c.loop-x-test.true)) c.loop-x.invariant

pub returns : goal.returns
returns c = λ xs each. record { room = c.loop-x.invariant.room; at = λ y few. c.loop-x.invariant.at xs each y (omega (arith, c.loop-x-test.false, few)) }
