use Rattle.std.proofs.lemmas.Result.{err_from_is_err_and}
use Rattle.hg_shelf.proofs.Coming.{made_more, stopped}
use Rattle.hg_shelf.proofs.due.make_due.Goals as goal

pub loop-one-preserved : goal.loop-one-preserved
loop-one-preserved c =
    made_more c.args.call c.args.ours c.args.due.now c.loop-one.one-index c.one-item.result c.args.log.now c.loop-one.log c.make_one.new.log c.loop-one-test.true c.one-item.is c.loop-one.invariant c.in_ok-make_one.ensures.ok

pub returns-in_err-make_one-clause-err : goal.returns-in_err-make_one-clause-err
returns-in_err-make_one-clause-err c =
    let p = err_from_is_err_and c.from_residual.result c.from_residual.ensures.1 in
    rw p.1 (stopped c.args.call c.args.ours c.args.due.now c.loop-one.one-index c.one-item.result c.args.log.now c.loop-one.log c.make_one.new.log c.loop-one-test.true c.one-item.is c.loop-one.invariant c.in_err-make_one.ensures.err c.in_err-make_one.ensures.there)
