use Rattle.std.proofs.lemmas.Result.{err_from_is_err_and}
use Rattle.hg_tree.proofs.DueTurns.{made_more, stopped}
use Rattle.hg_tree.proofs.memory.MemTree.make_due.Goals as goal

pub loop-index-preserved : goal.loop-index-preserved
loop-index-preserved c = record {
  made = made_more c.args.call c.args.self.now c.loop-index.self c.make_one.new.self c.loop-index.index c.loop-index.invariant.made c.in_ok-make_one.ensures.ok;
  end = c.loop-index.invariant.end;
}

pub returns-in_err-make_one-clause-err : goal.returns-in_err-make_one-clause-err
returns-in_err-make_one-clause-err c =
    let p = err_from_is_err_and c.from_residual.result c.from_residual.ensures.1 in
    rw p.1 (stopped c.args.call c.args.self.now c.loop-index.self c.make_one.new.self c.loop-index.index c.loop-index.invariant.made c.in_err-make_one.ensures.err c.in_err-make_one.ensures.there)
