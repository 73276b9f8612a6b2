use Rattle.hg_glob.proofs.Columns.{open_steps}
use Rattle.hg_glob.proofs.column.open.Goals as goal

pub returns-in-Some-clause-step : goal.returns-in-Some-clause-step
returns-in-Some-clause-step c = λ at xs. open_steps xs at c.args.was.now c.args.was.hit c.in-Some.fork _ _ c.in-Some.ensures.1
