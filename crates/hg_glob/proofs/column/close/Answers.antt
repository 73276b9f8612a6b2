use Rattle.hg_glob.specs.Column.{stack}
use Rattle.hg_glob.proofs.Columns.{close_steps}
use Rattle.hg_glob.proofs.column.close.Goals as goal

pub returns-clause-step : goal.returns-clause-step
returns-clause-step c = λ xs. close_steps xs c.args.was.now c.args.was.hit (stack c.args.was.depth c.args.forks.now) _ c.push.ensures
