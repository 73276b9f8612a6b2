use Rattle.std.proofs.Common.{◌-◌, ◌+◌, ◌≡◌, sym, ap, ◌∙◌, arith}
use Rattle.hg_glob.specs.Column.{stack}
use Rattle.hg_glob.proofs.Columns.{comma_steps}
use Rattle.hg_glob.proofs.column.comma.Goals as goal

pub returns-in-Some-clause-step : goal.returns-in-Some-clause-step
returns-in-Some-clause-step c =
    let at : c.args.was.depth - 1 + 1 ≡ c.args.was.depth = omega (arith, c.in-Some.ensures.0) in
    λ xs. comma_steps xs c.args.was.now c.args.was.hit c.in-Some.fork (stack (c.args.was.depth - 1) c.args.forks.now) _ _ c.in-Some.ensures.1 (ap (λ n. stack n c.push.new.forks) (sym at) ∙ c.push.ensures)
