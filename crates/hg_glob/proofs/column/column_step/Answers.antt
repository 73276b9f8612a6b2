use Rattle.hg_glob.specs.Column.{stack}
use Rattle.hg_glob.proofs.Columns.{at_part, literal_steps, one_steps, class_steps, range_steps, star_steps, any_steps}
use Rattle.hg_glob.proofs.column.column_step.Goals as goal

pub returns-in-Literal-clause-step : goal.returns-in-Literal-clause-step
returns-in-Literal-clause-step c = at_part c.in-Literal.is (literal_steps c.args.short.now c.in-Literal.x c.args.was.now c.args.was.hit c.literal.result c.up.result (stack c.args.was.depth c.args.forks.now) c.requires.few c.literal.ensures c.up.ensures)

pub returns-in-One-clause-step : goal.returns-in-One-clause-step
returns-in-One-clause-step c = at_part c.in-One.is (one_steps c.args.short.now c.args.was.now c.args.was.hit c.up-in-One.result (stack c.args.was.depth c.args.forks.now) c.requires.few c.up-in-One.ensures)

pub returns-in-Class-clause-step : goal.returns-in-Class-clause-step
returns-in-Class-clause-step c = at_part c.in-Class.is (class_steps c.args.short.now c.in-Class.negated c.args.was.now c.args.was.hit c.members.result c.up-in-Class.result (stack c.args.was.depth c.args.forks.now) c.requires.few c.members.ensures c.up-in-Class.ensures)

pub returns-in-Range-clause-step : goal.returns-in-Range-clause-step
returns-in-Range-clause-step c = at_part c.in-Range.is (range_steps c.args.short.now _ c.in-Range.low c.in-Range.high c.args.was.now c.args.was.hit c.between.result (stack c.args.was.depth c.args.forks.now) c.requires.few c.between.ensures)

pub returns-in-Star-clause-step : goal.returns-in-Star-clause-step
returns-in-Star-clause-step c = at_part c.in-Star.is (star_steps c.args.short.now c.args.was.now c.args.was.hit c.inside.result c.smear.result (stack c.args.was.depth c.args.forks.now) c.requires.few c.inside.ensures c.smear.ensures)

pub returns-in-Any-clause-step : goal.returns-in-Any-clause-step
returns-in-Any-clause-step c = at_part c.in-Any.is (any_steps c.args.short.now c.args.was.now c.args.was.hit c.longer.result c.smear-in-Any.result (stack c.args.was.depth c.args.forks.now) c.requires.few (record { front = c.longer.ensures.front; more = c.longer.ensures.more }) c.smear-in-Any.ensures)

pub returns-in-Slashes-clause-step : goal.returns-in-Slashes-clause-step
returns-in-Slashes-clause-step c = at_part c.in-Slashes.is (c.slashes.ensures c.args.was.hit (stack c.args.was.depth c.args.forks.now))

pub returns-in-Open-clause-step : goal.returns-in-Open-clause-step
returns-in-Open-clause-step c = at_part c.in-Open.is (c.open.ensures.step _ c.args.short.now)

pub returns-in-Comma-clause-step : goal.returns-in-Comma-clause-step
returns-in-Comma-clause-step c = at_part c.in-Comma.is (c.comma.ensures.step c.args.short.now)

pub returns-in-Close-clause-step : goal.returns-in-Close-clause-step
returns-in-Close-clause-step c = at_part c.in-Close.is (c.close.ensures.step c.args.short.now)
