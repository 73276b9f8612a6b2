use Rattle.hg_race.proofs.Lasting.{always_safe, goes_on, loads_what_stood, none_is_lost, rows_stay}
use Rattle.hg_race.proofs.laws.machine_is_safe.Goals as goal

pub returns-clause-safe : goal.returns-clause-safe
returns-clause-safe c = always_safe

pub returns-clause-none_is_lost : goal.returns-clause-none_is_lost
returns-clause-none_is_lost c = none_is_lost

pub returns-clause-rows_stay : goal.returns-clause-rows_stay
returns-clause-rows_stay c = rows_stay

pub returns-clause-loads : goal.returns-clause-loads
returns-clause-loads c = loads_what_stood

pub returns-clause-goes_on : goal.returns-clause-goes_on
returns-clause-goes_on c = goes_on
