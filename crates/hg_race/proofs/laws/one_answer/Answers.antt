use Rattle.hg_race.proofs.Alike.{one_schedule}
use Rattle.hg_race.proofs.Refusing.{one_refusal}
use Rattle.hg_race.proofs.laws.one_answer.Goals as goal

pub returns-clause-schedule : goal.returns-clause-schedule
returns-clause-schedule c = one_schedule

pub returns-clause-refusal : goal.returns-clause-refusal
returns-clause-refusal c = one_refusal
