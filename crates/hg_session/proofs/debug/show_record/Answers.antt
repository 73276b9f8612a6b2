use Rattle.std.proofs.Common.{Err, Ok, refl, subst}
use Rattle.hg_report.specs.declared.fault.Fault.{Fault}
use Rattle.hg_session.specs.Put.{IsFaultOrMemory}
use Rattle.hg_session.proofs.Looks.{not_without, status_failed}
use Rattle.hg_session.proofs.Records.{stream_print}
use Rattle.hg_session.proofs.debug.show_record.Goals as goal

pub returns-in-Err-clause-shows : goal.returns-in-Err-clause-shows
returns-in-Err-clause-shows g c = record {
  came = Err c.in-Err.fault;
  prints = c.in-Err.ensures.prints;
  tells = (subst (λ (f : Fault). IsFaultOrMemory c.failed.result.fault f) c.from.ensures c.failed.ensures.fault, c.failed.ensures.told);
}

pub returns-in-Ok-clause-shows : goal.returns-in-Ok-clause-shows
returns-in-Ok-clause-shows g c =
    record { came = Ok c.in-Ok.field-0; prints = c.in-Ok.ensures.prints; tells = (refl, record { bytes = refl; count = refl }) }

pub returns-in-Err-clause-calm_shelf : goal.returns-in-Err-clause-calm_shelf
returns-in-Err-clause-calm_shelf g c = λ none. not_without c.failed.result.fault c.from.result c.failed.ensures.fault none

pub returns-in-Err-clause-calm_out : goal.returns-in-Err-clause-calm_out
returns-in-Err-clause-calm_out g c = λ none. not_without c.failed.result.fault c.from.result c.failed.ensures.fault none

pub returns-in-Err-clause-calm_err : goal.returns-in-Err-clause-calm_err
returns-in-Err-clause-calm_err g c = λ none. not_without c.failed.result.fault c.from.result c.failed.ensures.fault none

pub returns-in-Err-clause-status : goal.returns-in-Err-clause-status
returns-in-Err-clause-status g c = status_failed c.failed.result.status c.from.result c.failed.result.fault c.failed.ensures.fault c.failed.ensures.status

pub returns-in-Err-clause-streams : goal.returns-in-Err-clause-streams
returns-in-Err-clause-streams g c =
    stream_print c.in-Err.fault c.failed.result.fault (subst (λ (f : Fault). IsFaultOrMemory c.failed.result.fault f) c.from.ensures c.failed.ensures.fault) c.in-Err.ensures.streams
