use Rattle.std.proofs.Common.{refl, sym, ap, ◌∙◌}
use Rattle.std.proofs.lemmas.Result.{err_from_is_err_and}
use Rattle.hg_docket.specs.Docket.{Contents}
use Rattle.hg_docket.specs.Number.{next_name}
use Rattle.hg_append.proofs.Written.{fit, soundly, too_large}
use Rattle.hg_append.proofs.Steps.{few_anew}
use Rattle.hg_append.proofs.rewriting.write.Goals as goal

pub put_list-requires-clause-few : goal.put_list-requires-clause-few
put_list-requires-clause-few c = few_anew c.args.mixed.now

pub returns-in_err-used-clause-cause : goal.returns-in_err-used-clause-cause
returns-in_err-used-clause-cause c =
    let p = err_from_is_err_and c.from_residual-in_err-used.result c.from_residual-in_err-used.ensures.1 in
    let cause = too_large c.args.mixed.now c.in_ok-put.put _ _ _ _ c.in_ok-put.ensures c.in_err-used.ensures.err.1 c.in-Some.id
    (sym (ap (λ (d : Contents). next_name d.id) c.image.ensures.docket) ∙ sym c.in-Some.ensures.next) in
    rw (p.1, p.2) (cause _ c.in_err-used.ensures.err.0)

pub docket_bytes-requires-clause-fit : goal.docket_bytes-requires-clause-fit
docket_bytes-requires-clause-fit c = fit c.args.mixed.now c.in_ok-put.put _ _ _ _ c.in_ok-put.ensures c.in_ok-used.ensures.ok.1

pub returns-clause-written : goal.returns-clause-written
returns-clause-written c =
    soundly c.args.mixed.now c.in_ok-put.put _ _ _ _ c.in_ok-put.ensures _ c.in_ok-used.used refl refl c.in_ok-bytes.ensures
    (sym (ap (λ (d : Contents). next_name d.id) c.image.ensures.docket) ∙ sym c.in-Some.ensures.next)
    c.in_ok-used.ensures.ok.0 c.in_ok-used.ensures.ok.1 c.in_ok-docket.ensures.bytes c.in_ok-docket.ensures.back
