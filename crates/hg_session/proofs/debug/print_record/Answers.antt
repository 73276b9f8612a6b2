use Rattle.std.proofs.Common.{refl, subst, List, ℕ}
use Rattle.std.proofs.lemmas.Result.{err_from_is_err_and}
use Rattle.hg_stream.specs.Stream.{Grown, GrownByFront}
use Rattle.hg_shelf.proofs.Histories.{passes_same}
use Rattle.hg_session.specs.Reading.{IsBytesOf}
use Rattle.hg_session.proofs.Readings.{loaded_as, met_reading}
use Rattle.hg_session.proofs.debug.print_record.Goals as goal

pub returns-in_err-text-clause-prints : goal.returns-in_err-text-clause-prints
returns-in_err-text-clause-prints g c =
    let p = err_from_is_err_and c.from_residual.result c.from_residual.ensures.1 in
    rw (p.1, p.2) (
      met_reading IsBytesOf _ c.in_err-text.field-0.0 c.in_err-text.ensures.found c.in_err-text.ensures.cause.rose,
      record { bytes = refl; count = refl },
    )

pub returns-in-Err-clause-prints : goal.returns-in-Err-clause-prints
returns-in-Err-clause-prints g c =
    let history = g.S.Shelf.history c.load_text.new.shelf in
    let l = loaded_as IsBytesOf
    (record { old = g.S.Shelf.history c.args.shelf.now; new = history; before = g.S.Shelf.faults c.args.shelf.now; after = g.S.Shelf.faults c.load_text.new.shelf })
    history c.in_ok-text.text (passes_same history).past c.in_ok-text.ensures.found c.in_ok-text.ensures.some in
    record {
      text = c.in_ok-text.text.items;
      is = record { table = l.0; read = l.1; is = l.2 };
      put = subst (λ (t : List ℕ). GrownByFront (g.O.Sink.bytes c.args.out.now) (g.O.Sink.bytes c.put_all.new.out) t) c.as_slice.ensures.value c.in-Err.ensures.prefix;
      failed = c.in-Err.ensures.cause.rose tt;
    }

pub returns-clause-prints : goal.returns-clause-prints
returns-clause-prints g c =
    let history = g.S.Shelf.history c.load_text.new.shelf in
    let l = loaded_as IsBytesOf
    (record { old = g.S.Shelf.history c.args.shelf.now; new = history; before = g.S.Shelf.faults c.args.shelf.now; after = g.S.Shelf.faults c.load_text.new.shelf })
    history c.in_ok-text.text (passes_same history).past c.in_ok-text.ensures.found c.in_ok-text.ensures.some in
    record {
      text = c.in_ok-text.text.items;
      is = record { table = l.0; read = l.1; is = l.2 };
      put = subst (λ (t : List ℕ). Grown (g.O.Sink.bytes c.args.out.now) (g.O.Sink.bytes c.put_all.new.out) t) c.as_slice.ensures.value c.in-Ok.ensures.all;
      calm = c.in-Ok.ensures.cause.quiet;
    }
