use Rattle.std.proofs.lemmas.Result.{err_from_is_err_and}
use Rattle.hg_docket.specs.Docket.{docket_of}
use Rattle.hg_image.specs.Reading.{data_reading}
use Rattle.hg_session.specs.Reading.{IsBytesOf}
use Rattle.hg_session.proofs.Asking.{asks_load}
use Rattle.hg_session.proofs.Readings.{cause_still, found_some, read_by, unread}
use Rattle.hg_session.proofs.debug.load_text.Goals as goal

pub returns-in_err-loaded-clause-found : goal.returns-in_err-loaded-clause-found
returns-in_err-loaded-clause-found g c = λ told.
    let p = err_from_is_err_and c.from_residual.result c.from_residual.ensures.1 in
    let m = c.in_err-loaded.ensures.found told in
    rw (p.1, p.2) (m.0, unread IsBytesOf (g.S.Shelf.history c.args.shelf.now) (g.S.Shelf.history c.load.new.shelf) m.0 c.in_err-loaded.field-0.0 m.1)

pub returns-clause-found : goal.returns-clause-found
returns-clause-found g c = λ told.
    let m = c.in_ok-loaded.ensures.found told in
    (m.0, read_by IsBytesOf (g.S.Shelf.history c.args.shelf.now) (g.S.Shelf.history c.load.new.shelf) m.0 c.in_ok-loaded.loaded c.text_in.result c.in_ok-loaded.loaded.whole.sound c.text_in.ensures m.1)

pub returns-clause-cause : goal.returns-clause-cause
returns-clause-cause g c =
    cause_still IsBytesOf (g.S.Shelf.faults c.args.shelf.now) (g.S.Shelf.faults c.load.new.shelf) c.text_in.result (data_reading (docket_of c.in_ok-loaded.loaded.shown.items) c.in_ok-loaded.loaded.nodes.items)
    c.in_ok-loaded.ensures.cause.quiet c.text_in.ensures

pub returns-in_err-loaded-clause-only : goal.returns-in_err-loaded-clause-only
returns-in_err-loaded-clause-only g c = record { passes = c.load.ensures.passes; kept = c.load.ensures.kept; held = c.load.ensures.held }

pub returns-clause-only : goal.returns-clause-only
returns-clause-only g c = record { passes = c.load.ensures.passes; kept = c.load.ensures.kept; held = c.load.ensures.held }

pub returns-in_err-loaded-clause-asked : goal.returns-in_err-loaded-clause-asked
returns-in_err-loaded-clause-asked g c = λ told. asks_load (g.S.Shelf.history c.args.shelf.now) (g.S.Shelf.history c.load.new.shelf) c.load.result (c.load.ensures.asked told)

pub returns-clause-asked : goal.returns-clause-asked
returns-clause-asked g c = λ told. asks_load (g.S.Shelf.history c.args.shelf.now) (g.S.Shelf.history c.load.new.shelf) c.load.result (c.load.ensures.asked told)

pub returns-clause-some : goal.returns-clause-some
returns-clause-some g c = found_some IsBytesOf c.text_in.result (data_reading (docket_of c.in_ok-loaded.loaded.shown.items) c.in_ok-loaded.loaded.nodes.items) c.text_in.ensures
