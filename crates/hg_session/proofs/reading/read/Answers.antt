use Rattle.std.proofs.Common.{[], ◌∷◌, Ok, Err}
use Rattle.std.proofs.lemmas.Result.{err_from_is_err_and}
use Rattle.hg_session.proofs.Asking.{asks_load}
use Rattle.hg_session.proofs.Changes.{refused_load}
use Rattle.hg_session.proofs.reading.read.Goals as goal

pub returns-in_err-loaded-clause-found : goal.returns-in_err-loaded-clause-found
returns-in_err-loaded-clause-found g c = λ told.
    let p = err_from_is_err_and c.from_residual.result c.from_residual.ensures.1 in
    let m = c.in_err-loaded.ensures.found told in
    rw (p.1, p.2) (m.0, refused_load (g.S.Shelf.history c.args.shelf.now) (g.S.Shelf.history c.load.new.shelf) (m.0 ∷ []) c.in_err-loaded.field-0.0 m.1)

pub returns-in_err-loaded-clause-asked : goal.returns-in_err-loaded-clause-asked
returns-in_err-loaded-clause-asked g c = λ told. asks_load (g.S.Shelf.history c.args.shelf.now) (g.S.Shelf.history c.load.new.shelf) (Err c.in_err-loaded.field-0.0) (c.in_err-loaded.ensures.asked told)

pub returns-clause-asked : goal.returns-clause-asked
returns-clause-asked g c = λ told. asks_load (g.S.Shelf.history c.args.shelf.now) (g.S.Shelf.history c.load.new.shelf) (Ok c.in_ok-loaded.loaded) (c.in_ok-loaded.ensures.asked told)
