use Rattle.std.proofs.Common.{◌∙◌}
use Rattle.std.proofs.lemmas.Result.{err_from_is_err_and}
use Rattle.hg_shelf.proofs.Histories.{passes_trans}
use Rattle.hg_shelf.proofs.Scenes.{goes_trans}
use Rattle.hg_save.proofs.Loads.{loaded, unloaded}
use Rattle.hg_save.proofs.Asking.{read_asks, unread_asks}
use Rattle.hg_save.proofs.loading.load.Goals as goal

pub returns-in_err-n-clause-found : goal.returns-in_err-n-clause-found
returns-in_err-n-clause-found g c = λ told.
    let p = err_from_is_err_and c.from_residual.result c.from_residual.ensures.1 in
    rw p.1 (unloaded (g.S.Shelf.history c.args.shelf.now) (g.S.Shelf.history c.read_docket.new.shelf) p.0 c.read_docket.ensures.passes (p.2 ∙ c.in_err-n.ensures.kind))

pub returns-clause-found : goal.returns-clause-found
returns-clause-found g c = λ told.
    loaded (g.S.Shelf.history c.args.shelf.now) (g.S.Shelf.history c.read_docket.new.shelf) (g.S.Shelf.history c.load_named.new.shelf) c.split_at.result.0.now c.load_named.result
    c.read_docket.ensures.passes c.load_named.ensures.passes (c.split_at.ensures.front ∙ c.in_ok-n.ensures.found told)
    (c.load_named.ensures.found (c.read_docket.ensures.passes.past.told ∙ told))

pub returns-clause-kept : goal.returns-clause-kept
returns-clause-kept g c = goes_trans _ _ _ c.read_docket.ensures.kept c.load_named.ensures.kept

pub returns-in_err-n-clause-asked : goal.returns-in_err-n-clause-asked
returns-in_err-n-clause-asked g c = λ told.
    let p = err_from_is_err_and c.from_residual.result c.from_residual.ensures.1 in
    rw p.1 (unread_asks (g.S.Shelf.history c.args.shelf.now) (g.S.Shelf.history c.read_docket.new.shelf) p.0 c.read_docket.ensures.passes (p.2 ∙ c.in_err-n.ensures.kind) (c.in_err-n.ensures.asked told))

pub returns-clause-asked : goal.returns-clause-asked
returns-clause-asked g c = λ told.
    let later = c.read_docket.ensures.passes.past.told ∙ told in
    read_asks (g.S.Shelf.history c.args.shelf.now) (g.S.Shelf.history c.read_docket.new.shelf) (g.S.Shelf.history c.load_named.new.shelf) c.split_at.result.0.now c.load_named.result
    c.read_docket.ensures.passes c.load_named.ensures.passes (c.in_ok-n.ensures.asked told) (c.split_at.ensures.front ∙ c.in_ok-n.ensures.found told)
    (c.load_named.ensures.asked later) (c.load_named.ensures.found later)

pub returns-clause-passes : goal.returns-clause-passes
returns-clause-passes g c = passes_trans _ _ _ c.read_docket.ensures.passes c.load_named.ensures.passes
