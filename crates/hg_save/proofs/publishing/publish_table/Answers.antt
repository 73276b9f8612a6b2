use Rattle.std.proofs.Common.{◌∙◌, inl, refl}
use Rattle.std.proofs.lemmas.Result.{err_from_is_err_and}
use Rattle.hg_shelf.specs.Images.{course}
use Rattle.hg_save.proofs.Tables.{can_encode, lists_behind, made_by, put_over, recorded_over}
use Rattle.hg_save.proofs.publishing.publish_table.Goals as goal

pub publish-requires-clause-over : goal.publish-requires-clause-over
publish-requires-clause-over g c = (made_by c.args.table.now c.args.loaded.now c.in_ok-new.new c.plan.result c.plan.ensures c.requires.docket c.requires.nodes c.over.ensures.image c.in_ok-new.ensures.written c.in_ok-new.ensures.appended c.in_ok-new.ensures.reads).over

pub returns-in_err-publish-clause-safe : goal.returns-in_err-publish-clause-safe
returns-in_err-publish-clause-safe g c = λ calm.
    let p = err_from_is_err_and c.from_residual-in_err-publish.result c.from_residual-in_err-publish.ensures.1 in
    rw (p.1, p.2)
    (put_over c.args.table.now c.args.loaded.now c.in_ok-new.new c.in_ok-new.ensures.reads.found
    (made_by c.args.table.now c.args.loaded.now c.in_ok-new.new c.plan.result c.plan.ensures c.requires.docket c.requires.nodes c.over.ensures.image c.in_ok-new.ensures.written c.in_ok-new.ensures.appended c.in_ok-new.ensures.reads)
    (course (g.S.Shelf.history c.args.shelf.now) (g.S.Shelf.images c.args.shelf.now)) (course (g.S.Shelf.history c.publish.new.shelf) (g.S.Shelf.images c.publish.new.shelf)) (c.in_err-publish.ensures.safe calm))

pub returns-in_err-publish-clause-untouched : goal.returns-in_err-publish-clause-untouched
returns-in_err-publish-clause-untouched g c =
    let p = err_from_is_err_and c.from_residual-in_err-publish.result c.from_residual-in_err-publish.ensures.1 in
    rw (p.1, p.2) (inl refl)

pub returns-in_err-publish-clause-cause : goal.returns-in_err-publish-clause-cause
returns-in_err-publish-clause-cause g c =
    let p = err_from_is_err_and c.from_residual-in_err-publish.result c.from_residual-in_err-publish.ensures.1 in
    rw (p.1, p.2) (c.in_err-publish.ensures.cause.rose tt)

pub returns-clause-safe : goal.returns-clause-safe
returns-clause-safe g c = λ calm.
    put_over c.args.table.now c.args.loaded.now c.in_ok-new.new c.in_ok-new.ensures.reads.found
    (made_by c.args.table.now c.args.loaded.now c.in_ok-new.new c.plan.result c.plan.ensures c.requires.docket c.requires.nodes c.over.ensures.image c.in_ok-new.ensures.written c.in_ok-new.ensures.appended c.in_ok-new.ensures.reads)
    (course (g.S.Shelf.history c.args.shelf.now) (g.S.Shelf.images c.args.shelf.now)) (course (g.S.Shelf.history c.publish.new.shelf) (g.S.Shelf.images c.publish.new.shelf)) (c.in_ok-publish.ensures.safe calm)

pub returns-clause-recorded : goal.returns-clause-recorded
returns-clause-recorded g c = λ calm has.
    recorded_over c.args.table.now c.args.loaded.now c.in_ok-new.new c.in_ok-new.ensures.reads.found
    (made_by c.args.table.now c.args.loaded.now c.in_ok-new.new c.plan.result c.plan.ensures c.requires.docket c.requires.nodes c.over.ensures.image c.in_ok-new.ensures.written c.in_ok-new.ensures.appended c.in_ok-new.ensures.reads)
    (course (g.S.Shelf.history c.args.shelf.now) (g.S.Shelf.images c.args.shelf.now)) (course (g.S.Shelf.history c.publish.new.shelf) (g.S.Shelf.images c.publish.new.shelf)) has
    (c.in_ok-publish.ensures.sure calm) (c.in_ok-publish.ensures.exact calm) (c.in_ok-publish.ensures.gone calm)

pub returns-clause-kept_lists : goal.returns-clause-kept_lists
returns-clause-kept_lists g c = λ calm has way.
    lists_behind c.args.table.now c.args.loaded.now c.in_ok-new.new c.in_ok-new.ensures.reads.found
    (made_by c.args.table.now c.args.loaded.now c.in_ok-new.new c.plan.result c.plan.ensures c.requires.docket c.requires.nodes c.over.ensures.image c.in_ok-new.ensures.written c.in_ok-new.ensures.appended c.in_ok-new.ensures.reads)
    (c.over.ensures.image way) (c.in_ok-new.ensures.appended (c.plan.ensures ∙ way))
    (course (g.S.Shelf.history c.args.shelf.now) (g.S.Shelf.images c.args.shelf.now)) (course (g.S.Shelf.history c.publish.new.shelf) (g.S.Shelf.images c.publish.new.shelf))
    has (c.in_ok-publish.ensures.exact calm) (c.in_ok-new.ensures.stays (c.plan.ensures ∙ way))

pub returns-clause-fits : goal.returns-clause-fits
returns-clause-fits g c = (c.in_ok-new.new, c.in_ok-new.ensures.reads.found, (made_by c.args.table.now c.args.loaded.now c.in_ok-new.new c.plan.result c.plan.ensures c.requires.docket c.requires.nodes c.over.ensures.image c.in_ok-new.ensures.written c.in_ok-new.ensures.appended c.in_ok-new.ensures.reads).is)

pub encode-requires : goal.encode-requires
encode-requires g c = can_encode c.args.table.now c.plan.result c.plan.ensures

pub returns-in_err-new-clause-safe : goal.returns-in_err-new-clause-safe
returns-in_err-new-clause-safe g c = λ calm.
    let p = err_from_is_err_and c.from_residual.result c.from_residual.ensures.1 in
    rw (p.1, p.2) tt
