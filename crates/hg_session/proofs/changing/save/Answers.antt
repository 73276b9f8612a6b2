use Rattle.std.proofs.Common.{inl, inr, sym, ◌∙◌}
use Rattle.std.proofs.lemmas.Result.{err_from_is_err_and}
use Rattle.hg_save.proofs.Held.{held_same}
use Rattle.hg_shelf.specs.Images.{course}
use Rattle.hg_session.proofs.Overs.{refused_met, refused_over, refused_same, refused_still}
use Rattle.hg_session.proofs.changing.save.Goals as goal

pub returns-in_err-publish_table-clause-safe : goal.returns-in_err-publish_table-clause-safe
returns-in_err-publish_table-clause-safe g c = λ calm.
    let p = err_from_is_err_and c.from_residual.result c.from_residual.ensures.1 in
    rw (p.1, p.2)
    (refused_over c.args.table.now c.args.loaded.now
    (course (g.S.Shelf.history c.args.shelf.now) (g.S.Shelf.images c.args.shelf.now)) (course (g.S.Shelf.history c.publish_table.new.shelf) (g.S.Shelf.images c.publish_table.new.shelf))
    c.in_err-publish_table.field-0.0 (sym c.changed.ensures ∙ c.if-not-changed.false) (c.in_err-publish_table.ensures.safe calm)
    (elim c.in_err-publish_table.ensures.untouched [ inl failed ↦ inl failed | inr same ↦ inr (λ i. course (g.S.Shelf.history (same i)) (g.S.Shelf.images (same i))) ]))

pub returns-in_err-publish_table-clause-unwritten : goal.returns-in_err-publish_table-clause-unwritten
returns-in_err-publish_table-clause-unwritten g c =
    let p = err_from_is_err_and c.from_residual.result c.from_residual.ensures.1 in
    rw (p.1, p.2)
    (refused_still c.args.table.now c.args.loaded.now
    (course (g.S.Shelf.history c.args.shelf.now) (g.S.Shelf.images c.args.shelf.now)) (course (g.S.Shelf.history c.publish_table.new.shelf) (g.S.Shelf.images c.publish_table.new.shelf))
    c.in_err-publish_table.field-0.0
    (elim c.in_err-publish_table.ensures.untouched [ inl failed ↦ inl failed | inr same ↦ inr (λ i. course (g.S.Shelf.history (same i)) (g.S.Shelf.images (same i))) ]))

pub returns-in_err-publish_table-clause-untouched : goal.returns-in_err-publish_table-clause-untouched
returns-in_err-publish_table-clause-untouched g c =
    let p = err_from_is_err_and c.from_residual.result c.from_residual.ensures.1 in
    rw (p.1, p.2) (refused_same c.args.shelf.now c.publish_table.new.shelf c.in_err-publish_table.field-0.0 c.in_err-publish_table.ensures.untouched)

pub returns-in_err-publish_table-clause-met : goal.returns-in_err-publish_table-clause-met
returns-in_err-publish_table-clause-met g c =
    let p = err_from_is_err_and c.from_residual.result c.from_residual.ensures.1 in
    rw (p.1, p.2)
    (refused_met c.args.table.now (g.S.Shelf.faults c.args.shelf.now) (g.S.Shelf.faults c.publish_table.new.shelf) c.in_err-publish_table.field-0.0 (sym c.changed.ensures ∙ c.if-not-changed.false) c.in_err-publish_table.ensures.cause)

pub returns-clause-fits : goal.returns-clause-fits
returns-clause-fits g c = λ set. let can = c.in_ok-publish_table.ensures.fits in record { new = can.0; found = can.1; is = can.2 }

pub returns-clause-recorded : goal.returns-clause-recorded
returns-clause-recorded g c = λ calm used set.
    record { is = c.in_ok-publish_table.ensures.recorded calm used; lists = λ way. c.in_ok-publish_table.ensures.kept_lists calm (used way) way }

pub returns-clause-safe : goal.returns-clause-safe
returns-clause-safe g c = λ calm. inr (tt, record { changed = sym c.changed.ensures ∙ c.if-not-changed.false; put = c.in_ok-publish_table.ensures.safe calm })

pub returns-then-not-changed-clause-lock : goal.returns-then-not-changed-clause-lock
returns-then-not-changed-clause-lock g c = λ told. held_same (g.S.Shelf.history c.args.shelf.now)
