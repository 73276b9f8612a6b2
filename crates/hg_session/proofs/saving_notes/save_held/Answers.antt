-- Saving under the lock: the docket, the notes written into the table, the publication.
use Rattle.std.proofs.Common.{inr, refl, ◌∙◌, sym, true≢false}
use Rattle.std.proofs.lemmas.Result.{err_from_is_err_and}
use Rattle.hg_save.proofs.Held.{held_passes, held_then}
use Rattle.hg_session.proofs.HeldNotes.{asked_once, held_cause, held_other, held_saved, held_untouched, held_unwritten, untouched_count}
use Rattle.hg_session.proofs.Locked.{unwritten}
use Rattle.hg_session.specs.declared.save_fault.SaveFault.TheVariants as a_fault
use Rattle.hg_shelf.proofs.Scenes.{goes_same, goes_trans}
use Rattle.hg_shelf.specs.Images.{Course, course}
use Rattle.hg_session.proofs.saving_notes.save_held.Goals as goal

pub returns-in_err-same-clause-saves : goal.returns-in_err-same-clause-saves
returns-in_err-same-clause-saves g c start recorded since news =
    let p = err_from_is_err_and c.from_residual.result c.from_residual.ensures.1 in
    let b : Course = course (g.S.Shelf.history c.args.shelf.now) (g.S.Shelf.images c.args.shelf.now) in
    let s : Course = course (g.S.Shelf.history c.stands.new.shelf) (g.S.Shelf.images c.stands.new.shelf) in
    rw (p.1, p.2)
    (held_unwritten start b s s c.requires.held c.stands.ensures.passes c.stands.ensures.kept (goes_same s) c.args.loaded.now c.args.loaded.now.whole.sound recorded c.args.mixed.now since c.args.notes
    (g.S.Shelf.faults c.args.shelf.now) (g.S.Shelf.faults c.stands.new.shelf) (unwritten b.history s.history c.stands.ensures.passes) c.in_err-same.field-0.0)

pub returns-then-not-same-clause-saves : goal.returns-then-not-same-clause-saves
returns-then-not-same-clause-saves g c start recorded since news =
    let b : Course = course (g.S.Shelf.history c.args.shelf.now) (g.S.Shelf.images c.args.shelf.now) in
    let s : Course = course (g.S.Shelf.history c.stands.new.shelf) (g.S.Shelf.images c.stands.new.shelf) in
    held_other start b s s c.requires.held c.stands.ensures.passes c.stands.ensures.kept (goes_same s) c.args.loaded.now c.args.loaded.now.whole.sound recorded c.args.mixed.now since c.args.notes
    (g.S.Shelf.faults c.args.shelf.now) (g.S.Shelf.faults c.stands.new.shelf)
    (λ told stands. true≢false (sym ((c.in_ok-same.ensures.found told).1 stands) ∙ c.if-not-same.true)) (unwritten b.history s.history c.stands.ensures.passes)

pub returns-in_err-apply-clause-saves : goal.returns-in_err-apply-clause-saves
returns-in_err-apply-clause-saves g c start recorded since news =
    let p = err_from_is_err_and c.from_residual-in_err-apply.result c.from_residual-in_err-apply.ensures.1 in
    let b : Course = course (g.S.Shelf.history c.args.shelf.now) (g.S.Shelf.images c.args.shelf.now) in
    let s : Course = course (g.S.Shelf.history c.stands.new.shelf) (g.S.Shelf.images c.stands.new.shelf) in
    rw (p.1, p.2)
    (held_unwritten start b s s c.requires.held c.stands.ensures.passes c.stands.ensures.kept (goes_same s) c.args.loaded.now c.args.loaded.now.whole.sound recorded c.args.mixed.now since c.args.notes
    (g.S.Shelf.faults c.args.shelf.now) (g.S.Shelf.faults c.stands.new.shelf) (unwritten b.history s.history c.stands.ensures.passes) a_fault.OutOfMemory)

pub returns-clause-saves : goal.returns-clause-saves
returns-clause-saves g c start recorded since news =
    let b : Course = course (g.S.Shelf.history c.args.shelf.now) (g.S.Shelf.images c.args.shelf.now) in
    let s : Course = course (g.S.Shelf.history c.stands.new.shelf) (g.S.Shelf.images c.stands.new.shelf) in
    let d : Course = course (g.S.Shelf.history c.save.new.shelf) (g.S.Shelf.images c.save.new.shelf) in
    rw c.unless_unfit.ensures
    (held_saved start b s d c.requires.held c.stands.ensures.passes c.stands.ensures.kept c.save.ensures.kept c.args.loaded.now c.args.loaded.now.whole.sound recorded c.args.mixed.now since c.args.notes
    (g.S.Shelf.faults c.args.shelf.now) (g.S.Shelf.faults c.save.new.shelf) (λ told. c.in_ok-same.ensures.shown told c.if-not-same.false)
    c.apply.new.mixed c.in_ok-apply.ensures.image c.requires.over c.requires.nodes c.in_ok-apply.ensures.table c.in_ok-apply.ensures.lent c.in_ok-apply.ensures.places news c.requires.some c.save.ensures.lent c.in_ok-apply.ensures.changed.marked
    (λ unset i. course (g.S.Shelf.history (c.save.ensures.still unset i)) (g.S.Shelf.images (c.save.ensures.still unset i)))
    (g.S.Shelf.faults c.stands.new.shelf) (g.S.Shelf.faults c.save.new.shelf) c.save.result c.save.ensures.safe c.save.ensures.recorded c.save.ensures.unwritten c.save.ensures.met)

pub returns-clause-kept : goal.returns-clause-kept
returns-clause-kept g c =
    goes_trans (course (g.S.Shelf.history c.args.shelf.now) (g.S.Shelf.images c.args.shelf.now)) (course (g.S.Shelf.history c.stands.new.shelf) (g.S.Shelf.images c.stands.new.shelf))
    (course (g.S.Shelf.history c.save.new.shelf) (g.S.Shelf.images c.save.new.shelf)) c.stands.ensures.kept c.save.ensures.kept

pub returns-then-not-same-clause-asked : goal.returns-then-not-same-clause-asked
returns-then-not-same-clause-asked g c = λ told.
    let s = g.S.Shelf.history c.stands.new.shelf in
    asked_once (g.S.Shelf.history c.args.shelf.now) s s (c.in_ok-same.ensures.asked told) (record { asked = refl; locks = refl })

pub returns-in_err-apply-clause-asked : goal.returns-in_err-apply-clause-asked
returns-in_err-apply-clause-asked g c = λ told.
    let s = g.S.Shelf.history c.stands.new.shelf in
    asked_once (g.S.Shelf.history c.args.shelf.now) s s (c.in_ok-same.ensures.asked told) (record { asked = refl; locks = refl })

pub returns-clause-asked : goal.returns-clause-asked
returns-clause-asked g c = λ told. asked_once (g.S.Shelf.history c.args.shelf.now) (g.S.Shelf.history c.stands.new.shelf) (g.S.Shelf.history c.save.new.shelf) (c.in_ok-same.ensures.asked told) c.save.ensures.unasked

pub returns-clause-unwritten : goal.returns-clause-unwritten
returns-clause-unwritten g c =
    rw c.unless_unfit.ensures
    (held_untouched (course (g.S.Shelf.history c.args.shelf.now) (g.S.Shelf.images c.args.shelf.now)) (course (g.S.Shelf.history c.stands.new.shelf) (g.S.Shelf.images c.stands.new.shelf))
    (course (g.S.Shelf.history c.save.new.shelf) (g.S.Shelf.images c.save.new.shelf)) c.stands.ensures.passes c.save.ensures.kept c.save.result c.save.ensures.unwritten)

pub returns-clause-cause : goal.returns-clause-cause
returns-clause-cause g c =
    rw c.unless_unfit.ensures
    (held_cause (g.S.Shelf.faults c.args.shelf.now) (g.S.Shelf.faults c.stands.new.shelf) (g.S.Shelf.faults c.save.new.shelf) c.apply.new.mixed c.in_ok-same.ensures.cause.quiet c.save.ensures.later
    c.save.result c.save.ensures.calm (untouched_count g.S.Shelf.faults c.stands.new.shelf c.save.new.shelf c.save.result c.save.ensures.untouched) c.save.ensures.met)

pub returns-clause-lock : goal.returns-clause-lock
returns-clause-lock g c = λ told.
    held_then (g.S.Shelf.history c.args.shelf.now) (g.S.Shelf.history c.stands.new.shelf) (g.S.Shelf.history c.save.new.shelf) c.save.ensures.kept.past
    (held_passes (g.S.Shelf.history c.args.shelf.now) (g.S.Shelf.history c.stands.new.shelf) c.requires.held c.stands.ensures.passes) (c.save.ensures.lock (c.stands.ensures.passes.past.told ∙ told))

pub returns-in_err-same-clause-unwritten : goal.returns-in_err-same-clause-unwritten
returns-in_err-same-clause-unwritten g c =
    let p = err_from_is_err_and c.from_residual.result c.from_residual.ensures.1 in
    rw (p.1, p.2) (inr (unwritten (g.S.Shelf.history c.args.shelf.now) (g.S.Shelf.history c.stands.new.shelf) c.stands.ensures.passes))

pub returns-in_err-same-clause-cause : goal.returns-in_err-same-clause-cause
returns-in_err-same-clause-cause g c =
    let p = err_from_is_err_and c.from_residual.result c.from_residual.ensures.1 in
    rw (p.1, p.2) (record { later = c.in_err-same.ensures.cause.later; quiet = tt; rose = c.in_err-same.ensures.cause.rose })

pub returns-in_err-same-clause-lock : goal.returns-in_err-same-clause-lock
returns-in_err-same-clause-lock g c = λ told. held_passes (g.S.Shelf.history c.args.shelf.now) (g.S.Shelf.history c.stands.new.shelf) c.requires.held c.stands.ensures.passes

pub returns-then-not-same-clause-lock : goal.returns-then-not-same-clause-lock
returns-then-not-same-clause-lock g c = λ told. held_passes (g.S.Shelf.history c.args.shelf.now) (g.S.Shelf.history c.stands.new.shelf) c.requires.held c.stands.ensures.passes

pub returns-in_err-apply-clause-unwritten : goal.returns-in_err-apply-clause-unwritten
returns-in_err-apply-clause-unwritten g c =
    let p = err_from_is_err_and c.from_residual-in_err-apply.result c.from_residual-in_err-apply.ensures.1 in
    rw (p.1, p.2) (inr (unwritten (g.S.Shelf.history c.args.shelf.now) (g.S.Shelf.history c.stands.new.shelf) c.stands.ensures.passes))

pub returns-in_err-apply-clause-lock : goal.returns-in_err-apply-clause-lock
returns-in_err-apply-clause-lock g c = λ told. held_passes (g.S.Shelf.history c.args.shelf.now) (g.S.Shelf.history c.stands.new.shelf) c.requires.held c.stands.ensures.passes
