-- What is told behind a change, as the promises of the command.
use Rattle.std.proofs.Common.{ℕ, List, ap, ◌∙◌, subst}
use Rattle.hg_session.proofs.Promises.{ran_done, ran_failed, ran_untold, status_either}
use Rattle.hg_session.specs.Told.{status_of}
use Rattle.hg_session.specs.Put.{IsFaultOrMemory}
use Rattle.hg_shelf.specs.Images.{course}
use Rattle.hg_stream.specs.Stream.{Grown, GrownByFront}
use Rattle.hg_session.proofs.locking.change_record.Goals as goal

pub returns-in-Err-clause-ran : goal.returns-in-Err-clause-ran
returns-in-Err-clause-ran g c = λ out oversize silent uncounted.
    ran_failed c.args.command.now _ (course (g.S.Shelf.history c.args.shelf.now) (g.S.Shelf.images c.args.shelf.now)) (course (g.S.Shelf.history c.change.new.shelf) (g.S.Shelf.images c.change.new.shelf))
    (g.S.Shelf.faults c.args.shelf.now) (g.S.Shelf.faults c.change.new.shelf) _ oversize out
    (record { old = g.E.Sink.bytes c.args.err.now; new = g.E.Sink.bytes c.failed.new.err; before = g.E.Sink.faults c.args.err.now; after = g.E.Sink.faults c.failed.new.err })
    silent uncounted c.in-Err.ensures.came.come c.in-Err.ensures.came.tree c.in-Err.ensures.came.asked c.change.ensures.kept c.failed.result.status c.in-Err.fault c.failed.result.fault c.in-Err.ensures.came.locked (subst (IsFaultOrMemory c.failed.result.fault) c.from.ensures c.failed.ensures.fault)
    c.in-Err.ensures.came.met c.in-Err.ensures.came.safe c.in-Err.ensures.unwritten (λ rose. cc (c.in-Err.ensures.held rose)) (λ rose. cc (c.in-Err.ensures.failed rose))
    c.failed.ensures.told

pub returns-in-Err-put_all-clause-ran : goal.returns-in-Err-put_all-clause-ran
returns-in-Err-put_all-clause-ran g c = λ out oversize silent uncounted.
    ran_untold c.args.command.now _ (course (g.S.Shelf.history c.args.shelf.now) (g.S.Shelf.images c.args.shelf.now)) (course (g.S.Shelf.history c.change.new.shelf) (g.S.Shelf.images c.change.new.shelf))
    (g.S.Shelf.faults c.args.shelf.now) (g.S.Shelf.faults c.change.new.shelf) _ oversize out
    (record { old = g.E.Sink.bytes c.args.err.now; new = g.E.Sink.bytes c.put_all.new.out; before = g.E.Sink.faults c.args.err.now; after = g.E.Sink.faults c.put_all.new.out })
    silent uncounted c.in-Ok.ensures.came.come c.in-Ok.ensures.came.tree c.in-Ok.ensures.came.asked c.change.ensures.kept c.in-Ok.ensures.came.locked c.in-Ok.ensures.came.done.0 c.in-Ok.lines.items c.in-Ok.ensures.came.done.1
    (subst (λ (l : List ℕ). GrownByFront (g.E.Sink.bytes c.args.err.now) (g.E.Sink.bytes c.put_all.new.out) l) c.as_slice.ensures.value c.in-Err-put_all.ensures.prefix)
    (c.in-Err-put_all.ensures.cause.rose tt) c.in-Ok.ensures.calm_shelf c.in-Ok.ensures.came.safe (λ rose. cc (c.in-Ok.ensures.held rose)) (λ rose. cc (c.in-Ok.ensures.failed rose)) 255

pub returns-clause-ran : goal.returns-clause-ran
returns-clause-ran g c = λ out oversize silent uncounted.
    ran_done c.args.command.now _ (course (g.S.Shelf.history c.args.shelf.now) (g.S.Shelf.images c.args.shelf.now)) (course (g.S.Shelf.history c.change.new.shelf) (g.S.Shelf.images c.change.new.shelf))
    (g.S.Shelf.faults c.args.shelf.now) (g.S.Shelf.faults c.change.new.shelf) _ oversize out
    (record { old = g.E.Sink.bytes c.args.err.now; new = g.E.Sink.bytes c.put_all.new.out; before = g.E.Sink.faults c.args.err.now; after = g.E.Sink.faults c.put_all.new.out })
    silent uncounted c.in-Ok.ensures.came.come c.in-Ok.ensures.came.tree c.in-Ok.ensures.came.asked c.change.ensures.kept c.in-Ok.ensures.came.locked c.status_of.result c.in-Ok.ensures.came.done.0 c.in-Ok.lines.items c.in-Ok.ensures.came.done.1
    (subst (λ (l : List ℕ). Grown (g.E.Sink.bytes c.args.err.now) (g.E.Sink.bytes c.put_all.new.out) l) c.as_slice.ensures.value c.in-Ok-put_all.ensures.all)
    (c.status_of.ensures ∙ ap status_of c.as_slice-in-Ok-put_all.ensures.value)
    c.in-Ok.ensures.came.safe c.in-Ok.ensures.calm_tree c.in-Ok.ensures.calm_shelf c.in-Ok-put_all.ensures.cause.quiet (λ rose. cc (c.in-Ok.ensures.held rose)) (λ rose. cc (c.in-Ok.ensures.failed rose))

pub returns-clause-status : goal.returns-clause-status
returns-clause-status g c = status_either c.status_of.result _ c.status_of.ensures
