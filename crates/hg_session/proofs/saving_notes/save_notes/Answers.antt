-- The lock round saving, as one call.
use Rattle.std.proofs.Common.{IsTrue, sym, ◌∙◌, true≢false}
use Rattle.hg_session.proofs.Freed.{refused_same, taken_same}
use Rattle.hg_session.proofs.Locks.{not_taken_by, noted_taken, refused_by, taken_by}
use Rattle.hg_session.proofs.SavedNotes.{asked_none, once_asked, once_cause, once_either, unwritten_locked, saves_blank, saves_locked, saves_not_taken, saves_refused}
use Rattle.hg_session.specs.Change.{IsUnwritten}
use Rattle.hg_session.specs.Locks.{TakenAt}
use Rattle.hg_session.specs.SavingNotes.{IsOpenedSince, IsTryOf}
use Rattle.hg_shelf.proofs.Histories.{extends_trans}
use Rattle.hg_shelf.proofs.Scenes.{goes_trans}
use Rattle.hg_shelf.specs.Images.{Course, course}
use Rattle.hg_shelf.specs.Lock.{IsNoted}
use Rattle.hg_shelf.specs.declared.asked.LockAnswer.TheVariants as an_answer
use Rattle.hg_session.proofs.saving_notes.save_notes.Goals as goal

pub returns-then-is_empty-clause-saves : goal.returns-then-is_empty-clause-saves
returns-then-is_empty-clause-saves g c start recorded since news =
    saves_blank (IsTryOf start (g.S.Shelf.history c.args.shelf.now) c.args.loaded.now recorded c.args.mixed.now since) start (course (g.S.Shelf.history c.args.shelf.now) (g.S.Shelf.images c.args.shelf.now)) (g.S.Shelf.faults c.args.shelf.now) (g.S.Shelf.held c.args.shelf.now) recorded c.args.notes
    (c.is_empty.ensures.0 c.if-is_empty.true)

pub returns-in-Err-clause-saves : goal.returns-in-Err-clause-saves
returns-in-Err-clause-saves g c start recorded since news =
    let a : Course = course (g.S.Shelf.history c.args.shelf.now) (g.S.Shelf.images c.args.shelf.now) in
    let b : Course = course (g.S.Shelf.history c.lock.new.self) (g.S.Shelf.images c.lock.new.self) in
    saves_not_taken (IsTryOf start (g.S.Shelf.history c.args.shelf.now) c.args.loaded.now recorded c.args.mixed.now since) start a b c.lock.ensures.waits (g.S.Shelf.faults c.args.shelf.now) (g.S.Shelf.faults c.lock.new.self)
    (record { before = g.S.Shelf.held c.args.shelf.now; after = g.S.Shelf.held c.lock.new.self }) recorded c.args.notes
    (λ blank. true≢false (sym (c.is_empty.ensures.1 blank) ∙ c.if-is_empty.false)) c.in-Err.ensures.locks.0
    (λ told. not_taken_by a.history b.history (c.in-Err.ensures.noted told)) c.in-Err.ensures.locks.1 (c.in-Err.ensures.cause.rose tt)

pub returns-in-Ok-false-clause-saves : goal.returns-in-Ok-false-clause-saves
returns-in-Ok-false-clause-saves g c start recorded since news =
    let a : Course = course (g.S.Shelf.history c.args.shelf.now) (g.S.Shelf.images c.args.shelf.now) in
    let b : Course = course (g.S.Shelf.history c.lock.new.self) (g.S.Shelf.images c.lock.new.self) in
    let was = refused_same _ _ _ _ c.in-Ok-false.field-0 c.in-Ok-false.field-0-test c.in-Ok-false.ensures.locks in
    saves_refused (IsTryOf start (g.S.Shelf.history c.args.shelf.now) c.args.loaded.now recorded c.args.mixed.now since) start a b c.lock.ensures.waits (g.S.Shelf.faults c.args.shelf.now) (g.S.Shelf.faults c.lock.new.self)
    (record { before = g.S.Shelf.held c.args.shelf.now; after = g.S.Shelf.held c.lock.new.self }) recorded c.args.notes
    (λ blank. true≢false (sym (c.is_empty.ensures.1 blank) ∙ c.if-is_empty.false)) was.0
    (λ told. refused_by a.history b.history c.in-Ok-false.field-0 c.in-Ok-false.field-0-test (c.in-Ok-false.ensures.noted told)) was.1

pub returns-in-Ok-true-clause-saves : goal.returns-in-Ok-true-clause-saves
returns-in-Ok-true-clause-saves g c start recorded since news =
    let a : Course = course (g.S.Shelf.history c.args.shelf.now) (g.S.Shelf.images c.args.shelf.now) in
    let b : Course = course (g.S.Shelf.history c.lock.new.self) (g.S.Shelf.images c.lock.new.self) in
    let x : Course = course (g.S.Shelf.history c.save_held-done.new.shelf) (g.S.Shelf.images c.save_held-done.new.shelf) in
    let d : Course = course (g.S.Shelf.history c.unlock-freed.new.self) (g.S.Shelf.images c.unlock-freed.new.self) in
    let noted : IsTrue a.history.told → IsNoted an_answer.Taken a.history b.history =
    λ told. noted_taken a.history b.history c.in-Ok-true.field-0 c.in-Ok-true.field-0-test (c.in-Ok-true.ensures.noted told) in
    let taken : IsTrue a.history.told → TakenAt a.history d.history b.history.last x.history.last =
    λ told.
    taken_by a.history b.history x.history d.history c.lock.ensures.kept.past c.save_held-done.ensures.kept.past c.unlock-freed.ensures.kept.past (noted told) c.save_held-done.ensures.uncalled c.unlock-freed.result
    (c.unlock-freed.ensures.noted (c.save_held-done.ensures.kept.past.told ∙ c.lock.ensures.kept.past.told ∙ told)) in
    let later : IsOpenedSince start b.history c.args.loaded.now recorded c.args.mixed.now =
    record {
      mid = since.mid;
      front = since.front;
      past = extends_trans since.mid a.history b.history since.past c.lock.ensures.kept.past;
      loads = since.loads;
      nodes = since.nodes;
      same = since.same;
      image = since.image;
      lent = since.lent;
      placed = since.placed;
    } in
    rw c.first_fault.ensures
    (saves_locked (IsTryOf start (g.S.Shelf.history c.args.shelf.now) c.args.loaded.now recorded c.args.mixed.now since) start recorded c.args.notes a b x d c.lock.ensures.waits c.unlock-freed.ensures.waits c.lock.ensures.kept c.save_held-done.ensures.kept c.unlock-freed.ensures.kept noted c.save_held-done.ensures.uncalled taken
    c.save_held-done.ensures.lock (g.S.Shelf.faults c.args.shelf.now) (g.S.Shelf.faults c.lock.new.self) (g.S.Shelf.faults c.save_held-done.new.shelf) (g.S.Shelf.faults c.unlock-freed.new.self)
    (record { before = g.S.Shelf.held c.args.shelf.now; after = g.S.Shelf.held c.unlock-freed.new.self }) (λ blank. true≢false (sym (c.is_empty.ensures.1 blank) ∙ c.if-is_empty.false))
    c.save_held-done.result c.unlock-freed.result c.in-Ok-true.ensures.cause.quiet
    (c.unlock-freed.ensures.held ∙ c.save_held-done.ensures.locks ∙ taken_same _ _ _ _ c.in-Ok-true.field-0 c.in-Ok-true.field-0-test c.in-Ok-true.ensures.locks)
    (c.save_held-done.ensures.saves start recorded later news) c.save_held-done.ensures.cause c.unlock-freed.ensures.cause c.unlock-freed.ensures.unlocks c.unlock-freed.ensures.noted)

pub returns-in-Ok-true-clause-kept : goal.returns-in-Ok-true-clause-kept
returns-in-Ok-true-clause-kept g c =
    goes_trans (course (g.S.Shelf.history c.args.shelf.now) (g.S.Shelf.images c.args.shelf.now)) (course (g.S.Shelf.history c.lock.new.self) (g.S.Shelf.images c.lock.new.self))
    (course (g.S.Shelf.history c.unlock-freed.new.self) (g.S.Shelf.images c.unlock-freed.new.self)) c.lock.ensures.kept
    (goes_trans (course (g.S.Shelf.history c.lock.new.self) (g.S.Shelf.images c.lock.new.self)) (course (g.S.Shelf.history c.save_held-done.new.shelf) (g.S.Shelf.images c.save_held-done.new.shelf))
    (course (g.S.Shelf.history c.unlock-freed.new.self) (g.S.Shelf.images c.unlock-freed.new.self)) c.save_held-done.ensures.kept c.unlock-freed.ensures.kept)

pub returns-in-Err-clause-asked : goal.returns-in-Err-clause-asked
returns-in-Err-clause-asked g c = λ told. asked_none (g.S.Shelf.history c.args.shelf.now) (g.S.Shelf.history c.lock.new.self) c.lock.ensures.unasked

pub returns-in-Ok-false-clause-asked : goal.returns-in-Ok-false-clause-asked
returns-in-Ok-false-clause-asked g c = λ told. asked_none (g.S.Shelf.history c.args.shelf.now) (g.S.Shelf.history c.lock.new.self) c.lock.ensures.unasked

pub returns-in-Err-clause-blank : goal.returns-in-Err-clause-blank
returns-in-Err-clause-blank g c = λ blank. absurd (true≢false (sym (c.is_empty.ensures.1 blank) ∙ c.if-is_empty.false))

pub returns-in-Err-clause-blank_ok : goal.returns-in-Err-clause-blank_ok
returns-in-Err-clause-blank_ok g c = λ blank. absurd (true≢false (sym (c.is_empty.ensures.1 blank) ∙ c.if-is_empty.false))

pub returns-in-Err-clause-cause : goal.returns-in-Err-clause-cause
returns-in-Err-clause-cause g c = record { later = c.in-Err.ensures.cause.later; quiet = tt; rose = λ is. c.in-Err.ensures.cause.rose tt }

pub returns-in-Ok-true-clause-blank : goal.returns-in-Ok-true-clause-blank
returns-in-Ok-true-clause-blank g c = λ blank. absurd (true≢false (sym (c.is_empty.ensures.1 blank) ∙ c.if-is_empty.false))

pub returns-in-Ok-true-clause-blank_ok : goal.returns-in-Ok-true-clause-blank_ok
returns-in-Ok-true-clause-blank_ok g c = λ blank. absurd (true≢false (sym (c.is_empty.ensures.1 blank) ∙ c.if-is_empty.false))

pub returns-in-Ok-false-clause-blank : goal.returns-in-Ok-false-clause-blank
returns-in-Ok-false-clause-blank g c = λ blank. absurd (true≢false (sym (c.is_empty.ensures.1 blank) ∙ c.if-is_empty.false))

pub returns-in-Ok-true-clause-unwritten : goal.returns-in-Ok-true-clause-unwritten
returns-in-Ok-true-clause-unwritten g c =
    let a : Course = course (g.S.Shelf.history c.args.shelf.now) (g.S.Shelf.images c.args.shelf.now) in
    let b : Course = course (g.S.Shelf.history c.lock.new.self) (g.S.Shelf.images c.lock.new.self) in
    let x : Course = course (g.S.Shelf.history c.save_held-done.new.shelf) (g.S.Shelf.images c.save_held-done.new.shelf) in
    let d : Course = course (g.S.Shelf.history c.unlock-freed.new.self) (g.S.Shelf.images c.unlock-freed.new.self) in
    rw c.first_fault.ensures
    (once_either (IsUnwritten b.history x.history) (IsUnwritten a.history d.history) c.save_held-done.result c.unlock-freed.result
    (unwritten_locked a b x d c.lock.ensures.waits c.unlock-freed.ensures.waits c.lock.ensures.kept c.save_held-done.ensures.kept c.unlock-freed.ensures.kept) c.save_held-done.ensures.unwritten)

pub returns-in-Ok-true-clause-asked : goal.returns-in-Ok-true-clause-asked
returns-in-Ok-true-clause-asked g c = λ told.
    once_asked (g.S.Shelf.history c.args.shelf.now) (g.S.Shelf.history c.lock.new.self) (g.S.Shelf.history c.save_held-done.new.shelf) (g.S.Shelf.history c.unlock-freed.new.self)
    c.lock.ensures.unasked (c.save_held-done.ensures.asked (c.lock.ensures.waits.past.told ∙ told)) c.unlock-freed.ensures.unasked

pub returns-in-Ok-true-clause-cause : goal.returns-in-Ok-true-clause-cause
returns-in-Ok-true-clause-cause g c =
    rw c.first_fault.ensures
    (once_cause (g.S.Shelf.faults c.args.shelf.now) (g.S.Shelf.faults c.lock.new.self) (g.S.Shelf.faults c.save_held-done.new.shelf) (g.S.Shelf.faults c.unlock-freed.new.self)
    c.save_held-done.result c.unlock-freed.result c.in-Ok-true.ensures.cause.quiet c.save_held-done.ensures.cause c.unlock-freed.ensures.cause)
