use Rattle.std.proofs.Common.{[], refl, sym}
use Rattle.std.proofs.lemmas.List.{append-nil}
use Rattle.std.proofs.lemmas.Result.{err_from_is_err_and}
use Rattle.hg_flat.specs.Parent.{WasAsked}
use Rattle.hg_flat.proofs.Asks.{reads_none}
use Rattle.hg_flat.proofs.Going.{goes_store}
use Rattle.hg_flat.proofs.Needing.{reads_nothing}
use Rattle.hg_walk.specs.Right.{AreRight}
use Rattle.hg_walk.specs.Telling.{notes_of, tracked_row}
use Rattle.hg_walk.specs.Walking.{asked_unvouched, rows_in, walk_status}
use Rattle.hg_walk.proofs.TellsEach.{tells_bare, tells_one, unmarked_bare}
use Rattle.hg_walk.proofs.TellsNotes.{notes_bare}
use Rattle.hg_walk.proofs.telling.tell_one.Goals as goal

-- ---- a child without an entry

pub returns-in_default-clause-goes : goal.returns-in_default-clause-goes
returns-in_default-clause-goes g c = λ t start begun come. come.goes

pub returns-in_default-clause-row : goal.returns-in_default-clause-row
returns-in_default-clause-row g c = λ t start begun store come.
    let old = g.T.Tree.history c.args.tree.now in
    tells_bare c.args.wanted t store (AreRight (rows_in t store) t start old) old old begun (g.S.Shelf.history c.args.shelf.now) c.args.child.now c.args.rows.now.items c.in_default.is

pub returns-in_default-clause-noted : goal.returns-in_default-clause-noted
returns-in_default-clause-noted g c =
    let old = g.T.Tree.history c.args.tree.now in (
      [],
      (λ i. record c.args.notes.now { clean = sym (append-nil c.args.notes.now.clean) i }),
      λ t start begun come. notes_bare (walk_status c.args.wanted t old old begun (g.S.Shelf.history c.args.shelf.now)) t c.args.boundary c.args.child.now come.of c.in_default.is,
    )

pub returns-in_default-clause-marked : goal.returns-in_default-clause-marked
returns-in_default-clause-marked g c =
    let old = g.T.Tree.history c.args.tree.now in unmarked_bare c.args.wanted old old c.args.child.now c.in_default.is

pub returns-in_default-clause-asked : goal.returns-in_default-clause-asked
returns-in_default-clause-asked g c = λ told t of.
    let old = g.T.Tree.history c.args.tree.now in reads_none (WasAsked (asked_unvouched c.args.wanted t) old old) old old refl

-- ---- a fault

pub returns-in_err-told-clause-met : goal.returns-in_err-told-clause-met
returns-in_err-told-clause-met g c = let p = err_from_is_err_and c.from_residual.result c.from_residual.ensures.1 in rw (p.1, p.2) c.in_err-told.ensures.met

pub returns-in_err-told-clause-names : goal.returns-in_err-told-clause-names
returns-in_err-told-clause-names g c = let p = err_from_is_err_and c.from_residual.result c.from_residual.ensures.1 in rw (p.1, p.2) c.in_err-told.ensures.names

pub returns-in_err-told-clause-store : goal.returns-in_err-told-clause-store
returns-in_err-told-clause-store g c = let p = err_from_is_err_and c.from_residual.result c.from_residual.ensures.1 in rw p.1 c.in_err-told.ensures.store

pub returns-in_err-put_wanted-clause-store : goal.returns-in_err-put_wanted-clause-store
returns-in_err-put_wanted-clause-store g c =
    let p = err_from_is_err_and c.from_residual-in_err-put_wanted.result c.from_residual-in_err-put_wanted.ensures.1 in
    rw p.1
    (λ t start begun come told.
    goes_store (walk_status c.args.wanted t start (g.T.Tree.history c.args.tree.now) begun (g.S.Shelf.history c.args.shelf.now)) (g.T.Tree.history c.tell_tracked.new.tree) (g.S.Shelf.history c.tell_tracked.new.shelf)
    c.tell_tracked.new.parent (c.in_ok-told.ensures.goes t start begun come) told)

pub returns-in_err-note_seen-clause-store : goal.returns-in_err-note_seen-clause-store
returns-in_err-note_seen-clause-store g c =
    let p = err_from_is_err_and c.from_residual-in_err-note_seen.result c.from_residual-in_err-note_seen.ensures.1 in
    rw p.1
    (λ t start begun come told.
    goes_store (walk_status c.args.wanted t start (g.T.Tree.history c.args.tree.now) begun (g.S.Shelf.history c.args.shelf.now)) (g.T.Tree.history c.tell_tracked.new.tree) (g.S.Shelf.history c.tell_tracked.new.shelf)
    c.tell_tracked.new.parent (c.in_ok-told.ensures.goes t start begun come) told)

-- ---- a child with an entry

pub returns-clause-row : goal.returns-clause-row
returns-clause-row g c = λ t start begun store come.
    let old = g.T.Tree.history c.args.tree.now in
    let new = g.T.Tree.history c.tell_tracked.new.tree in
    tells_one c.args.wanted t store (AreRight (rows_in t store) t start new) old new begun (g.S.Shelf.history c.tell_tracked.new.shelf) c.args.child.now c.in-Some.entry c.in_ok-told.told.letter
    c.args.rows.now.items c.put_wanted.new.rows.items c.in-Some.is (c.in_ok-told.ensures.found t start begun store come) (c.in_ok-put_wanted.ensures (tracked_row c.args.child.now c.in-Some.entry) refl refl)

pub returns-clause-noted : goal.returns-clause-noted
returns-clause-noted g c = (notes_of c.args.child.now.path.text.now c.in_ok-told.told.seen, c.in_ok-note_seen.ensures, c.in_ok-told.ensures.noted)

-- ---- what is read

pub returns-in_default-clause-reads : goal.returns-in_default-clause-reads
returns-in_default-clause-reads g c = λ t start begun come told.
    let old = g.T.Tree.history c.args.tree.now in
    reads_nothing (walk_status c.args.wanted t start old begun (g.S.Shelf.history c.args.shelf.now)) old c.args.child.now.path.text.now refl

pub returns-in_err-told-clause-reads : goal.returns-in_err-told-clause-reads
returns-in_err-told-clause-reads g c = c.tell_tracked.ensures.reads

pub returns-in_err-put_wanted-clause-reads : goal.returns-in_err-put_wanted-clause-reads
returns-in_err-put_wanted-clause-reads g c = c.tell_tracked.ensures.reads

pub returns-in_err-note_seen-clause-reads : goal.returns-in_err-note_seen-clause-reads
returns-in_err-note_seen-clause-reads g c = c.tell_tracked.ensures.reads

pub returns-clause-reads : goal.returns-clause-reads
returns-clause-reads g c = c.tell_tracked.ensures.reads
