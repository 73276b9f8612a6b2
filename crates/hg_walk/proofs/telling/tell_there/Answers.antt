use Rattle.std.proofs.Common.{List, ℕ, None, Some, option_map, refl, sym, ap, ◌∙◌}
use Rattle.std.proofs.lemmas.Result.{err_from_is_err_and}
use Rattle.hg_entry.specs.Entry.{stamp_view}
use Rattle.hg_tree.specs.History as trees
use Rattle.hg_flat.specs.Judged.{IsLeftAsked}
use Rattle.hg_flat.specs.Parent.{WasAsked}
use Rattle.hg_flat.proofs.Asking.{asked_later}
use Rattle.hg_flat.proofs.Asks.{reads_none}
use Rattle.hg_flat.proofs.Judging.{letter_by}
use Rattle.hg_flat.proofs.Letters.{compared_by, found_marked, found_unread, plain_there}
use Rattle.hg_flat.proofs.Meeting.{met_at, met_compared}
use Rattle.hg_flat.proofs.Needing.{reads_nothing}
use Rattle.hg_walk.specs.Right.{AreRight}
use Rattle.hg_walk.specs.Telling.{tracked_row}
use Rattle.hg_walk.specs.Walking.{asked_unvouched, rows_in, walk_status}
use Rattle.hg_walk.proofs.Tells.{asked_here, asked_row, letter_found, reads_found, reads_needed, unasked_found, was_asked}
use Rattle.hg_walk.proofs.TellsNotes.{if_some_weaker, notes_found, notes_marked, notes_unwanted}
use Rattle.hg_walk.proofs.telling.tell_there.Goals as goal

-- ---- the marks decide

pub returns-in-Some-clause-goes : goal.returns-in-Some-clause-goes
returns-in-Some-clause-goes g c = λ t start begun come shown. come.goes

pub returns-in-Some-clause-found : goal.returns-in-Some-clause-found
returns-in-Some-clause-found g c = λ t start begun store come shown.
    let old = g.T.Tree.history c.args.tree.now in
    let files = g.S.Shelf.history c.args.shelf.now in
    let row = tracked_row c.args.child.now c.args.entry.now in
    let s = walk_status c.args.wanted t old old begun files in
    letter_by s.asks (AreRight (rows_in t store) t start old) (λ (p : List ℕ). IsLeftAsked store s.asks s.id old old.last files begun.last p) store s.id (trees.now old) c.args.wanted row
    (Some c.in-Some.letter) (asked_row c.args.wanted t c.args.child.now c.args.entry.now come.of c.requires.own (trees.now old))
    (found_marked (λ k. IsLeftAsked store s.asks s.id old old.last files begun.last k.path) store s.id (trees.now old) c.args.wanted row c.args.there.now c.in-Some.letter c.requires.tracked (λ meets. shown meets.own.told)
    (sym (c.letter_by_marks.ensures row refl (sym c.is_copy-copied.ensures)) ∙ c.in-Some.is))

pub returns-in-Some-clause-noted : goal.returns-in-Some-clause-noted
returns-in-Some-clause-noted g c = λ t start begun come shown.
    let old = g.T.Tree.history c.args.tree.now in
    let row = tracked_row c.args.child.now c.args.entry.now in
    notes_marked (walk_status c.args.wanted t old old begun (g.S.Shelf.history c.args.shelf.now)) t c.args.boundary c.args.child.now c.args.entry.now c.args.there.now c.in-Some.letter come.of c.requires.own shown
    (sym (c.letter_by_marks.ensures row refl (sym c.is_copy-copied.ensures)) ∙ c.in-Some.is)

pub returns-in-Some-clause-asked : goal.returns-in-Some-clause-asked
returns-in-Some-clause-asked g c = λ told shown t of.
    let old = g.T.Tree.history c.args.tree.now in reads_none (WasAsked (asked_unvouched c.args.wanted t) old old) old old refl

-- ---- no letter that bytes decide is wanted

pub returns-then-not-wants_bytes-clause-goes : goal.returns-then-not-wants_bytes-clause-goes
returns-then-not-wants_bytes-clause-goes g c = λ t start begun come shown. come.goes

pub returns-then-not-wants_bytes-clause-found : goal.returns-then-not-wants_bytes-clause-found
returns-then-not-wants_bytes-clause-found g c = λ t start begun store come shown.
    let old = g.T.Tree.history c.args.tree.now in
    let files = g.S.Shelf.history c.args.shelf.now in
    let row = tracked_row c.args.child.now c.args.entry.now in
    let s = walk_status c.args.wanted t old old begun files in
    letter_by s.asks (AreRight (rows_in t store) t start old) (λ (p : List ℕ). IsLeftAsked store s.asks s.id old old.last files begun.last p) store s.id (trees.now old) c.args.wanted row
    None (asked_row c.args.wanted t c.args.child.now c.args.entry.now come.of c.requires.own (trees.now old))
    (found_unread (λ k. IsLeftAsked store s.asks s.id old old.last files begun.last k.path) store s.id (trees.now old) c.args.wanted row c.args.there.now c.requires.tracked (λ meets. shown meets.own.told)
    (sym (c.letter_by_marks.ensures row refl (sym c.is_copy-copied.ensures)) ∙ c.in_default.is) (sym c.wants_bytes.ensures ∙ c.if-not-wants_bytes.true))

pub returns-then-not-wants_bytes-clause-noted : goal.returns-then-not-wants_bytes-clause-noted
returns-then-not-wants_bytes-clause-noted g c = λ t start begun come shown.
    let old = g.T.Tree.history c.args.tree.now in
    notes_unwanted (walk_status c.args.wanted t old old begun (g.S.Shelf.history c.args.shelf.now)) t c.args.boundary c.args.child.now (sym c.wants_bytes.ensures ∙ c.if-not-wants_bytes.true)

pub returns-then-not-wants_bytes-clause-asked : goal.returns-then-not-wants_bytes-clause-asked
returns-then-not-wants_bytes-clause-asked g c = λ told shown t of.
    let old = g.T.Tree.history c.args.tree.now in reads_none (WasAsked (asked_unvouched c.args.wanted t) old old) old old refl

-- ---- it is found by its entry or by a comparison

pub returns-clause-goes : goal.returns-clause-goes
returns-clause-goes g c = λ t start begun come shown.
    let old = g.T.Tree.history c.args.tree.now in
    let new = g.T.Tree.history c.find.new.tree in
    let row = tracked_row c.args.child.now c.args.entry.now in
    let plain = plain_there row c.args.there.now c.requires.tracked (sym (c.letter_by_marks.ensures row refl (sym c.is_copy-copied.ensures)) ∙ c.in_default.is) in
    let compared = compared_by c.args.wanted row (sym c.wants_bytes.ensures ∙ c.if-not-wants_bytes.false) plain.1 in
    (rw c.is_copy-copied.ensures at c.in_ok-found.ensures.goes) (walk_status c.args.wanted t start old begun (g.S.Shelf.history c.args.shelf.now)) come.goes
    (λ unvouched.
    asked_later (asked_unvouched c.args.wanted t) start old new c.args.child.now.path.text.now come.goes.tree.past
    (was_asked c.args.wanted t c.args.child.now c.args.entry.now come.of c.requires.own old new c.args.there.now c.find.ensures.tree_passes.past compared plain.0 unvouched shown))

pub returns-clause-found : goal.returns-clause-found
returns-clause-found g c = λ t start begun store come shown.
    let old = g.T.Tree.history c.args.tree.now in
    let new = g.T.Tree.history c.find.new.tree in
    let files = g.S.Shelf.history c.args.shelf.now in
    let later = g.S.Shelf.history c.find.new.shelf in
    let row = tracked_row c.args.child.now c.args.entry.now in
    let none = sym (c.letter_by_marks.ensures row refl (sym c.is_copy-copied.ensures)) ∙ c.in_default.is in
    let plain = plain_there row c.args.there.now c.requires.tracked none in
    let compared = compared_by c.args.wanted row (sym c.wants_bytes.ensures ∙ c.if-not-wants_bytes.false) plain.1 in
    letter_found c.args.wanted t c.args.child.now c.args.entry.now come.of c.requires.own store start old new begun files later c.args.parent.now c.args.there.now c.in_ok-found.found.letter c.requires.tracked come shown
    c.find.ensures.tree_passes.past none compared plain.0 ((rw c.is_copy-copied.ensures at c.in_ok-found.ensures.found) (walk_status c.args.wanted t start old begun files))

pub returns-clause-noted : goal.returns-clause-noted
returns-clause-noted g c = λ t start begun come shown.
    let old = g.T.Tree.history c.args.tree.now in
    let new = g.T.Tree.history c.find.new.tree in
    let files = g.S.Shelf.history c.args.shelf.now in
    let later = g.S.Shelf.history c.find.new.shelf in
    let row = tracked_row c.args.child.now c.args.entry.now in
    let none = sym (c.letter_by_marks.ensures row refl (sym c.is_copy-copied.ensures)) ∙ c.in_default.is in
    let plain = plain_there row c.args.there.now c.requires.tracked none in
    let compared = compared_by c.args.wanted row (sym c.wants_bytes.ensures ∙ c.if-not-wants_bytes.false) plain.1 in
    rw c.seen_by.ensures
    (notes_found c.args.wanted t start old new begun files later c.args.parent.now c.args.child.now c.args.entry.now c.args.there.now c.args.boundary c.in_ok-found.found.letter come c.requires.own shown
    c.find.ensures.tree_passes compared plain.0 c.in_ok-found.found.stamp
    (if_some_weaker (option_map stamp_view c.in_ok-found.found.stamp) _ _ (λ stamp earned. earned (walk_status c.args.wanted t start old begun files)) (rw c.is_copy-copied.ensures at c.in_ok-found.ensures.earned))
    (rw c.is_copy-copied.ensures at c.in_ok-found.ensures.noted) ((rw c.is_copy-copied.ensures at c.in_ok-found.ensures.recorded) (walk_status c.args.wanted t start old begun files)))

pub returns-clause-asked : goal.returns-clause-asked
returns-clause-asked g c = λ told shown t of.
    let old = g.T.Tree.history c.args.tree.now in
    let new = g.T.Tree.history c.find.new.tree in
    let row = tracked_row c.args.child.now c.args.entry.now in
    let plain = plain_there row c.args.there.now c.requires.tracked (sym (c.letter_by_marks.ensures row refl (sym c.is_copy-copied.ensures)) ∙ c.in_default.is) in
    let compared = compared_by c.args.wanted row (sym c.wants_bytes.ensures ∙ c.if-not-wants_bytes.false) plain.1 in
    reads_found c.args.wanted t c.args.child.now c.args.entry.now of c.requires.own old new c.args.there.now c.find.ensures.tree_passes.past compared plain.0 shown
    (λ vouched. ap g.T.Tree.history ((rw c.is_copy-copied.ensures at c.find.ensures.unread) vouched).0) (c.find.ensures.asked told)

pub returns-clause-unasked : goal.returns-clause-unasked
returns-clause-unasked g c = λ t of shown never.
    let old = g.T.Tree.history c.args.tree.now in
    let new = g.T.Tree.history c.find.new.tree in
    let row = tracked_row c.args.child.now c.args.entry.now in
    let plain = plain_there row c.args.there.now c.requires.tracked (sym (c.letter_by_marks.ensures row refl (sym c.is_copy-copied.ensures)) ∙ c.in_default.is) in
    let compared = compared_by c.args.wanted row (sym c.wants_bytes.ensures ∙ c.if-not-wants_bytes.false) plain.1 in
    unasked_found c.args.wanted t c.args.child.now c.args.entry.now of c.requires.own c.find.new.shelf c.args.shelf.now old new c.args.there.now c.find.ensures.tree_passes.past compared plain.0 shown
    (λ vouched. ((rw c.is_copy-copied.ensures at c.find.ensures.unread) vouched).1) never

-- ---- a comparison fails

pub returns-in_err-found-clause-asked : goal.returns-in_err-found-clause-asked
returns-in_err-found-clause-asked g c = λ told shown t of.
    let old = g.T.Tree.history c.args.tree.now in
    let new = g.T.Tree.history c.find.new.tree in
    let row = tracked_row c.args.child.now c.args.entry.now in
    let plain = plain_there row c.args.there.now c.requires.tracked (sym (c.letter_by_marks.ensures row refl (sym c.is_copy-copied.ensures)) ∙ c.in_default.is) in
    let compared = compared_by c.args.wanted row (sym c.wants_bytes.ensures ∙ c.if-not-wants_bytes.false) plain.1 in
    reads_found c.args.wanted t c.args.child.now c.args.entry.now of c.requires.own old new c.args.there.now c.find.ensures.tree_passes.past compared plain.0 shown
    (λ vouched. ap g.T.Tree.history ((rw c.is_copy-copied.ensures at c.find.ensures.unread) vouched).0) (c.find.ensures.asked told)

pub returns-in_err-found-clause-unasked : goal.returns-in_err-found-clause-unasked
returns-in_err-found-clause-unasked g c = λ t of shown never.
    let old = g.T.Tree.history c.args.tree.now in
    let new = g.T.Tree.history c.find.new.tree in
    let row = tracked_row c.args.child.now c.args.entry.now in
    let plain = plain_there row c.args.there.now c.requires.tracked (sym (c.letter_by_marks.ensures row refl (sym c.is_copy-copied.ensures)) ∙ c.in_default.is) in
    let compared = compared_by c.args.wanted row (sym c.wants_bytes.ensures ∙ c.if-not-wants_bytes.false) plain.1 in
    unasked_found c.args.wanted t c.args.child.now c.args.entry.now of c.requires.own c.find.new.shelf c.args.shelf.now old new c.args.there.now c.find.ensures.tree_passes.past compared plain.0 shown
    (λ vouched. ((rw c.is_copy-copied.ensures at c.find.ensures.unread) vouched).1) never

pub returns-in_err-found-clause-met : goal.returns-in_err-found-clause-met
returns-in_err-found-clause-met g c =
    let p = err_from_is_err_and c.from_residual.result c.from_residual.ensures.1 in
    let old = g.T.Tree.history c.args.tree.now in
    let new = g.T.Tree.history c.find.new.tree in
    let files = g.S.Shelf.history c.args.shelf.now in
    let later = g.S.Shelf.history c.find.new.shelf in
    let path = c.args.child.now.path.text.now in
    let row = tracked_row c.args.child.now c.args.entry.now in
    let plain = plain_there row c.args.there.now c.requires.tracked (sym (c.letter_by_marks.ensures row refl (sym c.is_copy-copied.ensures)) ∙ c.in_default.is) in
    let compared = compared_by c.args.wanted row (sym c.wants_bytes.ensures ∙ c.if-not-wants_bytes.false) plain.1 in
    let unvouched = rw c.is_copy-copied.ensures at c.in_err-found.ensures.kind in
    rw (p.1, p.2)
    (λ t start begun come shown.
    let s = walk_status c.args.wanted t start old begun files in
    met_compared s old new later path c.args.there.now come.goes.tree c.find.ensures.tree_passes
    (λ told. asked_here c.args.wanted t c.args.child.now c.args.entry.now come.of c.requires.own (trees.now old) c.args.there.now compared plain.0 unvouched (shown told))
    (asked_later s.asks start old new path come.goes.tree.past
    (was_asked c.args.wanted t c.args.child.now c.args.entry.now come.of c.requires.own old new c.args.there.now c.find.ensures.tree_passes.past compared plain.0 unvouched shown))
    shown c.in_err-found.field-0.0 (c.in_err-found.ensures.met s come.goes))

pub returns-in_err-found-clause-names : goal.returns-in_err-found-clause-names
returns-in_err-found-clause-names g c =
    let p = err_from_is_err_and c.from_residual.result c.from_residual.ensures.1 in
    let old = g.T.Tree.history c.args.tree.now in
    let new = g.T.Tree.history c.find.new.tree in
    let files = g.S.Shelf.history c.args.shelf.now in
    let later = g.S.Shelf.history c.find.new.shelf in
    let path = c.args.child.now.path.text.now in
    let row = tracked_row c.args.child.now c.args.entry.now in
    let plain = plain_there row c.args.there.now c.requires.tracked (sym (c.letter_by_marks.ensures row refl (sym c.is_copy-copied.ensures)) ∙ c.in_default.is) in
    let compared = compared_by c.args.wanted row (sym c.wants_bytes.ensures ∙ c.if-not-wants_bytes.false) plain.1 in
    let unvouched = rw c.is_copy-copied.ensures at c.in_err-found.ensures.kind in
    rw (p.1, p.2)
    (λ t start begun come shown.
    let s = walk_status c.args.wanted t start old begun files in
    met_at s old new later path c.args.there.now come.goes.tree c.find.ensures.tree_passes
    (λ told. asked_here c.args.wanted t c.args.child.now c.args.entry.now come.of c.requires.own (trees.now old) c.args.there.now compared plain.0 unvouched (shown told))
    (asked_later s.asks start old new path come.goes.tree.past
    (was_asked c.args.wanted t c.args.child.now c.args.entry.now come.of c.requires.own old new c.args.there.now c.find.ensures.tree_passes.past compared plain.0 unvouched shown))
    shown c.in_err-found.field-0.0 (c.in_err-found.ensures.met s come.goes))

pub returns-in_err-found-clause-store : goal.returns-in_err-found-clause-store
returns-in_err-found-clause-store g c =
    let p = err_from_is_err_and c.from_residual.result c.from_residual.ensures.1 in
    let old = g.T.Tree.history c.args.tree.now in
    let new = g.T.Tree.history c.find.new.tree in
    let files = g.S.Shelf.history c.args.shelf.now in
    let path = c.args.child.now.path.text.now in
    let row = tracked_row c.args.child.now c.args.entry.now in
    let plain = plain_there row c.args.there.now c.requires.tracked (sym (c.letter_by_marks.ensures row refl (sym c.is_copy-copied.ensures)) ∙ c.in_default.is) in
    let compared = compared_by c.args.wanted row (sym c.wants_bytes.ensures ∙ c.if-not-wants_bytes.false) plain.1 in
    let unvouched = rw c.is_copy-copied.ensures at c.in_err-found.ensures.kind in
    rw p.1
    (λ t start begun come shown told.
    c.in_err-found.ensures.store (walk_status c.args.wanted t start old begun files) come.goes
    (asked_later (asked_unvouched c.args.wanted t) start old new path come.goes.tree.past
    (was_asked c.args.wanted t c.args.child.now c.args.entry.now come.of c.requires.own old new c.args.there.now c.find.ensures.tree_passes.past compared plain.0 unvouched shown))
    told)

pub returns-in-Some-clause-reads : goal.returns-in-Some-clause-reads
returns-in-Some-clause-reads g c = λ t start begun come shown told.
    let old = g.T.Tree.history c.args.tree.now in
    reads_nothing (walk_status c.args.wanted t start old begun (g.S.Shelf.history c.args.shelf.now)) old c.args.child.now.path.text.now refl

pub returns-then-not-wants_bytes-clause-reads : goal.returns-then-not-wants_bytes-clause-reads
returns-then-not-wants_bytes-clause-reads g c = λ t start begun come shown told.
    let old = g.T.Tree.history c.args.tree.now in
    reads_nothing (walk_status c.args.wanted t start old begun (g.S.Shelf.history c.args.shelf.now)) old c.args.child.now.path.text.now refl

pub returns-in_err-found-clause-reads : goal.returns-in_err-found-clause-reads
returns-in_err-found-clause-reads g c = λ t start begun come shown told.
    let old = g.T.Tree.history c.args.tree.now in
    let new = g.T.Tree.history c.find.new.tree in
    let row = tracked_row c.args.child.now c.args.entry.now in
    let plain = plain_there row c.args.there.now c.requires.tracked (sym (c.letter_by_marks.ensures row refl (sym c.is_copy-copied.ensures)) ∙ c.in_default.is) in
    let compared = compared_by c.args.wanted row (sym c.wants_bytes.ensures ∙ c.if-not-wants_bytes.false) plain.1 in
    reads_needed c.args.wanted t c.args.child.now c.args.entry.now come.of c.requires.own start old new begun (g.S.Shelf.history c.args.shelf.now) (g.S.Shelf.history c.find.new.shelf) c.args.there.now come.goes.tree
    c.find.ensures.tree_passes compared plain.0 shown (λ vouched. ap (λ (h : trees.History). h.asked) (ap g.T.Tree.history ((rw c.is_copy-copied.ensures at c.find.ensures.unread) vouched).0)) (c.find.ensures.asked told)
    g.T.Tree.history c.find.new.tree c.args.tree.now refl refl (c.find.ensures.needed (walk_status c.args.wanted t start old begun (g.S.Shelf.history c.args.shelf.now)) come.goes)

pub returns-clause-reads : goal.returns-clause-reads
returns-clause-reads g c = λ t start begun come shown told.
    let old = g.T.Tree.history c.args.tree.now in
    let new = g.T.Tree.history c.find.new.tree in
    let row = tracked_row c.args.child.now c.args.entry.now in
    let plain = plain_there row c.args.there.now c.requires.tracked (sym (c.letter_by_marks.ensures row refl (sym c.is_copy-copied.ensures)) ∙ c.in_default.is) in
    let compared = compared_by c.args.wanted row (sym c.wants_bytes.ensures ∙ c.if-not-wants_bytes.false) plain.1 in
    reads_needed c.args.wanted t c.args.child.now c.args.entry.now come.of c.requires.own start old new begun (g.S.Shelf.history c.args.shelf.now) (g.S.Shelf.history c.find.new.shelf) c.args.there.now come.goes.tree
    c.find.ensures.tree_passes compared plain.0 shown (λ vouched. ap (λ (h : trees.History). h.asked) (ap g.T.Tree.history ((rw c.is_copy-copied.ensures at c.find.ensures.unread) vouched).0)) (c.find.ensures.asked told)
    g.T.Tree.history c.find.new.tree c.args.tree.now refl refl (c.find.ensures.needed (walk_status c.args.wanted t start old begun (g.S.Shelf.history c.args.shelf.now)) come.goes)
