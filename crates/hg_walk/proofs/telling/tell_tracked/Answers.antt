use Rattle.std.proofs.Common.{List, ℕ, [], ◌∷◌, None, Some, arith, refl, sym, ◌∙◌}
use Rattle.std.proofs.lemmas.Result.{IfErr-weaker, IfOk-weaker, err_from_is_err_and, on_ok_weaker}
use Rattle.hg_shelf.proofs.Histories as shelf
use Rattle.hg_tree.specs.History as trees
use Rattle.hg_tree.proofs.Histories.{extends_same}
use Rattle.hg_tree.proofs.Spans.{passes_same}
use Rattle.hg_compare.specs.declared.letter.Letter.TheVariants as a_letter
use Rattle.hg_flat.specs.Judged.{IsLeftAsked}
use Rattle.hg_flat.specs.Parent.{WasAsked}
use Rattle.hg_flat.proofs.Asking.{asked_later, reads_behind}
use Rattle.hg_flat.proofs.Asks.{asks_nothing, reads_none}
use Rattle.hg_flat.proofs.Going.{goes_on, goes_store}
use Rattle.hg_flat.proofs.Judging.{letter_by}
use Rattle.hg_flat.proofs.Letters.{found_gone, found_removed, found_unwanted}
use Rattle.hg_flat.proofs.Needing.{reads_after, reads_nothing}
use Rattle.hg_walk.specs.Right.{AreRight}
use Rattle.hg_walk.specs.Telling.{notes_of, tracked_row}
use Rattle.hg_walk.specs.Walking.{asked_unvouched, rows_in, walk_status}
use Rattle.hg_walk.proofs.Tells.{asked_row, letter_later}
use Rattle.hg_walk.specs.declared.mark.Mark.TheVariants as a_mark
use Rattle.hg_walk.proofs.TellsEach.{marked_by_look, unmarked_removed, unmarked_unlooked}
use Rattle.hg_walk.proofs.TellsNotes.{notes_gone, notes_later, notes_removed, notes_unlooked}
use Rattle.hg_walk.proofs.telling.tell_tracked.Goals as goal

-- ---- it isn't tracked any more

pub returns-then-not-entry-clause-goes : goal.returns-then-not-entry-clause-goes
returns-then-not-entry-clause-goes g c = λ t start begun come. come.goes

pub returns-then-not-entry-clause-found : goal.returns-then-not-entry-clause-found
returns-then-not-entry-clause-found g c = λ t start begun store come.
    let old = g.T.Tree.history c.args.tree.now in
    let files = g.S.Shelf.history c.args.shelf.now in
    let row = tracked_row c.args.child.now c.args.entry.now in
    let s = walk_status c.args.wanted t old old begun files in
    letter_by s.asks (AreRight (rows_in t store) t start old) (λ (p : List ℕ). IsLeftAsked store s.asks s.id old old.last files begun.last p) store s.id (trees.now old) c.args.wanted row
    (Some a_letter.R) (asked_row c.args.wanted t c.args.child.now c.args.entry.now come.of c.requires (trees.now old))
    (found_removed (λ k. IsLeftAsked store s.asks s.id old old.last files begun.last k.path) store s.id (trees.now old) c.args.wanted row c.if-not-entry.true)

pub returns-then-not-entry-clause-noted : goal.returns-then-not-entry-clause-noted
returns-then-not-entry-clause-noted g c = λ t start begun come.
    let old = g.T.Tree.history c.args.tree.now in
    notes_removed (walk_status c.args.wanted t old old begun (g.S.Shelf.history c.args.shelf.now)) t c.args.boundary c.args.child.now c.args.entry.now come.of c.requires c.if-not-entry.true

pub returns-then-not-entry-clause-marked : goal.returns-then-not-entry-clause-marked
returns-then-not-entry-clause-marked g c =
    let old = g.T.Tree.history c.args.tree.now in
    unmarked_removed c.args.wanted old old c.args.child.now c.args.entry.now c.requires c.if-not-entry.true

pub returns-then-not-entry-clause-asked : goal.returns-then-not-entry-clause-asked
returns-then-not-entry-clause-asked g c = λ told t of.
    let old = g.T.Tree.history c.args.tree.now in reads_none (WasAsked (asked_unvouched c.args.wanted t) old old) old old refl

-- ---- no letter is wanted that takes a look

pub returns-then-not-wants_tracked-clause-goes : goal.returns-then-not-wants_tracked-clause-goes
returns-then-not-wants_tracked-clause-goes g c = λ t start begun come. come.goes

pub returns-then-not-wants_tracked-clause-found : goal.returns-then-not-wants_tracked-clause-found
returns-then-not-wants_tracked-clause-found g c = λ t start begun store come.
    let old = g.T.Tree.history c.args.tree.now in
    let files = g.S.Shelf.history c.args.shelf.now in
    let row = tracked_row c.args.child.now c.args.entry.now in
    let s = walk_status c.args.wanted t old old begun files in
    letter_by s.asks (AreRight (rows_in t store) t start old) (λ (p : List ℕ). IsLeftAsked store s.asks s.id old old.last files begun.last p) store s.id (trees.now old) c.args.wanted row
    None (asked_row c.args.wanted t c.args.child.now c.args.entry.now come.of c.requires (trees.now old))
    (found_unwanted (λ k. IsLeftAsked store s.asks s.id old old.last files begun.last k.path) store s.id (trees.now old) c.args.wanted row c.if-not-entry.false (sym c.wants_tracked.ensures ∙ c.if-not-wants_tracked.true))

pub returns-then-not-wants_tracked-clause-noted : goal.returns-then-not-wants_tracked-clause-noted
returns-then-not-wants_tracked-clause-noted g c = λ t start begun come.
    let old = g.T.Tree.history c.args.tree.now in
    notes_unlooked (walk_status c.args.wanted t old old begun (g.S.Shelf.history c.args.shelf.now)) t c.args.boundary c.args.child.now (sym c.wants_tracked.ensures ∙ c.if-not-wants_tracked.true)

pub returns-then-not-wants_tracked-clause-marked : goal.returns-then-not-wants_tracked-clause-marked
returns-then-not-wants_tracked-clause-marked g c =
    let old = g.T.Tree.history c.args.tree.now in
    unmarked_unlooked c.args.wanted old old c.args.child.now (sym c.wants_tracked.ensures ∙ c.if-not-wants_tracked.true)

pub returns-then-not-wants_tracked-clause-asked : goal.returns-then-not-wants_tracked-clause-asked
returns-then-not-wants_tracked-clause-asked g c = λ told t of.
    let old = g.T.Tree.history c.args.tree.now in reads_none (WasAsked (asked_unvouched c.args.wanted t) old old) old old refl

-- ---- nothing stands there

pub returns-in_default-clause-goes : goal.returns-in_default-clause-goes
returns-in_default-clause-goes g c = λ t start begun come.
    let old = g.T.Tree.history c.args.tree.now in
    let mid = g.T.Tree.history c.stat.new.self in
    let files = g.S.Shelf.history c.args.shelf.now in
    goes_on (walk_status c.args.wanted t start old begun files) old mid files files c.args.parent.now c.stat.ensures.passes (shelf.passes_same files) refl come.goes

pub returns-in_default-clause-found : goal.returns-in_default-clause-found
returns-in_default-clause-found g c = λ t start begun store come.
    let old = g.T.Tree.history c.args.tree.now in
    let mid = g.T.Tree.history c.stat.new.self in
    let files = g.S.Shelf.history c.args.shelf.now in
    let row = tracked_row c.args.child.now c.args.entry.now in
    let s = walk_status c.args.wanted t mid mid begun files in
    letter_later c.args.wanted t store (AreRight (rows_in t store) t start mid) old mid mid begun files row (Some a_letter.Gone) c.stat.ensures.passes.past (extends_same mid)
    (letter_by s.asks (AreRight (rows_in t store) t start mid) (λ (p : List ℕ). IsLeftAsked store s.asks s.id mid mid.last files begun.last p) store s.id (trees.now mid) c.args.wanted row
    (Some a_letter.Gone) (asked_row c.args.wanted t c.args.child.now c.args.entry.now come.of c.requires (trees.now mid))
    (found_gone (λ k. IsLeftAsked store s.asks s.id mid mid.last files begun.last k.path) store s.id (trees.now mid) c.args.wanted row c.if-not-entry.false
    (λ meets. sym (c.in_ok-there.ensures.found (sym c.stat.ensures.passes.past.told ∙ meets.own.told)) ∙ c.in_default.is)))

pub returns-in_default-clause-noted : goal.returns-in_default-clause-noted
returns-in_default-clause-noted g c = λ t start begun come.
    let old = g.T.Tree.history c.args.tree.now in
    let mid = g.T.Tree.history c.stat.new.self in
    notes_gone (walk_status c.args.wanted t old mid begun (g.S.Shelf.history c.args.shelf.now)) t c.args.boundary c.args.child.now c.stat.ensures.passes (λ told. sym (c.in_ok-there.ensures.found told) ∙ c.in_default.is)

pub returns-in_default-clause-marked : goal.returns-in_default-clause-marked
returns-in_default-clause-marked g c =
    let old = g.T.Tree.history c.args.tree.now in
    let mid = g.T.Tree.history c.stat.new.self in
    marked_by_look c.args.wanted old mid mid c.args.child.now None a_mark.Nothing c.stat.ensures.passes (passes_same mid) c.in_ok-there.ensures.formed (λ told. sym (c.in_ok-there.ensures.found told) ∙ c.in_default.is) refl

pub returns-in_default-clause-asked : goal.returns-in_default-clause-asked
returns-in_default-clause-asked g c = λ told t of.
    let old = g.T.Tree.history c.args.tree.now in
    let mid = g.T.Tree.history c.stat.new.self in
    reads_none (WasAsked (asked_unvouched c.args.wanted t) old mid) old mid (asks_nothing _ old mid (c.stat.ensures.asked told))

-- ---- the look fails

pub returns-in_err-there-clause-asked : goal.returns-in_err-there-clause-asked
returns-in_err-there-clause-asked g c = λ told t of.
    let old = g.T.Tree.history c.args.tree.now in
    let mid = g.T.Tree.history c.stat.new.self in
    reads_none (WasAsked (asked_unvouched c.args.wanted t) old mid) old mid (asks_nothing _ old mid (c.stat.ensures.asked told))

pub returns-in_err-there-clause-store : goal.returns-in_err-there-clause-store
returns-in_err-there-clause-store g c =
    let p = err_from_is_err_and c.from_residual.result c.from_residual.ensures.1 in
    let old = g.T.Tree.history c.args.tree.now in
    let mid = g.T.Tree.history c.stat.new.self in
    let files = g.S.Shelf.history c.args.shelf.now in
    rw p.1
    (λ t start begun come told.
    let s = walk_status c.args.wanted t start old begun files in
    goes_store s mid files c.args.parent.now (goes_on s old mid files files c.args.parent.now c.stat.ensures.passes (shelf.passes_same files) refl come.goes) told)

-- ---- something stands there

pub returns-clause-goes : goal.returns-clause-goes
returns-clause-goes g c =
    let old = g.T.Tree.history c.args.tree.now in
    let mid = g.T.Tree.history c.stat.new.self in
    let files = g.S.Shelf.history c.args.shelf.now in
    on_ok_weaker c.tell_there.result
    (λ on t start begun come.
    on t start begun
    (record { of = come.of; goes = goes_on (walk_status c.args.wanted t start old begun files) old mid files files c.args.parent.now c.stat.ensures.passes (shelf.passes_same files) refl come.goes })
    (λ told. sym (c.in_ok-there.ensures.found (sym c.stat.ensures.passes.past.told ∙ told)) ∙ c.in-Some.is))
    c.tell_there.ensures.goes

pub returns-clause-found : goal.returns-clause-found
returns-clause-found g c =
    let old = g.T.Tree.history c.args.tree.now in
    let mid = g.T.Tree.history c.stat.new.self in
    let new = g.T.Tree.history c.tell_there.new.tree in
    let files = g.S.Shelf.history c.args.shelf.now in
    let later = g.S.Shelf.history c.tell_there.new.shelf in
    let row = tracked_row c.args.child.now c.args.entry.now in
    IfOk-weaker c.tell_there.result _ _
    (λ told found t start begun store come.
    letter_later c.args.wanted t store (AreRight (rows_in t store) t start new) old mid new begun later row told.letter c.stat.ensures.passes.past c.tell_there.ensures.passes.past
    (found t start begun store
    (record { of = come.of; goes = goes_on (walk_status c.args.wanted t start old begun files) old mid files files c.args.parent.now c.stat.ensures.passes (shelf.passes_same files) refl come.goes })
    (λ told. sym (c.in_ok-there.ensures.found (sym c.stat.ensures.passes.past.told ∙ told)) ∙ c.in-Some.is)))
    c.tell_there.ensures.found

pub returns-clause-noted : goal.returns-clause-noted
returns-clause-noted g c =
    let old = g.T.Tree.history c.args.tree.now in
    let mid = g.T.Tree.history c.stat.new.self in
    let new = g.T.Tree.history c.tell_there.new.tree in
    let files = g.S.Shelf.history c.args.shelf.now in
    let later = g.S.Shelf.history c.tell_there.new.shelf in
    IfOk-weaker c.tell_there.result _ _
    (λ told noted t start begun come.
    notes_later c.args.wanted t old mid new begun later c.args.boundary (c.args.child.now ∷ []) (notes_of c.args.child.now.path.text.now told.seen) c.stat.ensures.passes c.tell_there.ensures.passes
    (omega (arith, come.goes.shelf.past.later, c.tell_there.ensures.passes_shelf.past.later))
    (noted t start begun
    (record { of = come.of; goes = goes_on (walk_status c.args.wanted t start old begun files) old mid files files c.args.parent.now c.stat.ensures.passes (shelf.passes_same files) refl come.goes })
    (λ told. sym (c.in_ok-there.ensures.found (sym c.stat.ensures.passes.past.told ∙ told)) ∙ c.in-Some.is)))
    c.tell_there.ensures.noted

pub returns-clause-marked : goal.returns-clause-marked
returns-clause-marked g c =
    let old = g.T.Tree.history c.args.tree.now in
    let mid = g.T.Tree.history c.stat.new.self in
    let new = g.T.Tree.history c.tell_there.new.tree in
    IfOk-weaker c.tell_there.result _ _
    (λ told marked.
    marked_by_look c.args.wanted old mid new c.args.child.now (Some c.in-Some.there) told.mark c.stat.ensures.passes c.tell_there.ensures.passes c.in_ok-there.ensures.formed
    (λ is. sym (c.in_ok-there.ensures.found is) ∙ c.in-Some.is) marked)
    c.tell_there.ensures.marked

pub returns-clause-asked : goal.returns-clause-asked
returns-clause-asked g c = λ told t of.
    let old = g.T.Tree.history c.args.tree.now in
    let mid = g.T.Tree.history c.stat.new.self in
    let new = g.T.Tree.history c.tell_there.new.tree in
    reads_behind (asked_unvouched c.args.wanted t) old mid new c.stat.ensures.passes.past (asks_nothing _ old mid (c.stat.ensures.asked told))
    (c.tell_there.ensures.asked (c.stat.ensures.passes.past.told ∙ told) (λ is. sym (c.in_ok-there.ensures.found told) ∙ c.in-Some.is) t of)

pub returns-clause-unasked : goal.returns-clause-unasked
returns-clause-unasked g c = λ t of never.
    let old = g.T.Tree.history c.args.tree.now in
    let mid = g.T.Tree.history c.stat.new.self in
    let new = g.T.Tree.history c.tell_there.new.tree in
    c.tell_there.ensures.unasked t of (λ is. sym (c.in_ok-there.ensures.found (sym c.stat.ensures.passes.past.told ∙ is)) ∙ c.in-Some.is)
    (λ was. never (asked_later (asked_unvouched c.args.wanted t) old mid new c.args.child.now.path.text.now c.stat.ensures.passes.past was))

pub returns-clause-met : goal.returns-clause-met
returns-clause-met g c =
    let old = g.T.Tree.history c.args.tree.now in
    let mid = g.T.Tree.history c.stat.new.self in
    let files = g.S.Shelf.history c.args.shelf.now in
    IfErr-weaker c.tell_there.result _ _
    (λ fault met t start begun come.
    met t start begun
    (record { of = come.of; goes = goes_on (walk_status c.args.wanted t start old begun files) old mid files files c.args.parent.now c.stat.ensures.passes (shelf.passes_same files) refl come.goes })
    (λ told. sym (c.in_ok-there.ensures.found (sym c.stat.ensures.passes.past.told ∙ told)) ∙ c.in-Some.is))
    c.tell_there.ensures.met

pub returns-clause-names : goal.returns-clause-names
returns-clause-names g c =
    let old = g.T.Tree.history c.args.tree.now in
    let mid = g.T.Tree.history c.stat.new.self in
    let files = g.S.Shelf.history c.args.shelf.now in
    IfErr-weaker c.tell_there.result _ _
    (λ fault met t start begun come.
    met t start begun
    (record { of = come.of; goes = goes_on (walk_status c.args.wanted t start old begun files) old mid files files c.args.parent.now c.stat.ensures.passes (shelf.passes_same files) refl come.goes })
    (λ told. sym (c.in_ok-there.ensures.found (sym c.stat.ensures.passes.past.told ∙ told)) ∙ c.in-Some.is))
    c.tell_there.ensures.names

pub returns-clause-store : goal.returns-clause-store
returns-clause-store g c =
    let old = g.T.Tree.history c.args.tree.now in
    let mid = g.T.Tree.history c.stat.new.self in
    let files = g.S.Shelf.history c.args.shelf.now in
    IfErr-weaker c.tell_there.result _ _
    (λ fault store t start begun come.
    store t start begun
    (record { of = come.of; goes = goes_on (walk_status c.args.wanted t start old begun files) old mid files files c.args.parent.now c.stat.ensures.passes (shelf.passes_same files) refl come.goes })
    (λ told. sym (c.in_ok-there.ensures.found (sym c.stat.ensures.passes.past.told ∙ told)) ∙ c.in-Some.is))
    c.tell_there.ensures.store

pub returns-then-not-entry-clause-reads : goal.returns-then-not-entry-clause-reads
returns-then-not-entry-clause-reads g c = λ t start begun come told.
    let old = g.T.Tree.history c.args.tree.now in
    reads_nothing (walk_status c.args.wanted t start old begun (g.S.Shelf.history c.args.shelf.now)) old c.args.child.now.path.text.now refl

pub returns-then-not-wants_tracked-clause-reads : goal.returns-then-not-wants_tracked-clause-reads
returns-then-not-wants_tracked-clause-reads g c = λ t start begun come told.
    let old = g.T.Tree.history c.args.tree.now in
    reads_nothing (walk_status c.args.wanted t start old begun (g.S.Shelf.history c.args.shelf.now)) old c.args.child.now.path.text.now refl

pub returns-in_default-clause-reads : goal.returns-in_default-clause-reads
returns-in_default-clause-reads g c = λ t start begun come told.
    let old = g.T.Tree.history c.args.tree.now in
    let mid = g.T.Tree.history c.stat.new.self in
    reads_nothing (walk_status c.args.wanted t start mid begun (g.S.Shelf.history c.args.shelf.now)) old c.args.child.now.path.text.now (asks_nothing _ old mid (c.stat.ensures.asked told))

pub returns-in_err-there-clause-reads : goal.returns-in_err-there-clause-reads
returns-in_err-there-clause-reads g c = λ t start begun come told.
    let old = g.T.Tree.history c.args.tree.now in
    let mid = g.T.Tree.history c.stat.new.self in
    reads_nothing (walk_status c.args.wanted t start mid begun (g.S.Shelf.history c.args.shelf.now)) old c.args.child.now.path.text.now (asks_nothing _ old mid (c.stat.ensures.asked told))

pub returns-clause-reads : goal.returns-clause-reads
returns-clause-reads g c = λ t start begun come told.
    let old = g.T.Tree.history c.args.tree.now in
    let mid = g.T.Tree.history c.stat.new.self in
    let files = g.S.Shelf.history c.args.shelf.now in
    reads_after (walk_status c.args.wanted t start (g.T.Tree.history c.tell_there.new.tree) begun (g.S.Shelf.history c.tell_there.new.shelf)) old mid c.args.child.now.path.text.now (asks_nothing _ old mid (c.stat.ensures.asked told))
    (c.tell_there.ensures.reads t start begun
    (record { of = come.of; goes = goes_on (walk_status c.args.wanted t start old begun files) old mid files files c.args.parent.now c.stat.ensures.passes (shelf.passes_same files) refl come.goes })
    (λ told. sym (c.in_ok-there.ensures.found (sym c.stat.ensures.passes.past.told ∙ told)) ∙ c.in-Some.is) (c.stat.ensures.passes.past.told ∙ told))
