use Rattle.std.proofs.Common.{◌≡◌, ◌<◌, ◌+◌, List, [], ◌∷◌, ◌++◌, length, take, refl, sym, ap, ◌∙◌, subst}
use Rattle.std.specs.List.{Contains}
use Rattle.std.proofs.lemmas.List.{append-nil, append_assoc, take_all, take_more}
use Rattle.std.proofs.lemmas.Result.{err_from_is_err_and}
use Rattle.hg_flat.specs.Parent.{WasAsked}
use Rattle.hg_flat.proofs.Asking.{asked_later, asked_longer, reads_on}
use Rattle.hg_flat.proofs.Asks.{reads_none}
use Rattle.hg_flat.proofs.First.{before_by, first_by}
use Rattle.hg_flat.proofs.Going.{goes_store}
use Rattle.hg_flat.proofs.Needing.{reads_empty}
use Rattle.hg_mixed.specs.Gathered.{path_of}
use Rattle.hg_mixed.specs.declared.line.Line.{Line}
use Rattle.hg_shelf.proofs.Histories as shelf
use Rattle.hg_shelf.proofs.Scenes.{goes_same, goes_trans}
use Rattle.hg_tree.specs.History as trees
use Rattle.hg_tree.proofs.Spans.{passes_same, passes_trans}
use Rattle.hg_walk.specs.Right.{AreRight}
use Rattle.hg_walk.specs.Telling.{AreNotesOf, MarksEach, TellsEach, tracked_rows, with_clean_notes}
use Rattle.hg_walk.specs.Walking.{asked_unvouched, first_id, rows_in, walk_status}
use Rattle.hg_walk.specs.declared.mark.Mark.{Mark}
use Rattle.hg_walk.proofs.Earlier.{reads_more, row_before}
use Rattle.hg_walk.proofs.Parts.{right_in_first}
use Rattle.hg_walk.proofs.TellsEach.{marks_more, marks_none, tells_more, tells_none}
use Rattle.hg_walk.proofs.TellsNotes.{notes_empty, notes_more}
use Rattle.hg_walk.proofs.telling.tell_each.Goals as goal

pub loop-child-init : goal.loop-child-init
loop-child-init g c =
    let old = g.T.Tree.history c.args.tree.now in
    let files = g.S.Shelf.history c.args.shelf.now in
    record {
      passes = passes_same old;
      passes_shelf = shelf.passes_same files;
      goes = λ t of. c.new-parent.ensures.starts (walk_status c.args.wanted t old old files files) of.first (passes_same old) (shelf.passes_same files) refl;
      kept = goes_same _;
      held = refl;
      added = λ t store of. tells_none c.args.wanted t store (AreRight (rows_in t store) t old old) old old files files c.args.rows.now.items;
      marked = marks_none c.args.wanted old old c.args.marks.now.items;
      noted = ([], (λ i. record c.args.notes.now { clean = sym (append-nil c.args.notes.now.clean) i }), λ t of. notes_empty (walk_status c.args.wanted t old old files files) t c.args.boundary);
      asked = λ told t of. reads_none (WasAsked (asked_unvouched c.args.wanted t) old old) old old refl;
      reads = λ told t of. reads_empty (walk_status c.args.wanted t old old files files) refl;
      unasked = λ t of none. refl;
      still = refl;
      shelf_still = refl;
    }

pub loop-child-preserved : goal.loop-child-preserved
loop-child-preserved g c =
    let old = g.T.Tree.history c.args.tree.now in
    let mid = g.T.Tree.history c.loop-child.tree in
    let new = g.T.Tree.history c.tell_one.new.tree in
    let begun = g.S.Shelf.history c.args.shelf.now in
    let files = g.S.Shelf.history c.loop-child.shelf in
    let later = g.S.Shelf.history c.tell_one.new.shelf in
    let child = c.child-item.result in
    let so_far = take c.loop-child.child-index c.args.children.now in
    let below : c.loop-child.child-index < length c.args.children.now = c.loop-child-test.true in
    let has : Contains c.args.children.now child = (c.loop-child.child-index, below, sym c.child-item.is) in
    let one_more : take (c.loop-child.child-index + 1) c.args.children.now ≡ so_far ++ child ∷ [] =
    take_more c.args.children.now c.loop-child.child-index child below ∙ ap (λ (r : Line). so_far ++ r ∷ []) (sym c.child-item.is) in
    record {
      passes = passes_trans old mid new c.loop-child.invariant.passes c.tell_one.ensures.passes;
      passes_shelf = shelf.passes_trans begun files later c.loop-child.invariant.passes_shelf c.tell_one.ensures.passes_shelf;
      goes = λ t of. c.in_ok-mark.ensures.goes t old begun (record { of = of.each child has; goes = c.loop-child.invariant.goes t of });
      kept = goes_trans _ _ _ c.loop-child.invariant.kept c.tell_one.ensures.kept;
      held = c.tell_one.ensures.held ∙ c.loop-child.invariant.held;
      added = λ t store of.
          subst
          (λ (l : List Line). TellsEach store (AreRight (rows_in t store) t old new) (walk_status c.args.wanted t old new begun later) l c.args.rows.now.items c.tell_one.new.rows.items) (sym one_more)
          (tells_more c.args.wanted t store (AreRight (rows_in t store) t old mid) (AreRight (rows_in t store) t old new) (AreRight (rows_in t store) t old new)
          (right_in_first (rows_in t store) t old mid new c.tell_one.ensures.passes.past) (λ right. right) old mid new begun files later c.loop-child.invariant.passes.past c.tell_one.ensures.passes.past
          c.tell_one.ensures.passes_shelf.past so_far (child ∷ []) c.args.rows.now.items c.loop-child.rows.items c.tell_one.new.rows.items
          (c.loop-child.invariant.added t store of) (c.in_ok-mark.ensures.row t old begun store (record { of = of.each child has; goes = c.loop-child.invariant.goes t of })));
      marked =
          subst (λ (l : List Mark). MarksEach c.args.wanted old new (take (c.loop-child.child-index + 1) c.args.children.now) c.args.marks.now.items l) (sym c.in_ok-push.ensures.items)
          (subst (λ (l : List Line). MarksEach c.args.wanted old new l c.args.marks.now.items (c.loop-child.marks.items ++ c.in_ok-mark.mark ∷ [])) (sym one_more)
          (marks_more c.args.wanted old mid new c.loop-child.invariant.passes c.tell_one.ensures.passes so_far child c.in_ok-mark.mark c.args.marks.now.items c.loop-child.marks.items c.loop-child.invariant.marked
          c.in_ok-mark.ensures.marked));
      noted =
          let before = c.loop-child.invariant.noted in
          let own = c.in_ok-mark.ensures.noted in (
            before.0 ++ own.0,
            own.1 ∙ (λ i. with_clean_notes own.0 (before.1 i)) ∙ (λ i. record c.args.notes.now { clean = append_assoc c.args.notes.now.clean before.0 own.0 i }),
            λ t of.
                subst (λ (l : List Line). AreNotesOf (walk_status c.args.wanted t old new begun later) t c.args.boundary l (before.0 ++ own.0)) (sym one_more)
                (notes_more c.args.wanted t old mid new begun files later c.args.boundary so_far (child ∷ []) before.0 own.0 c.loop-child.invariant.passes c.tell_one.ensures.passes c.tell_one.ensures.passes_shelf.past
                c.loop-child.invariant.passes_shelf.past.later (before.2 t of) (own.2 t old begun (record { of = of.each child has; goes = c.loop-child.invariant.goes t of }))),
          );
      asked = λ told t of.
          reads_on (asked_unvouched c.args.wanted t) old mid new c.loop-child.invariant.passes.past c.tell_one.ensures.passes.past (c.loop-child.invariant.asked told t of)
          (c.tell_one.ensures.asked (c.loop-child.invariant.passes.past.told ∙ told) t (of.each child has));
      reads = λ told t of.
          reads_more c.args.wanted t old mid new begun files later so_far child (take (c.loop-child.child-index + 1) c.args.children.now) one_more c.tell_one.ensures.passes c.loop-child.invariant.passes_shelf c.tell_one.ensures.passes_shelf
          (c.loop-child.invariant.reads told t of)
          (c.tell_one.ensures.reads t old begun (record { of = of.each child has; goes = c.loop-child.invariant.goes t of }) (c.loop-child.invariant.passes.past.told ∙ told));
      unasked = λ t of none.
          c.tell_one.ensures.unasked t (of.each child has) (λ was. none child.path.text.now (asked_later (asked_unvouched c.args.wanted t) old mid new child.path.text.now c.loop-child.invariant.passes.past was))
          ∙ c.loop-child.invariant.unasked t of
          (λ path was. none path (asked_longer (asked_unvouched c.args.wanted t) old mid new path c.loop-child.invariant.passes.past c.tell_one.ensures.passes.past was));
      still = c.in_ok-mark.ensures.cause.quiet ∙ c.loop-child.invariant.still;
      shelf_still = c.in_ok-mark.ensures.cause_shelf.quiet ∙ c.loop-child.invariant.shelf_still;
    }

-- ---- a fault of one child

pub returns-in_err-mark-clause-kept : goal.returns-in_err-mark-clause-kept
returns-in_err-mark-clause-kept g c = goes_trans _ _ _ c.loop-child.invariant.kept c.tell_one.ensures.kept

pub returns-in_err-mark-clause-met : goal.returns-in_err-mark-clause-met
returns-in_err-mark-clause-met g c =
    let p = err_from_is_err_and c.from_residual.result c.from_residual.ensures.1 in
    let has : Contains c.args.children.now c.child-item.result = (c.loop-child.child-index, c.loop-child-test.true, sym c.child-item.is) in
    rw (p.1, p.2)
    (λ t of.
    c.in_err-mark.ensures.met t (g.T.Tree.history c.args.tree.now) (g.S.Shelf.history c.args.shelf.now) (record { of = of.each c.child-item.result has; goes = c.loop-child.invariant.goes t of }))

pub returns-in_err-mark-clause-first : goal.returns-in_err-mark-clause-first
returns-in_err-mark-clause-first g c =
    let p = err_from_is_err_and c.from_residual.result c.from_residual.ensures.1 in
    let old = g.T.Tree.history c.args.tree.now in
    let mid = g.T.Tree.history c.loop-child.tree in
    let new = g.T.Tree.history c.tell_one.new.tree in
    let begun = g.S.Shelf.history c.args.shelf.now in
    let files = g.S.Shelf.history c.loop-child.shelf in
    let later = g.S.Shelf.history c.tell_one.new.shelf in
    let child = c.child-item.result in
    let has : Contains c.args.children.now child = (c.loop-child.child-index, c.loop-child-test.true, sym c.child-item.is) in
    rw (p.1, p.2)
    (λ t of all.
    first_by (walk_status c.args.wanted t old new begun later) (path_of child)
    (before_by (asked_unvouched c.args.wanted t) (λ store. AreRight (rows_in t store) t old mid) c.args.wanted (first_id t) old mid new c.loop-child.invariant.passes.past c.tell_one.ensures.passes.past begun files later
    c.tell_one.ensures.passes_shelf.past c.loop-child.invariant.passes_shelf.past.later (tracked_rows (take c.loop-child.child-index c.args.children.now)) c.args.rows.now.items c.loop-child.rows.items
    (λ store. c.loop-child.invariant.added t store of) (path_of child)
    (row_before c.args.wanted t c.args.p1.now c.args.children.now of all (trees.now old) c.loop-child.child-index child c.loop-child-test.true (sym c.child-item.is)))
    c.in_err-mark.field-0.0 (c.in_err-mark.ensures.names t old begun (record { of = of.each child has; goes = c.loop-child.invariant.goes t of })))

pub returns-in_err-mark-clause-asked : goal.returns-in_err-mark-clause-asked
returns-in_err-mark-clause-asked g c = λ told t of.
    let old = g.T.Tree.history c.args.tree.now in
    let mid = g.T.Tree.history c.loop-child.tree in
    let new = g.T.Tree.history c.tell_one.new.tree in
    let has : Contains c.args.children.now c.child-item.result = (c.loop-child.child-index, c.loop-child-test.true, sym c.child-item.is) in
    reads_on (asked_unvouched c.args.wanted t) old mid new c.loop-child.invariant.passes.past c.tell_one.ensures.passes.past (c.loop-child.invariant.asked told t of)
    (c.tell_one.ensures.asked (c.loop-child.invariant.passes.past.told ∙ told) t (of.each c.child-item.result has))

pub returns-in_err-mark-clause-unasked : goal.returns-in_err-mark-clause-unasked
returns-in_err-mark-clause-unasked g c = λ t of none.
    let old = g.T.Tree.history c.args.tree.now in
    let mid = g.T.Tree.history c.loop-child.tree in
    let new = g.T.Tree.history c.tell_one.new.tree in
    let child = c.child-item.result in
    let has : Contains c.args.children.now child = (c.loop-child.child-index, c.loop-child-test.true, sym c.child-item.is) in
    c.tell_one.ensures.unasked t (of.each child has) (λ was. none child.path.text.now (asked_later (asked_unvouched c.args.wanted t) old mid new child.path.text.now c.loop-child.invariant.passes.past was))
    ∙ c.loop-child.invariant.unasked t of (λ path was. none path (asked_longer (asked_unvouched c.args.wanted t) old mid new path c.loop-child.invariant.passes.past c.tell_one.ensures.passes.past was))

pub returns-in_err-mark-clause-store : goal.returns-in_err-mark-clause-store
returns-in_err-mark-clause-store g c = λ told t of.
    let has : Contains c.args.children.now c.child-item.result = (c.loop-child.child-index, c.loop-child-test.true, sym c.child-item.is) in
    c.in_err-mark.ensures.store t (g.T.Tree.history c.args.tree.now) (g.S.Shelf.history c.args.shelf.now) (record { of = of.each c.child-item.result has; goes = c.loop-child.invariant.goes t of }) told

-- ---- a mark isn't kept, for want of memory

pub returns-in_err-push-clause-kept : goal.returns-in_err-push-clause-kept
returns-in_err-push-clause-kept g c = goes_trans _ _ _ c.loop-child.invariant.kept c.tell_one.ensures.kept

pub returns-in_err-push-clause-asked : goal.returns-in_err-push-clause-asked
returns-in_err-push-clause-asked g c = λ told t of.
    let old = g.T.Tree.history c.args.tree.now in
    let mid = g.T.Tree.history c.loop-child.tree in
    let new = g.T.Tree.history c.tell_one.new.tree in
    let has : Contains c.args.children.now c.child-item.result = (c.loop-child.child-index, c.loop-child-test.true, sym c.child-item.is) in
    reads_on (asked_unvouched c.args.wanted t) old mid new c.loop-child.invariant.passes.past c.tell_one.ensures.passes.past (c.loop-child.invariant.asked told t of)
    (c.tell_one.ensures.asked (c.loop-child.invariant.passes.past.told ∙ told) t (of.each c.child-item.result has))

pub returns-in_err-push-clause-unasked : goal.returns-in_err-push-clause-unasked
returns-in_err-push-clause-unasked g c = λ t of none.
    let old = g.T.Tree.history c.args.tree.now in
    let mid = g.T.Tree.history c.loop-child.tree in
    let new = g.T.Tree.history c.tell_one.new.tree in
    let child = c.child-item.result in
    let has : Contains c.args.children.now child = (c.loop-child.child-index, c.loop-child-test.true, sym c.child-item.is) in
    c.tell_one.ensures.unasked t (of.each child has) (λ was. none child.path.text.now (asked_later (asked_unvouched c.args.wanted t) old mid new child.path.text.now c.loop-child.invariant.passes.past was))
    ∙ c.loop-child.invariant.unasked t of (λ path was. none path (asked_longer (asked_unvouched c.args.wanted t) old mid new path c.loop-child.invariant.passes.past c.tell_one.ensures.passes.past was))

pub returns-in_err-push-clause-store : goal.returns-in_err-push-clause-store
returns-in_err-push-clause-store g c = λ told t of.
    let old = g.T.Tree.history c.args.tree.now in
    let begun = g.S.Shelf.history c.args.shelf.now in
    let has : Contains c.args.children.now c.child-item.result = (c.loop-child.child-index, c.loop-child-test.true, sym c.child-item.is) in
    goes_store (walk_status c.args.wanted t old old begun begun) (g.T.Tree.history c.tell_one.new.tree) (g.S.Shelf.history c.tell_one.new.shelf) c.tell_one.new.parent
    (c.in_ok-mark.ensures.goes t old begun (record { of = of.each c.child-item.result has; goes = c.loop-child.invariant.goes t of })) told

-- ---- all children

pub returns-clause-added : goal.returns-clause-added
returns-clause-added g c = λ t store of.
    let old = g.T.Tree.history c.args.tree.now in
    let new = g.T.Tree.history c.loop-child.tree in
    let begun = g.S.Shelf.history c.args.shelf.now in
    subst
    (λ (l : List Line). TellsEach store (AreRight (rows_in t store) t old new) (walk_status c.args.wanted t old new begun (g.S.Shelf.history c.loop-child.shelf)) l c.args.rows.now.items c.loop-child.rows.items)
    (take_all c.loop-child.child-index c.args.children.now c.loop-child-test.false) (c.loop-child.invariant.added t store of)

pub returns-clause-store : goal.returns-clause-store
returns-clause-store g c = λ told t of.
    let old = g.T.Tree.history c.args.tree.now in
    let begun = g.S.Shelf.history c.args.shelf.now in
    goes_store (walk_status c.args.wanted t old old begun begun) (g.T.Tree.history c.loop-child.tree) (g.S.Shelf.history c.loop-child.shelf) c.loop-child.parent (c.loop-child.invariant.goes t of) told

pub returns-in_err-mark-clause-reads : goal.returns-in_err-mark-clause-reads
returns-in_err-mark-clause-reads g c = λ told t of.
    let old = g.T.Tree.history c.args.tree.now in
    let mid = g.T.Tree.history c.loop-child.tree in
    let new = g.T.Tree.history c.tell_one.new.tree in
    let begun = g.S.Shelf.history c.args.shelf.now in
    let files = g.S.Shelf.history c.loop-child.shelf in
    let later = g.S.Shelf.history c.tell_one.new.shelf in
    let child = c.child-item.result in
    let has : Contains c.args.children.now child = (c.loop-child.child-index, c.loop-child-test.true, sym c.child-item.is) in
    let so_far = take c.loop-child.child-index c.args.children.now in
    let one_more : take (c.loop-child.child-index + 1) c.args.children.now ≡ so_far ++ child ∷ [] =
    take_more c.args.children.now c.loop-child.child-index child c.loop-child-test.true ∙ ap (λ (r : Line). so_far ++ r ∷ []) (sym c.child-item.is) in (
      c.loop-child.child-index + 1,
      reads_more c.args.wanted t old mid new begun files later so_far child (take (c.loop-child.child-index + 1) c.args.children.now) one_more c.tell_one.ensures.passes c.loop-child.invariant.passes_shelf c.tell_one.ensures.passes_shelf
          (c.loop-child.invariant.reads told t of)
          (c.tell_one.ensures.reads t old begun (record { of = of.each child has; goes = c.loop-child.invariant.goes t of }) (c.loop-child.invariant.passes.past.told ∙ told)),
    )

pub returns-in_err-push-clause-reads : goal.returns-in_err-push-clause-reads
returns-in_err-push-clause-reads g c = λ told t of.
    let old = g.T.Tree.history c.args.tree.now in
    let mid = g.T.Tree.history c.loop-child.tree in
    let new = g.T.Tree.history c.tell_one.new.tree in
    let begun = g.S.Shelf.history c.args.shelf.now in
    let files = g.S.Shelf.history c.loop-child.shelf in
    let later = g.S.Shelf.history c.tell_one.new.shelf in
    let child = c.child-item.result in
    let has : Contains c.args.children.now child = (c.loop-child.child-index, c.loop-child-test.true, sym c.child-item.is) in
    let so_far = take c.loop-child.child-index c.args.children.now in
    let one_more : take (c.loop-child.child-index + 1) c.args.children.now ≡ so_far ++ child ∷ [] =
    take_more c.args.children.now c.loop-child.child-index child c.loop-child-test.true ∙ ap (λ (r : Line). so_far ++ r ∷ []) (sym c.child-item.is) in (
      c.loop-child.child-index + 1,
      reads_more c.args.wanted t old mid new begun files later so_far child (take (c.loop-child.child-index + 1) c.args.children.now) one_more c.tell_one.ensures.passes c.loop-child.invariant.passes_shelf c.tell_one.ensures.passes_shelf
          (c.loop-child.invariant.reads told t of)
          (c.tell_one.ensures.reads t old begun (record { of = of.each child has; goes = c.loop-child.invariant.goes t of }) (c.loop-child.invariant.passes.past.told ∙ told)),
    )

pub returns-clause-reads : goal.returns-clause-reads
returns-clause-reads g c = λ told t of. (c.loop-child.child-index, c.loop-child.invariant.reads told t of)
