use Rattle.std.proofs.lemmas.Result.{err_from_is_err_and}
use Rattle.std.proofs.Common.{refl}
use Rattle.hg_flat.specs.Parent.{WasAsked}
use Rattle.hg_flat.proofs.Asks.{reads_none}
use Rattle.hg_flat.proofs.Needing.{reads_no}
use Rattle.hg_flat.proofs.Storing.{store_none}
use Rattle.hg_shelf.proofs.Histories as shelves
use Rattle.hg_mixed.specs.Held.{table}
use Rattle.hg_walk.specs.Walking.{asked_unvouched, walk_status}
use Rattle.hg_walk.proofs.Earlier.{all_of, reads_own}
use Rattle.hg_walk.proofs.Tracks.{notes_all, of_record, tells_whole}
use Rattle.hg_walk.proofs.tracked.tell_all.Goals as goal

pub of-keeper-requires : goal.of-keeper-requires
of-keeper-requires g c =
    record { ascending = c.in_ok-children.ensures.ascending; own = c.in_ok-children.ensures.gathered.own }

pub returns-clause-told : goal.returns-clause-told
returns-clause-told g c =
    let old = g.T.Tree.history c.args.tree.now in
    let new = g.T.Tree.history c.tell_each.new.tree in
    let start = g.S.Shelf.history c.args.shelf.now in
    let files = g.S.Shelf.history c.tell_each.new.shelf in
    rw (c.of-keeper.ensures.children, c.of-keeper.ensures.marks)
    (tells_whole c.args.wanted c.args.mixed.now c.in_ok-children.children.items c.in_ok-children.ensures.gathered c.parents.ensures.formed c.parents.result.0 c.parents.ensures.p1 old new c.tell_each.ensures.passes start files
    c.tell_each.new.marks.items c.tell_each.new.rows.items
    (rw (c.deref.ensures.value, c.new-rows.ensures.items) at c.in_ok-tell_each.ensures.added)
    (rw (c.deref.ensures.value, c.new-marks.ensures.items) at c.in_ok-tell_each.ensures.marked))

pub returns-clause-noted : goal.returns-clause-noted
returns-clause-noted g c =
    let old = g.T.Tree.history c.args.tree.now in
    let new = g.T.Tree.history c.tell_each.new.tree in
    let start = g.S.Shelf.history c.args.shelf.now in
    let files = g.S.Shelf.history c.tell_each.new.shelf in
    notes_all c.args.wanted c.args.mixed.now c.in_ok-children.children.items c.in_ok-children.ensures.gathered c.parents.ensures.formed c.parents.result.0 c.parents.ensures.p1 old new c.tell_each.ensures.passes start files
    c.args.boundary c.new-notes.result c.tell_each.new.notes c.new-notes.ensures.blank c.new-notes.ensures.hash
    (rw c.deref.ensures.value at c.in_ok-tell_each.ensures.noted)

pub returns-in_err-tell_each-clause-met : goal.returns-in_err-tell_each-clause-met
returns-in_err-tell_each-clause-met g c =
    let old = g.T.Tree.history c.args.tree.now in
    let new = g.T.Tree.history c.tell_each.new.tree in
    let start = g.S.Shelf.history c.args.shelf.now in
    let files = g.S.Shelf.history c.tell_each.new.shelf in
    let t = table c.args.mixed.now in
    let p = err_from_is_err_and c.from_residual-in_err-tell_each.result c.from_residual-in_err-tell_each.ensures.1 in
    rw (p.1, p.2)
    (c.in_err-tell_each.ensures.met t
    (rw c.deref.ensures.value (of_record c.args.wanted c.args.mixed.now c.in_ok-children.children.items c.in_ok-children.ensures.gathered c.parents.ensures.formed c.parents.result.0 c.parents.ensures.p1 old new c.tell_each.ensures.passes start files)))

pub returns-in_err-tell_each-clause-first : goal.returns-in_err-tell_each-clause-first
returns-in_err-tell_each-clause-first g c =
    let old = g.T.Tree.history c.args.tree.now in
    let new = g.T.Tree.history c.tell_each.new.tree in
    let start = g.S.Shelf.history c.args.shelf.now in
    let files = g.S.Shelf.history c.tell_each.new.shelf in
    let t = table c.args.mixed.now in
    let p = err_from_is_err_and c.from_residual-in_err-tell_each.result c.from_residual-in_err-tell_each.ensures.1 in
    rw (p.1, p.2)
    (c.in_err-tell_each.ensures.first t
    (rw c.deref.ensures.value (of_record c.args.wanted c.args.mixed.now c.in_ok-children.children.items c.in_ok-children.ensures.gathered c.parents.ensures.formed c.parents.result.0 c.parents.ensures.p1 old new c.tell_each.ensures.passes start files))
    (rw c.deref.ensures.value (all_of c.args.mixed.now c.in_ok-children.children.items c.in_ok-children.ensures.gathered c.parents.ensures.formed c.in_ok-children.ensures.ascending)))

pub returns-in_err-children-clause-asked : goal.returns-in_err-children-clause-asked
returns-in_err-children-clause-asked g c = λ told.
    let old = g.T.Tree.history c.args.tree.now in
    reads_none (WasAsked (asked_unvouched c.args.wanted (table c.args.mixed.now)) old old) old old refl

pub returns-in_err-tell_each-clause-asked : goal.returns-in_err-tell_each-clause-asked
returns-in_err-tell_each-clause-asked g c = λ told.
    let old = g.T.Tree.history c.args.tree.now in
    let new = g.T.Tree.history c.tell_each.new.tree in
    let start = g.S.Shelf.history c.args.shelf.now in
    let files = g.S.Shelf.history c.tell_each.new.shelf in
    let t = table c.args.mixed.now in
    c.tell_each.ensures.asked told t
    (rw c.deref.ensures.value (of_record c.args.wanted c.args.mixed.now c.in_ok-children.children.items c.in_ok-children.ensures.gathered c.parents.ensures.formed c.parents.result.0 c.parents.ensures.p1 old new c.tell_each.ensures.passes start files))

pub returns-in_err-tell_each-clause-unasked : goal.returns-in_err-tell_each-clause-unasked
returns-in_err-tell_each-clause-unasked g c = λ never.
    let old = g.T.Tree.history c.args.tree.now in
    let new = g.T.Tree.history c.tell_each.new.tree in
    let start = g.S.Shelf.history c.args.shelf.now in
    let files = g.S.Shelf.history c.tell_each.new.shelf in
    let t = table c.args.mixed.now in
    c.tell_each.ensures.unasked t
    (rw c.deref.ensures.value (of_record c.args.wanted c.args.mixed.now c.in_ok-children.children.items c.in_ok-children.ensures.gathered c.parents.ensures.formed c.parents.result.0 c.parents.ensures.p1 old new c.tell_each.ensures.passes start files)) never

pub returns-in_err-tell_each-clause-store : goal.returns-in_err-tell_each-clause-store
returns-in_err-tell_each-clause-store g c = λ told.
    let old = g.T.Tree.history c.args.tree.now in
    let new = g.T.Tree.history c.tell_each.new.tree in
    let start = g.S.Shelf.history c.args.shelf.now in
    let files = g.S.Shelf.history c.tell_each.new.shelf in
    let t = table c.args.mixed.now in
    c.tell_each.ensures.store told t
    (rw c.deref.ensures.value (of_record c.args.wanted c.args.mixed.now c.in_ok-children.children.items c.in_ok-children.ensures.gathered c.parents.ensures.formed c.parents.result.0 c.parents.ensures.p1 old new c.tell_each.ensures.passes start files))

pub returns-clause-asked : goal.returns-clause-asked
returns-clause-asked g c = λ told.
    let old = g.T.Tree.history c.args.tree.now in
    let new = g.T.Tree.history c.tell_each.new.tree in
    let start = g.S.Shelf.history c.args.shelf.now in
    let files = g.S.Shelf.history c.tell_each.new.shelf in
    let t = table c.args.mixed.now in
    c.tell_each.ensures.asked told t
    (rw c.deref.ensures.value (of_record c.args.wanted c.args.mixed.now c.in_ok-children.children.items c.in_ok-children.ensures.gathered c.parents.ensures.formed c.parents.result.0 c.parents.ensures.p1 old new c.tell_each.ensures.passes start files))

pub returns-clause-unasked : goal.returns-clause-unasked
returns-clause-unasked g c = λ never.
    let old = g.T.Tree.history c.args.tree.now in
    let new = g.T.Tree.history c.tell_each.new.tree in
    let start = g.S.Shelf.history c.args.shelf.now in
    let files = g.S.Shelf.history c.tell_each.new.shelf in
    let t = table c.args.mixed.now in
    c.tell_each.ensures.unasked t
    (rw c.deref.ensures.value (of_record c.args.wanted c.args.mixed.now c.in_ok-children.children.items c.in_ok-children.ensures.gathered c.parents.ensures.formed c.parents.result.0 c.parents.ensures.p1 old new c.tell_each.ensures.passes start files)) never

pub returns-clause-store : goal.returns-clause-store
returns-clause-store g c = λ told.
    let old = g.T.Tree.history c.args.tree.now in
    let new = g.T.Tree.history c.tell_each.new.tree in
    let start = g.S.Shelf.history c.args.shelf.now in
    let files = g.S.Shelf.history c.tell_each.new.shelf in
    let t = table c.args.mixed.now in
    c.tell_each.ensures.store told t
    (rw c.deref.ensures.value (of_record c.args.wanted c.args.mixed.now c.in_ok-children.children.items c.in_ok-children.ensures.gathered c.parents.ensures.formed c.parents.result.0 c.parents.ensures.p1 old new c.tell_each.ensures.passes start files))

pub returns-in_err-children-clause-store : goal.returns-in_err-children-clause-store
returns-in_err-children-clause-store g c = λ told.
    let old = g.T.Tree.history c.args.tree.now in
    store_none (walk_status c.args.wanted (table c.args.mixed.now) old old (g.S.Shelf.history c.args.shelf.now) (g.S.Shelf.history c.args.shelf.now)) (shelves.passes_same (g.S.Shelf.history c.args.shelf.now)) refl

pub returns-in_err-children-clause-reads : goal.returns-in_err-children-clause-reads
returns-in_err-children-clause-reads g c = λ told.
    let old = g.T.Tree.history c.args.tree.now in
    reads_no (walk_status c.args.wanted (table c.args.mixed.now) old old (g.S.Shelf.history c.args.shelf.now) (g.S.Shelf.history c.args.shelf.now)) refl

pub returns-in_err-tell_each-clause-reads : goal.returns-in_err-tell_each-clause-reads
returns-in_err-tell_each-clause-reads g c = λ told.
    let old = g.T.Tree.history c.args.tree.now in
    let new = g.T.Tree.history c.tell_each.new.tree in
    let start = g.S.Shelf.history c.args.shelf.now in
    let files = g.S.Shelf.history c.tell_each.new.shelf in
    let t = table c.args.mixed.now in
    reads_own (walk_status c.args.wanted t old new start files) c.in_ok-children.children.items c.in_ok-children.ensures.gathered.own
    ((rw c.deref.ensures.value at c.tell_each.ensures.reads) told t
    (of_record c.args.wanted c.args.mixed.now c.in_ok-children.children.items c.in_ok-children.ensures.gathered c.parents.ensures.formed c.parents.result.0 c.parents.ensures.p1 old new c.tell_each.ensures.passes start files))

pub returns-clause-reads : goal.returns-clause-reads
returns-clause-reads g c = λ told.
    let old = g.T.Tree.history c.args.tree.now in
    let new = g.T.Tree.history c.tell_each.new.tree in
    let start = g.S.Shelf.history c.args.shelf.now in
    let files = g.S.Shelf.history c.tell_each.new.shelf in
    let t = table c.args.mixed.now in
    reads_own (walk_status c.args.wanted t old new start files) c.in_ok-children.children.items c.in_ok-children.ensures.gathered.own
    ((rw c.deref.ensures.value at c.tell_each.ensures.reads) told t
    (of_record c.args.wanted c.args.mixed.now c.in_ok-children.children.items c.in_ok-children.ensures.gathered c.parents.ensures.formed c.parents.result.0 c.parents.ensures.p1 old new c.tell_each.ensures.passes start files))
