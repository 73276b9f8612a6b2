use Rattle.std.proofs.Common.{◌<◌, List, length, sym, subst, ◌∙◌, ◌≡◌, ◌+◌, get_or, take, refl}
use Rattle.std.specs.List.{Contains}
use Rattle.std.proofs.lemmas.List.{take_all}
use Rattle.std.proofs.lemmas.Result.{err_from_is_err_and}
use Rattle.hg_shelf.proofs.Scenes.{goes_trans, goes_same}
use Rattle.hg_flat.specs.Judged.{AddsBy, IsLeftAsked}
use Rattle.hg_flat.specs.Parent.{asked_by, WasAsked}
use Rattle.hg_shelf.proofs.Histories as shelf
use Rattle.hg_flat.specs.Met.{Status}
use Rattle.hg_flat.specs.Shown.{flat_in}
use Rattle.hg_flat.specs.declared.kept.FlatRow.{FlatRow}
use Rattle.hg_flat.proofs.Asking.{asked_later, asked_longer, reads_on}
use Rattle.hg_flat.proofs.First.{before_by, entry_before, first_by, reads_front, rows_more}
use Rattle.hg_flat.proofs.Going.{goes_store}
use Rattle.hg_flat.proofs.Leaving.{added_by, adds_next, asks_same}
use Rattle.hg_flat.proofs.Asks.{reads_none}
use Rattle.hg_flat.proofs.Judging.{adds_none, marks_alike}
use Rattle.hg_flat.proofs.Needing.{reads_empty}
use Rattle.hg_tree.proofs.Spans.{passes_same}
use Rattle.hg_tree.specs.History as trees
use Rattle.hg_flat.proofs.status.add_each.Goals as goal

pub returns-in_err-add_tracked-clause-met : goal.returns-in_err-add_tracked-clause-met
returns-in_err-add_tracked-clause-met g c =
    let p = err_from_is_err_and c.from_residual.result c.from_residual.ensures.1 in
    let below : c.loop-kept.kept-index < length c.args.flat.now.rows.items = rw c.deref-kept-items.ensures.value at c.loop-kept-test.true in
    let has : Contains c.args.flat.now.rows.items c.kept-item.result = (c.loop-kept.kept-index, below, sym (rw c.deref-kept-items.ensures.value at c.kept-item.is)) in
    rw (p.1, p.2)
    (c.in_err-add_tracked.ensures.met
    (record {
      wanted = c.args.wanted;
      asks = asked_by c.args.wanted (flat_in c.args.flat.now);
      id = c.args.p1.now;
      tree_old = g.T.Tree.history c.args.tree.now;
      tree_new = g.T.Tree.history c.loop-kept.tree;
      shelf_old = g.S.Shelf.history c.args.shelf.now;
      shelf_new = g.S.Shelf.history c.loop-kept.shelf;
    })
    c.loop-kept.invariant.goes (asks_same c.args.flat.now c.args.wanted c.kept-item.result has))

pub returns-in_err-add_tracked-clause-first : goal.returns-in_err-add_tracked-clause-first
returns-in_err-add_tracked-clause-first g c =
    let p = err_from_is_err_and c.from_residual.result c.from_residual.ensures.1 in
    let below : c.loop-kept.kept-index < length c.args.flat.now.rows.items = rw c.deref-kept-items.ensures.value at c.loop-kept-test.true in
    let at : get_or c.args.flat.now.rows.items c.loop-kept.kept-index c.kept-item.result ≡ c.kept-item.result = sym (rw c.deref-kept-items.ensures.value at c.kept-item.is) in
    let has : Contains c.args.flat.now.rows.items c.kept-item.result = (c.loop-kept.kept-index, below, at) in
    let asks = asked_by c.args.wanted (flat_in c.args.flat.now) in
    let old = g.T.Tree.history c.args.tree.now in
    let mid = g.T.Tree.history c.loop-kept.tree in
    let new = g.T.Tree.history c.add_tracked.new.tree in
    let begun = g.S.Shelf.history c.args.shelf.now in
    let files = g.S.Shelf.history c.loop-kept.shelf in
    let later = g.S.Shelf.history c.add_tracked.new.shelf in
    rw (p.1, p.2)
    (first_by
    (record {
      wanted = c.args.wanted;
      asks = asks;
      id = c.args.p1.now;
      tree_old = old;
      tree_new = new;
      shelf_old = begun;
      shelf_new = later;
    })
    c.kept-item.result.path
    (before_by asks (λ store. Unit {0}) c.args.wanted c.args.p1.now old mid new c.loop-kept.invariant.goes.tree.past c.add_tracked.ensures.tree_passes.past begun files later c.add_tracked.ensures.shelf_passes.past
    c.loop-kept.invariant.goes.shelf.past.later (take c.loop-kept.kept-index c.args.flat.now.rows.items) c.args.rows.now.items c.loop-kept.rows.items c.loop-kept.invariant.added c.kept-item.result.path
    (entry_before c.args.flat.now c.args.wanted (trees.now old) c.loop-kept.kept-index c.kept-item.result below at))
    c.in_err-add_tracked.field-0.0
    (c.in_err-add_tracked.ensures.names
    (record {
      wanted = c.args.wanted;
      asks = asks;
      id = c.args.p1.now;
      tree_old = old;
      tree_new = mid;
      shelf_old = begun;
      shelf_new = files;
    })
    c.loop-kept.invariant.goes (asks_same c.args.flat.now c.args.wanted c.kept-item.result has)))

pub returns-in_err-add_tracked-clause-asked : goal.returns-in_err-add_tracked-clause-asked
returns-in_err-add_tracked-clause-asked g c = λ told.
    let below : c.loop-kept.kept-index < length c.args.flat.now.rows.items = rw c.deref-kept-items.ensures.value at c.loop-kept-test.true in
    let has : Contains c.args.flat.now.rows.items c.kept-item.result = (c.loop-kept.kept-index, below, sym (rw c.deref-kept-items.ensures.value at c.kept-item.is)) in
    reads_on (asked_by c.args.wanted (flat_in c.args.flat.now)) (g.T.Tree.history c.args.tree.now) (g.T.Tree.history c.loop-kept.tree) (g.T.Tree.history c.add_tracked.new.tree) c.loop-kept.invariant.goes.tree.past
    c.add_tracked.ensures.tree_passes.past (c.loop-kept.invariant.asked told)
    (c.add_tracked.ensures.asked (asked_by c.args.wanted (flat_in c.args.flat.now)) (asks_same c.args.flat.now c.args.wanted c.kept-item.result has) (c.loop-kept.invariant.goes.tree.past.told ∙ told))

pub returns-in_err-add_tracked-clause-unasked : goal.returns-in_err-add_tracked-clause-unasked
returns-in_err-add_tracked-clause-unasked g c = λ none.
    let below : c.loop-kept.kept-index < length c.args.flat.now.rows.items = rw c.deref-kept-items.ensures.value at c.loop-kept-test.true in
    let has : Contains c.args.flat.now.rows.items c.kept-item.result = (c.loop-kept.kept-index, below, sym (rw c.deref-kept-items.ensures.value at c.kept-item.is)) in
    c.add_tracked.ensures.unasked (asked_by c.args.wanted (flat_in c.args.flat.now)) (asks_same c.args.flat.now c.args.wanted c.kept-item.result has)
    (λ was. none c.kept-item.result.path (asked_later (asked_by c.args.wanted (flat_in c.args.flat.now)) (g.T.Tree.history c.args.tree.now) (g.T.Tree.history c.loop-kept.tree) (g.T.Tree.history c.add_tracked.new.tree) c.kept-item.result.path c.loop-kept.invariant.goes.tree.past was))
    ∙ c.loop-kept.invariant.unasked
    (λ path was. none path (asked_longer (asked_by c.args.wanted (flat_in c.args.flat.now)) (g.T.Tree.history c.args.tree.now) (g.T.Tree.history c.loop-kept.tree) (g.T.Tree.history c.add_tracked.new.tree) path c.loop-kept.invariant.goes.tree.past c.add_tracked.ensures.tree_passes.past was))

pub loop-kept-init : goal.loop-kept-init
loop-kept-init g c =
    let old = g.T.Tree.history c.args.tree.now in
    let files = g.S.Shelf.history c.args.shelf.now in
    let asks = asked_by c.args.wanted (flat_in c.args.flat.now) in
    let s : Status = record { wanted = c.args.wanted; asks = asks; id = c.args.p1.now; tree_old = old; tree_new = old; shelf_old = files; shelf_new = files } in
    record {
      goes = c.new-parent.ensures.starts s refl (passes_same old) (shelf.passes_same files) refl;
      kept = goes_same _;
      held = refl;
      added = λ store. adds_none asks (Unit {0}) (IsLeftAsked store asks c.args.p1.now old old.last files files.last) store c.args.p1.now (trees.now old) c.args.wanted c.args.rows.now.items;
      asked = λ told. reads_none (WasAsked asks old old) old old refl;
      reads = λ told. reads_empty s refl;
      unasked = λ none. refl;
      still = refl;
      shelf_still = refl;
    }

pub loop-kept-preserved : goal.loop-kept-preserved
loop-kept-preserved g c =
    let below : c.loop-kept.kept-index < length c.args.flat.now.rows.items = rw c.deref-kept-items.ensures.value at c.loop-kept-test.true in
    let has : Contains c.args.flat.now.rows.items c.kept-item.result = (c.loop-kept.kept-index, below, sym (rw c.deref-kept-items.ensures.value at c.kept-item.is)) in
    record {
      goes =
          c.in_ok-add_tracked.ensures.goes
          (record {
            wanted = c.args.wanted;
            asks = asked_by c.args.wanted (flat_in c.args.flat.now);
            id = c.args.p1.now;
            tree_old = g.T.Tree.history c.args.tree.now;
            tree_new = g.T.Tree.history c.loop-kept.tree;
            shelf_old = g.S.Shelf.history c.args.shelf.now;
            shelf_new = g.S.Shelf.history c.loop-kept.shelf;
          })
          c.loop-kept.invariant.goes (asks_same c.args.flat.now c.args.wanted c.kept-item.result has);
      kept = goes_trans _ _ _ c.loop-kept.invariant.kept c.add_tracked.ensures.kept;
      held = c.add_tracked.ensures.held ∙ c.loop-kept.invariant.held;
      added = λ store.
          let asks = asked_by c.args.wanted (flat_in c.args.flat.now) in
          let old = g.T.Tree.history c.args.tree.now in
          let mid = g.T.Tree.history c.loop-kept.tree in
          let new = g.T.Tree.history c.add_tracked.new.tree in
          let since = (g.S.Shelf.history c.args.shelf.now).last in
          adds_next asks (marks_alike c.args.wanted (flat_in c.args.flat.now)) c.args.wanted c.args.p1.now old mid new c.loop-kept.invariant.goes.tree.past
          c.add_tracked.ensures.tree_passes.past (g.S.Shelf.history c.loop-kept.shelf) (g.S.Shelf.history c.add_tracked.new.shelf) since c.add_tracked.ensures.shelf_passes.past
          store c.args.flat.now.rows.items c.loop-kept.kept-index c.kept-item.result c.args.rows.now.items
          c.loop-kept.rows.items c.add_tracked.new.rows.items below (sym (rw c.deref-kept-items.ensures.value at c.kept-item.is)) (c.loop-kept.invariant.added store)
          (added_by c.args.flat.now c.args.wanted c.args.p1.now new mid.last (g.S.Shelf.history c.add_tracked.new.shelf) since store (trees.now mid) c.kept-item.result has c.loop-kept.rows.items c.add_tracked.new.rows.items
          (c.in_ok-add_tracked.ensures.row
          (record {
            wanted = c.args.wanted;
            asks = asks;
            id = c.args.p1.now;
            tree_old = old;
            tree_new = mid;
            shelf_old = g.S.Shelf.history c.args.shelf.now;
            shelf_new = g.S.Shelf.history c.loop-kept.shelf;
          })
          store c.loop-kept.invariant.goes));
      asked = λ told.
          reads_on (asked_by c.args.wanted (flat_in c.args.flat.now)) (g.T.Tree.history c.args.tree.now) (g.T.Tree.history c.loop-kept.tree) (g.T.Tree.history c.add_tracked.new.tree) c.loop-kept.invariant.goes.tree.past
          c.add_tracked.ensures.tree_passes.past (c.loop-kept.invariant.asked told)
          (c.add_tracked.ensures.asked (asked_by c.args.wanted (flat_in c.args.flat.now)) (asks_same c.args.flat.now c.args.wanted c.kept-item.result has) (c.loop-kept.invariant.goes.tree.past.told ∙ told));
      reads = λ told.
          let at : get_or c.args.flat.now.rows.items c.loop-kept.kept-index c.kept-item.result ≡ c.kept-item.result = sym (rw c.deref-kept-items.ensures.value at c.kept-item.is) in
          rows_more
          (record {
            wanted = c.args.wanted;
            asks = asked_by c.args.wanted (flat_in c.args.flat.now);
            id = c.args.p1.now;
            tree_old = g.T.Tree.history c.args.tree.now;
            tree_new = g.T.Tree.history c.loop-kept.tree;
            shelf_old = g.S.Shelf.history c.args.shelf.now;
            shelf_new = g.S.Shelf.history c.loop-kept.shelf;
          })
          (g.T.Tree.history c.loop-kept.tree) (g.T.Tree.history c.add_tracked.new.tree) (g.S.Shelf.history c.loop-kept.shelf) (g.S.Shelf.history c.add_tracked.new.shelf) c.add_tracked.ensures.tree_passes c.loop-kept.invariant.goes.shelf
          c.add_tracked.ensures.shelf_passes c.args.flat.now.rows.items c.loop-kept.kept-index c.kept-item.result below at (c.loop-kept.invariant.reads told)
          (c.add_tracked.ensures.reads
          (record {
            wanted = c.args.wanted;
            asks = asked_by c.args.wanted (flat_in c.args.flat.now);
            id = c.args.p1.now;
            tree_old = g.T.Tree.history c.args.tree.now;
            tree_new = g.T.Tree.history c.loop-kept.tree;
            shelf_old = g.S.Shelf.history c.args.shelf.now;
            shelf_new = g.S.Shelf.history c.loop-kept.shelf;
          })
          c.loop-kept.invariant.goes (asks_same c.args.flat.now c.args.wanted c.kept-item.result has) (c.loop-kept.invariant.goes.tree.past.told ∙ told));
      unasked = λ none.
          c.add_tracked.ensures.unasked (asked_by c.args.wanted (flat_in c.args.flat.now)) (asks_same c.args.flat.now c.args.wanted c.kept-item.result has)
          (λ was. none c.kept-item.result.path (asked_later (asked_by c.args.wanted (flat_in c.args.flat.now)) (g.T.Tree.history c.args.tree.now) (g.T.Tree.history c.loop-kept.tree) (g.T.Tree.history c.add_tracked.new.tree) c.kept-item.result.path c.loop-kept.invariant.goes.tree.past was))
          ∙ c.loop-kept.invariant.unasked
          (λ path was. none path (asked_longer (asked_by c.args.wanted (flat_in c.args.flat.now)) (g.T.Tree.history c.args.tree.now) (g.T.Tree.history c.loop-kept.tree) (g.T.Tree.history c.add_tracked.new.tree) path c.loop-kept.invariant.goes.tree.past c.add_tracked.ensures.tree_passes.past was));
      still = c.in_ok-add_tracked.ensures.cause.quiet ∙ c.loop-kept.invariant.still;
      shelf_still = c.in_ok-add_tracked.ensures.cause_shelf.quiet ∙ c.loop-kept.invariant.shelf_still;
    }

pub returns-in_err-add_tracked-clause-kept : goal.returns-in_err-add_tracked-clause-kept
returns-in_err-add_tracked-clause-kept g c = goes_trans _ _ _ c.loop-kept.invariant.kept c.add_tracked.ensures.kept

pub returns-in_err-add_tracked-clause-store : goal.returns-in_err-add_tracked-clause-store
returns-in_err-add_tracked-clause-store g c = λ told.
    let below : c.loop-kept.kept-index < length c.args.flat.now.rows.items = rw c.deref-kept-items.ensures.value at c.loop-kept-test.true in
    let has : Contains c.args.flat.now.rows.items c.kept-item.result = (c.loop-kept.kept-index, below, sym (rw c.deref-kept-items.ensures.value at c.kept-item.is)) in
    c.in_err-add_tracked.ensures.store
    (record {
      wanted = c.args.wanted;
      asks = asked_by c.args.wanted (flat_in c.args.flat.now);
      id = c.args.p1.now;
      tree_old = g.T.Tree.history c.args.tree.now;
      tree_new = g.T.Tree.history c.loop-kept.tree;
      shelf_old = g.S.Shelf.history c.args.shelf.now;
      shelf_new = g.S.Shelf.history c.loop-kept.shelf;
    })
    c.loop-kept.invariant.goes (asks_same c.args.flat.now c.args.wanted c.kept-item.result has) told

pub returns-clause-store : goal.returns-clause-store
returns-clause-store g c = λ told.
    goes_store
    (record {
      wanted = c.args.wanted;
      asks = asked_by c.args.wanted (flat_in c.args.flat.now);
      id = c.args.p1.now;
      tree_old = g.T.Tree.history c.args.tree.now;
      tree_new = g.T.Tree.history c.loop-kept.tree;
      shelf_old = g.S.Shelf.history c.args.shelf.now;
      shelf_new = g.S.Shelf.history c.loop-kept.shelf;
    })
    (g.T.Tree.history c.loop-kept.tree) (g.S.Shelf.history c.loop-kept.shelf) c.loop-kept.parent c.loop-kept.invariant.goes told

pub returns-clause-added : goal.returns-clause-added
returns-clause-added g c = λ store.
    let asks = asked_by c.args.wanted (flat_in c.args.flat.now) in
    subst
    (λ (l : List FlatRow). AddsBy asks (Unit {0}) (IsLeftAsked store asks c.args.p1.now (g.T.Tree.history c.loop-kept.tree) (g.T.Tree.history c.args.tree.now).last (g.S.Shelf.history c.loop-kept.shelf) (g.S.Shelf.history c.args.shelf.now).last)
    store c.args.p1.now (trees.now (g.T.Tree.history c.args.tree.now)) c.args.wanted l c.args.rows.now.items c.loop-kept.rows.items)
    (take_all c.loop-kept.kept-index c.args.flat.now.rows.items (rw c.deref-kept-items.ensures.value at c.loop-kept-test.false)) (c.loop-kept.invariant.added store)

pub returns-in_err-add_tracked-clause-reads : goal.returns-in_err-add_tracked-clause-reads
returns-in_err-add_tracked-clause-reads g c = λ told.
    let below : c.loop-kept.kept-index < length c.args.flat.now.rows.items = rw c.deref-kept-items.ensures.value at c.loop-kept-test.true in
    let at : get_or c.args.flat.now.rows.items c.loop-kept.kept-index c.kept-item.result ≡ c.kept-item.result = sym (rw c.deref-kept-items.ensures.value at c.kept-item.is) in
    let has : Contains c.args.flat.now.rows.items c.kept-item.result = (c.loop-kept.kept-index, below, at) in
    reads_front
    (record {
      wanted = c.args.wanted;
      asks = asked_by c.args.wanted (flat_in c.args.flat.now);
      id = c.args.p1.now;
      tree_old = g.T.Tree.history c.args.tree.now;
      tree_new = g.T.Tree.history c.add_tracked.new.tree;
      shelf_old = g.S.Shelf.history c.args.shelf.now;
      shelf_new = g.S.Shelf.history c.add_tracked.new.shelf;
    })
    c.args.flat.now (c.loop-kept.kept-index + 1)
    (rows_more
    (record {
      wanted = c.args.wanted;
      asks = asked_by c.args.wanted (flat_in c.args.flat.now);
      id = c.args.p1.now;
      tree_old = g.T.Tree.history c.args.tree.now;
      tree_new = g.T.Tree.history c.loop-kept.tree;
      shelf_old = g.S.Shelf.history c.args.shelf.now;
      shelf_new = g.S.Shelf.history c.loop-kept.shelf;
    })
    (g.T.Tree.history c.loop-kept.tree) (g.T.Tree.history c.add_tracked.new.tree) (g.S.Shelf.history c.loop-kept.shelf) (g.S.Shelf.history c.add_tracked.new.shelf) c.add_tracked.ensures.tree_passes c.loop-kept.invariant.goes.shelf
    c.add_tracked.ensures.shelf_passes c.args.flat.now.rows.items c.loop-kept.kept-index c.kept-item.result below at (c.loop-kept.invariant.reads told)
    (c.add_tracked.ensures.reads
    (record {
      wanted = c.args.wanted;
      asks = asked_by c.args.wanted (flat_in c.args.flat.now);
      id = c.args.p1.now;
      tree_old = g.T.Tree.history c.args.tree.now;
      tree_new = g.T.Tree.history c.loop-kept.tree;
      shelf_old = g.S.Shelf.history c.args.shelf.now;
      shelf_new = g.S.Shelf.history c.loop-kept.shelf;
    })
    c.loop-kept.invariant.goes (asks_same c.args.flat.now c.args.wanted c.kept-item.result has) (c.loop-kept.invariant.goes.tree.past.told ∙ told)))

pub returns-clause-reads : goal.returns-clause-reads
returns-clause-reads g c = λ told.
    reads_front
    (record {
      wanted = c.args.wanted;
      asks = asked_by c.args.wanted (flat_in c.args.flat.now);
      id = c.args.p1.now;
      tree_old = g.T.Tree.history c.args.tree.now;
      tree_new = g.T.Tree.history c.loop-kept.tree;
      shelf_old = g.S.Shelf.history c.args.shelf.now;
      shelf_new = g.S.Shelf.history c.loop-kept.shelf;
    })
    c.args.flat.now c.loop-kept.kept-index (c.loop-kept.invariant.reads told)
