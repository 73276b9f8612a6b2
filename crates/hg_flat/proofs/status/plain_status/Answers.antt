use Rattle.std.proofs.Common.{refl, sym, subst, ◌∙◌}
use Rattle.std.proofs.lemmas.Result.{IfErr-weaker, IfOk-weaker, err_from_is_err_and}
use Rattle.hg_shelf.proofs.Histories as shelf
use Rattle.hg_tree.specs.History as trees
use Rattle.hg_tree.proofs.Histories.{extends_same}
use Rattle.hg_tree.proofs.Spans.{ours_first, passes_same, passes_trans}
use Rattle.hg_flat.specs.Asked.{nothing_holds}
use Rattle.hg_flat.specs.Course.{pieces_of}
use Rattle.hg_flat.specs.Listing.{Gives}
use Rattle.hg_flat.specs.Parent.{asked_by, parent_rows}
use Rattle.hg_flat.specs.Passed.{nothing_known}
use Rattle.hg_flat.specs.Patterns.{Warns, ignored_at}
use Rattle.hg_flat.specs.Shown.{flat_in}
use Rattle.hg_flat.specs.declared.listed.Listed.{Listed}
use Rattle.hg_flat.proofs.Asking.{never_each}
use Rattle.hg_flat.proofs.Asks.{asks_none}
use Rattle.hg_flat.proofs.Calls.{all_asks, asks_first, asks_second, own_asks, unheld_none}
use Rattle.hg_flat.proofs.Fullness.{full_of}
use Rattle.hg_flat.proofs.Judging.{marks_alike}
use Rattle.hg_flat.proofs.Leaving.{left_all}
use Rattle.hg_flat.proofs.Needing.{asks_needed, reads_no}
use Rattle.hg_flat.proofs.Refusing.{had, is_kept, state_given, state_still, warns}
use Rattle.hg_flat.proofs.Spanning.{counts_listing, counts_still, first_listing, first_patterns, first_whole, if_ok_on, met_listing, met_patterns, met_whole, not_parent, of_listing_none}
use Rattle.hg_flat.proofs.Steps.{known_none, served_none}
use Rattle.hg_flat.proofs.Storing.{store_longer, store_none}
use Rattle.hg_flat.proofs.Whole.{Left, whole_listing, whole_served}
use Rattle.hg_flat.proofs.status.plain_status.Goals as goal

pub returns-clause-still : goal.returns-clause-still
returns-clause-still g c = λ store.
    let old = g.T.Tree.history c.args.tree.now in
    let mid = g.T.Tree.history c.read_patterns.new.tree in
    let later = g.T.Tree.history c.add_each.new.tree in
    let new = g.T.Tree.history c.list_others.new.tree in
    let start = g.S.Shelf.history c.args.shelf.now in
    let files = g.S.Shelf.history c.add_each.new.shelf in
    let flat = c.args.flat.now in
    let asks = asked_by c.args.wanted (flat_in flat) in
    IfOk-weaker c.list_others.result _ _
    (λ listed others.
    whole_listing asks (marks_alike c.args.wanted (flat_in flat)) (Unit {0}) flat.p1.0 flat.p2.0 flat.rows.items flat.own c.args.wanted c.args.p1.now old mid later new c.read_patterns.ensures.passes c.add_each.ensures.passes c.list_others.ensures.passes files start.last
    store c.add_each.new.rows.items listed.rows ((rw c.new-rows.ensures.items at c.in_ok-add_each.ensures.added) store) c.in_ok-ignore.ignore c.in_ok-ignore.ensures.kept
    nothing_known (known_none later mid.last c.add_each.ensures.passes.past.later) (served_none (Gives c.args.wanted (pieces_of c.in_ok-ignore.ignore)) later mid.last) others tt)
    c.list_others.ensures.listed

pub returns-clause-full : goal.returns-clause-full
returns-clause-full g c = λ store ours keeps.
    let old = g.T.Tree.history c.args.tree.now in
    let mid = g.T.Tree.history c.read_patterns.new.tree in
    let later = g.T.Tree.history c.add_each.new.tree in
    let new = g.T.Tree.history c.list_others.new.tree in
    let start = g.S.Shelf.history c.args.shelf.now in
    let files = g.S.Shelf.history c.add_each.new.shelf in
    let flat = c.args.flat.now in
    let asks = asked_by c.args.wanted (flat_in flat) in
    let whole = passes_trans old mid new c.read_patterns.ensures.passes (passes_trans mid later new c.add_each.ensures.passes c.list_others.ensures.passes) in
    IfOk-weaker c.list_others.result _ _
    (λ listed is.
    full_of (Left asks (marks_alike c.args.wanted (flat_in flat)) (Unit {0}) flat.p1.0 flat.p2.0 flat.rows.items flat.own c.args.wanted c.args.p1.now old mid later new c.read_patterns.ensures.passes c.add_each.ensures.passes c.list_others.ensures.passes files start.last store)
    (flat_in flat) (trees.now old) (parent_rows store c.args.p1.now) (ignored_at (trees.now old)) c.args.wanted listed.rows
    (left_all store (flat_in flat) c.args.wanted asks c.args.p1.now old new whole ours files start.last keeps) is)
    (returns-clause-still g c store)

pub returns-clause-served : goal.returns-clause-served
returns-clause-served g c =
    let old = g.T.Tree.history c.args.tree.now in
    let mid = g.T.Tree.history c.read_patterns.new.tree in
    let later = g.T.Tree.history c.add_each.new.tree in
    let new = g.T.Tree.history c.list_others.new.tree in
    let start = g.S.Shelf.history c.args.shelf.now in
    let files = g.S.Shelf.history c.add_each.new.shelf in
    let flat = c.args.flat.now in
    let asks = asked_by c.args.wanted (flat_in flat) in
    if_ok_on c.list_others.result _ _
    (λ listed others store.
    whole_served asks (marks_alike c.args.wanted (flat_in flat)) (Unit {0}) flat.p1.0 flat.p2.0 flat.rows.items flat.own c.args.wanted c.args.p1.now old mid later new c.read_patterns.ensures.passes c.add_each.ensures.passes c.list_others.ensures.passes files start.last
    store c.add_each.new.rows.items ((rw c.new-rows.ensures.items at c.in_ok-add_each.ensures.added) store) (λ m path asked. asked))
    c.list_others.ensures.listed

-- ---- the patterns

pub list_others-requires : goal.list_others-requires
list_others-requires g c = is_kept c.args.wanted (g.T.Tree.history c.args.tree.now) (g.T.Tree.history c.read_patterns.new.tree) c.in_ok-ignore.ignore c.in_ok-ignore.ensures.kept

pub returns-clause-warns : goal.returns-clause-warns
returns-clause-warns g c =
    let old = g.T.Tree.history c.args.tree.now in
    let mid = g.T.Tree.history c.read_patterns.new.tree in
    let later = g.T.Tree.history c.add_each.new.tree in
    let new = g.T.Tree.history c.list_others.new.tree in
    IfOk-weaker c.list_others.result _ _
    (λ listed is.
    subst (Warns c.args.wanted old new) (sym is)
    (warns old mid new c.read_patterns.ensures.passes (passes_trans mid later new c.add_each.ensures.passes c.list_others.ensures.passes).past c.args.wanted c.in_ok-ignore.ignore c.in_ok-ignore.ensures.kept))
    c.list_others.ensures.warned

pub returns-clause-met : goal.returns-clause-met
returns-clause-met g c =
    IfErr-weaker c.list_others.result _ _
    (met_listing
    (record {
      wanted = c.args.wanted;
      asks = asked_by c.args.wanted (flat_in c.args.flat.now);
      id = c.args.p1.now;
      tree_old = g.T.Tree.history c.args.tree.now;
      tree_new = g.T.Tree.history c.list_others.new.tree;
      shelf_old = g.S.Shelf.history c.args.shelf.now;
      shelf_new = g.S.Shelf.history c.add_each.new.shelf;
    }))
    c.list_others.ensures.kind

pub returns-clause-first : goal.returns-clause-first
returns-clause-first g c =
    IfErr-weaker c.list_others.result _ _
    (first_listing
    (record {
      wanted = c.args.wanted;
      asks = asked_by c.args.wanted (flat_in c.args.flat.now);
      id = c.args.p1.now;
      tree_old = g.T.Tree.history c.args.tree.now;
      tree_new = g.T.Tree.history c.list_others.new.tree;
      shelf_old = g.S.Shelf.history c.args.shelf.now;
      shelf_new = g.S.Shelf.history c.add_each.new.shelf;
    }))
    c.list_others.ensures.kind

pub returns-clause-behind : goal.returns-clause-behind
returns-clause-behind g c =
    IfErr-weaker c.list_others.result _ _ (λ fault of is. absurd (of_listing_none fault of is)) c.list_others.ensures.kind

pub returns-clause-oversize : goal.returns-clause-oversize
returns-clause-oversize g c = counts_listing Listed c.list_others.result _ _ c.in_ok-ignore.ensures.oversize c.list_others.ensures.kind

pub returns-in_err-ignore-clause-met : goal.returns-in_err-ignore-clause-met
returns-in_err-ignore-clause-met g c =
    let p = err_from_is_err_and c.from_residual.result c.from_residual.ensures.1 in
    rw (p.1, p.2)
    (met_patterns
    (record {
      wanted = c.args.wanted;
      asks = asked_by c.args.wanted (flat_in c.args.flat.now);
      id = c.args.p1.now;
      tree_old = g.T.Tree.history c.args.tree.now;
      tree_new = g.T.Tree.history c.read_patterns.new.tree;
      shelf_old = g.S.Shelf.history c.args.shelf.now;
      shelf_new = g.S.Shelf.history c.args.shelf.now;
    })
    c.in_err-ignore.field-0.0 c.in_err-ignore.ensures.needed c.in_err-ignore.ensures.met)

pub returns-in_err-ignore-clause-first : goal.returns-in_err-ignore-clause-first
returns-in_err-ignore-clause-first g c =
    let p = err_from_is_err_and c.from_residual.result c.from_residual.ensures.1 in
    rw (p.1, p.2)
    (first_patterns
    (record {
      wanted = c.args.wanted;
      asks = asked_by c.args.wanted (flat_in c.args.flat.now);
      id = c.args.p1.now;
      tree_old = g.T.Tree.history c.args.tree.now;
      tree_new = g.T.Tree.history c.read_patterns.new.tree;
      shelf_old = g.S.Shelf.history c.args.shelf.now;
      shelf_new = g.S.Shelf.history c.args.shelf.now;
    })
    c.in_err-ignore.field-0.0 c.in_err-ignore.ensures.met)

pub returns-in_err-ignore-clause-behind : goal.returns-in_err-ignore-clause-behind
returns-in_err-ignore-clause-behind g c =
    let p = err_from_is_err_and c.from_residual.result c.from_residual.ensures.1 in
    rw (p.1, p.2) (λ is. absurd (not_parent (g.T.Tree.history c.args.tree.now) (g.T.Tree.history c.read_patterns.new.tree) c.in_err-ignore.field-0.0 c.in_err-ignore.ensures.met is))

pub returns-in_err-add_each-clause-met : goal.returns-in_err-add_each-clause-met
returns-in_err-add_each-clause-met g c =
    let p = err_from_is_err_and c.from_residual-in_err-add_each.result c.from_residual-in_err-add_each.ensures.1 in
    rw (p.1, p.2)
    (met_whole c.args.wanted (asked_by c.args.wanted (flat_in c.args.flat.now)) c.args.p1.now (g.T.Tree.history c.args.tree.now) (g.T.Tree.history c.read_patterns.new.tree)
    (g.T.Tree.history c.add_each.new.tree) c.read_patterns.ensures.passes (g.S.Shelf.history c.args.shelf.now) (g.S.Shelf.history c.add_each.new.shelf) c.in_err-add_each.field-0.0 c.in_err-add_each.ensures.met)

pub returns-in_err-add_each-clause-first : goal.returns-in_err-add_each-clause-first
returns-in_err-add_each-clause-first g c =
    let p = err_from_is_err_and c.from_residual-in_err-add_each.result c.from_residual-in_err-add_each.ensures.1 in
    rw (p.1, p.2)
    (first_whole c.args.wanted (asked_by c.args.wanted (flat_in c.args.flat.now)) c.args.p1.now (g.T.Tree.history c.args.tree.now) (g.T.Tree.history c.read_patterns.new.tree)
    (g.T.Tree.history c.add_each.new.tree) c.read_patterns.ensures.passes (g.S.Shelf.history c.args.shelf.now) (g.S.Shelf.history c.add_each.new.shelf) (marks_alike c.args.wanted (flat_in c.args.flat.now)) c.add_each.ensures.passes.past c.in_err-add_each.field-0.0 c.in_err-add_each.ensures.first)

pub returns-in_err-add_each-clause-behind : goal.returns-in_err-add_each-clause-behind
returns-in_err-add_each-clause-behind g c =
    let p = err_from_is_err_and c.from_residual-in_err-add_each.result c.from_residual-in_err-add_each.ensures.1 in
    rw (p.1, p.2)
    (λ is. had (g.T.Tree.history c.args.tree.now) (g.T.Tree.history c.read_patterns.new.tree) (g.T.Tree.history c.add_each.new.tree) c.read_patterns.ensures.passes c.add_each.ensures.passes.past c.args.wanted
    c.in_ok-ignore.ignore c.in_ok-ignore.ensures.kept)

pub returns-in_err-add_each-clause-oversize : goal.returns-in_err-add_each-clause-oversize
returns-in_err-add_each-clause-oversize g c =
    let p = err_from_is_err_and c.from_residual-in_err-add_each.result c.from_residual-in_err-add_each.ensures.1 in
    rw (p.1, p.2)
    (counts_still Listed
    (record {
      wanted = c.args.wanted;
      asks = asked_by c.args.wanted (flat_in c.args.flat.now);
      id = c.args.p1.now;
      tree_old = g.T.Tree.history c.read_patterns.new.tree;
      tree_new = g.T.Tree.history c.add_each.new.tree;
      shelf_old = g.S.Shelf.history c.args.shelf.now;
      shelf_new = g.S.Shelf.history c.add_each.new.shelf;
    })
    c.in_err-add_each.field-0.0 _ _ c.in_ok-ignore.ensures.oversize c.in_err-add_each.ensures.met)

-- ---- what the tree is asked

pub returns-in_err-ignore-clause-asked : goal.returns-in_err-ignore-clause-asked
returns-in_err-ignore-clause-asked g c = λ told.
    asks_first nothing_holds c.args.wanted (asked_by c.args.wanted (flat_in c.args.flat.now)) (g.T.Tree.history c.args.tree.now) (g.T.Tree.history c.read_patterns.new.tree) c.read_patterns.ensures.passes.past (c.read_patterns.ensures.asked told)

pub returns-in_err-add_each-clause-asked : goal.returns-in_err-add_each-clause-asked
returns-in_err-add_each-clause-asked g c = λ told.
    asks_second nothing_holds c.args.wanted (asked_by c.args.wanted (flat_in c.args.flat.now)) (g.T.Tree.history c.args.tree.now) (g.T.Tree.history c.read_patterns.new.tree)
    (g.T.Tree.history c.add_each.new.tree) c.read_patterns.ensures.passes.past c.add_each.ensures.passes.past (c.read_patterns.ensures.asked told) (c.add_each.ensures.asked (c.read_patterns.ensures.passes.past.told ∙ told))

pub returns-clause-asked : goal.returns-clause-asked
returns-clause-asked g c = λ told.
    let old = g.T.Tree.history c.args.tree.now in
    let mid = g.T.Tree.history c.read_patterns.new.tree in
    let later = g.T.Tree.history c.add_each.new.tree in
    let new = g.T.Tree.history c.list_others.new.tree in
    let past = passes_trans old mid later c.read_patterns.ensures.passes c.add_each.ensures.passes in
    all_asks nothing_holds nothing_known c.args.wanted (asked_by c.args.wanted (flat_in c.args.flat.now)) (pieces_of c.in_ok-ignore.ignore) old mid later new c.read_patterns.ensures.passes c.add_each.ensures.passes c.list_others.ensures.passes
    (state_still c.args.wanted old mid c.in_ok-ignore.ignore c.in_ok-ignore.ensures.kept)
    (state_given old mid new c.read_patterns.ensures.passes (passes_trans mid later new c.add_each.ensures.passes c.list_others.ensures.passes).past c.args.wanted c.in_ok-ignore.ignore c.in_ok-ignore.ensures.kept)
    (λ needed.
    unheld_none nothing_known (pieces_of c.in_ok-ignore.ignore) old new (passes_trans old mid new c.read_patterns.ensures.passes (passes_trans mid later new c.add_each.ensures.passes c.list_others.ensures.passes)).past
    (state_given old mid new c.read_patterns.ensures.passes (passes_trans mid later new c.add_each.ensures.passes c.list_others.ensures.passes).past c.args.wanted c.in_ok-ignore.ignore c.in_ok-ignore.ensures.kept needed))
    (c.read_patterns.ensures.asked told)
    (c.add_each.ensures.asked (c.read_patterns.ensures.passes.past.told ∙ told))
    (c.list_others.ensures.asked (past.past.told ∙ told) old past (known_none later old.last past.past.later))

pub returns-clause-asked_own : goal.returns-clause-asked_own
returns-clause-asked_own g c = λ ours.
    let old = g.T.Tree.history c.args.tree.now in
    let mid = g.T.Tree.history c.read_patterns.new.tree in
    let later = g.T.Tree.history c.add_each.new.tree in
    let new = g.T.Tree.history c.list_others.new.tree in
    let past = passes_trans old mid later c.read_patterns.ensures.passes c.add_each.ensures.passes in
    if_ok_on c.list_others.result _ _
    (λ listed others.
    own_asks nothing_holds nothing_known c.args.wanted (asked_by c.args.wanted (flat_in c.args.flat.now)) (pieces_of c.in_ok-ignore.ignore) old mid later new c.read_patterns.ensures.passes c.add_each.ensures.passes c.list_others.ensures.passes
    (state_still c.args.wanted old mid c.in_ok-ignore.ignore c.in_ok-ignore.ensures.kept)
    (state_given old mid new c.read_patterns.ensures.passes (passes_trans mid later new c.add_each.ensures.passes c.list_others.ensures.passes).past c.args.wanted c.in_ok-ignore.ignore c.in_ok-ignore.ensures.kept)
    (λ needed.
    unheld_none nothing_known (pieces_of c.in_ok-ignore.ignore) old new (passes_trans old mid new c.read_patterns.ensures.passes (passes_trans mid later new c.add_each.ensures.passes c.list_others.ensures.passes)).past
    (state_given old mid new c.read_patterns.ensures.passes (passes_trans mid later new c.add_each.ensures.passes c.list_others.ensures.passes).past c.args.wanted c.in_ok-ignore.ignore c.in_ok-ignore.ensures.kept needed))
    (c.in_ok-ignore.ensures.asked_own (ours_first old mid new (passes_trans mid later new c.add_each.ensures.passes c.list_others.ensures.passes).past ours))
    (c.add_each.ensures.asked (c.read_patterns.ensures.passes.past.told ∙ ours.told))
    (c.list_others.ensures.asked (past.past.told ∙ ours.told) old past (known_none later old.last past.past.later)))
    c.list_others.ensures.listed

-- ---- what is asked below `.hg`

pub returns-in_err-add_each-clause-unasked : goal.returns-in_err-add_each-clause-unasked
returns-in_err-add_each-clause-unasked g c = λ never.
    let later = g.T.Tree.history c.add_each.new.tree in
    c.add_each.ensures.unasked
    (never_each (asked_by c.args.wanted (flat_in c.args.flat.now)) (g.T.Tree.history c.args.tree.now) (g.T.Tree.history c.read_patterns.new.tree) later later c.read_patterns.ensures.passes.past c.add_each.ensures.passes.past
    (extends_same later) never)

pub returns-clause-unasked : goal.returns-clause-unasked
returns-clause-unasked g c = λ never.
    c.add_each.ensures.unasked
    (never_each (asked_by c.args.wanted (flat_in c.args.flat.now)) (g.T.Tree.history c.args.tree.now) (g.T.Tree.history c.read_patterns.new.tree) (g.T.Tree.history c.add_each.new.tree) (g.T.Tree.history c.list_others.new.tree)
    c.read_patterns.ensures.passes.past c.add_each.ensures.passes.past c.list_others.ensures.passes.past never)

pub returns-in_err-ignore-clause-asked_store : goal.returns-in_err-ignore-clause-asked_store
returns-in_err-ignore-clause-asked_store g c = λ told.
    store_none
    (record {
      wanted = c.args.wanted;
      asks = asked_by c.args.wanted (flat_in c.args.flat.now);
      id = c.args.p1.now;
      tree_old = g.T.Tree.history c.args.tree.now;
      tree_new = g.T.Tree.history c.read_patterns.new.tree;
      shelf_old = g.S.Shelf.history c.args.shelf.now;
      shelf_new = g.S.Shelf.history c.args.shelf.now;
    })
    (shelf.passes_same (g.S.Shelf.history c.args.shelf.now)) refl

pub returns-in_err-add_each-clause-asked_store : goal.returns-in_err-add_each-clause-asked_store
returns-in_err-add_each-clause-asked_store g c = λ told.
    store_longer
    (record {
      wanted = c.args.wanted;
      asks = asked_by c.args.wanted (flat_in c.args.flat.now);
      id = c.args.p1.now;
      tree_old = g.T.Tree.history c.read_patterns.new.tree;
      tree_new = g.T.Tree.history c.add_each.new.tree;
      shelf_old = g.S.Shelf.history c.args.shelf.now;
      shelf_new = g.S.Shelf.history c.add_each.new.shelf;
    })
    (g.T.Tree.history c.args.tree.now) (g.T.Tree.history c.add_each.new.tree) c.read_patterns.ensures.passes.past c.add_each.ensures.passes.past (extends_same (g.T.Tree.history c.add_each.new.tree)) (c.add_each.ensures.store told)

pub returns-clause-asked_store : goal.returns-clause-asked_store
returns-clause-asked_store g c = λ told.
    store_longer
    (record {
      wanted = c.args.wanted;
      asks = asked_by c.args.wanted (flat_in c.args.flat.now);
      id = c.args.p1.now;
      tree_old = g.T.Tree.history c.read_patterns.new.tree;
      tree_new = g.T.Tree.history c.add_each.new.tree;
      shelf_old = g.S.Shelf.history c.args.shelf.now;
      shelf_new = g.S.Shelf.history c.add_each.new.shelf;
    })
    (g.T.Tree.history c.args.tree.now) (g.T.Tree.history c.list_others.new.tree) c.read_patterns.ensures.passes.past c.add_each.ensures.passes.past c.list_others.ensures.passes.past (c.add_each.ensures.store told)

-- ---- which bytes are read

pub returns-in_err-ignore-clause-reads : goal.returns-in_err-ignore-clause-reads
returns-in_err-ignore-clause-reads g c = λ told.
    let old = g.T.Tree.history c.args.tree.now in
    let mid = g.T.Tree.history c.read_patterns.new.tree in
    asks_needed
    (record {
      wanted = c.args.wanted;
      asks = asked_by c.args.wanted (flat_in c.args.flat.now);
      id = c.args.p1.now;
      tree_old = mid;
      tree_new = mid;
      shelf_old = g.S.Shelf.history c.args.shelf.now;
      shelf_new = g.S.Shelf.history c.args.shelf.now;
    })
    old mid c.read_patterns.ensures.passes (passes_same mid) (passes_same mid) (λ dir. Unit {0}) (c.read_patterns.ensures.asked told)
    (reads_no
    (record {
      wanted = c.args.wanted;
      asks = asked_by c.args.wanted (flat_in c.args.flat.now);
      id = c.args.p1.now;
      tree_old = mid;
      tree_new = mid;
      shelf_old = g.S.Shelf.history c.args.shelf.now;
      shelf_new = g.S.Shelf.history c.args.shelf.now;
    })
    refl)
    (asks_none (λ dir. Unit {0}) mid mid refl)

pub returns-in_err-add_each-clause-reads : goal.returns-in_err-add_each-clause-reads
returns-in_err-add_each-clause-reads g c = λ told.
    let old = g.T.Tree.history c.args.tree.now in
    let mid = g.T.Tree.history c.read_patterns.new.tree in
    let later = g.T.Tree.history c.add_each.new.tree in
    asks_needed
    (record {
      wanted = c.args.wanted;
      asks = asked_by c.args.wanted (flat_in c.args.flat.now);
      id = c.args.p1.now;
      tree_old = mid;
      tree_new = later;
      shelf_old = g.S.Shelf.history c.args.shelf.now;
      shelf_new = g.S.Shelf.history c.add_each.new.shelf;
    })
    old later c.read_patterns.ensures.passes c.add_each.ensures.passes (passes_same later) (λ dir. Unit {0}) (c.read_patterns.ensures.asked told) (c.add_each.ensures.reads (c.read_patterns.ensures.passes.past.told ∙ told))
    (asks_none (λ dir. Unit {0}) later later refl)

pub returns-clause-reads : goal.returns-clause-reads
returns-clause-reads g c = λ told.
    let old = g.T.Tree.history c.args.tree.now in
    let mid = g.T.Tree.history c.read_patterns.new.tree in
    let later = g.T.Tree.history c.add_each.new.tree in
    let new = g.T.Tree.history c.list_others.new.tree in
    let past = passes_trans old mid later c.read_patterns.ensures.passes c.add_each.ensures.passes in
    asks_needed
    (record {
      wanted = c.args.wanted;
      asks = asked_by c.args.wanted (flat_in c.args.flat.now);
      id = c.args.p1.now;
      tree_old = mid;
      tree_new = later;
      shelf_old = g.S.Shelf.history c.args.shelf.now;
      shelf_new = g.S.Shelf.history c.add_each.new.shelf;
    })
    old new c.read_patterns.ensures.passes c.add_each.ensures.passes c.list_others.ensures.passes _ (c.read_patterns.ensures.asked told) (c.add_each.ensures.reads (c.read_patterns.ensures.passes.past.told ∙ told))
    (c.list_others.ensures.asked (past.past.told ∙ told) old past (known_none later old.last past.past.later))
