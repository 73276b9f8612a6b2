use Rattle.std.proofs.Common.{[], append-nil, Err, inl, refl, sym, subst, ◌∙◌}
use Rattle.std.proofs.lemmas.Result.{err_from_is_err_and}
use Rattle.hg_tree.proofs.Histories.{extends_same}
use Rattle.hg_tree.proofs.Spans.{ours_first, ours_second, passes_same, passes_trans}
use Rattle.hg_flat.specs.Asked.{nothing_holds}
use Rattle.hg_flat.specs.Course.{pieces_of}
use Rattle.hg_flat.specs.Patterns.{Warns}
use Rattle.hg_flat.proofs.Asking.{never_each}
use Rattle.hg_flat.proofs.Asks.{asks_none}
use Rattle.hg_flat.proofs.Calls.{all_asks, asks_first, asks_second, own_asks, unheld_none}
use Rattle.hg_flat.proofs.Needing.{asks_needed, reads_no}
use Rattle.hg_flat.proofs.Refusing.{had, is_kept, state_given, state_still, warns}
use Rattle.hg_flat.proofs.Spanning.{counts_listing, counts_still, first_listing, first_patterns, first_whole, met_listing, met_patterns, met_whole, not_parent, of_listing_none}
use Rattle.hg_flat.proofs.Storing.{store_longer, store_none}
use Rattle.hg_shelf.proofs.Histories as shelves
use Rattle.hg_mixed.specs.Held.{table}
use Rattle.hg_walk.specs.Passing.{known_of}
use Rattle.hg_walk.specs.Walking.{asked_unvouched, first_id, walk_status}
use Rattle.hg_walk.specs.declared.walked.Walked.{Walked}
use Rattle.hg_walk.proofs.Starts.{asks_behind, kept_behind, lacks_behind, own_behind}
use Rattle.hg_walk.proofs.Tells.{unvouched_alike}
use Rattle.hg_walk.proofs.Walks.{earned, full, known_earlier, noted, noted_by, recorded, served, still}
use Rattle.hg_walk.proofs.walking.walk.Goals as goal

pub returns-clause-still : goal.returns-clause-still
returns-clause-still g c =
    let old = g.T.Tree.history c.args.tree.now in
    let at = g.T.Tree.history c.boundary_of.new.tree in
    let mid = g.T.Tree.history c.read_patterns.new.tree in
    let later = g.T.Tree.history c.tell_all.new.tree in
    let new = g.T.Tree.history c.list_others.new.tree in
    let start = g.S.Shelf.history c.args.shelf.now in
    let files = g.S.Shelf.history c.tell_all.new.shelf in
    let t = table c.args.mixed.now in
    still c.args.wanted t c.in_ok-tracked.tracked.keeper.children.items c.in_ok-tracked.tracked.keeper.marks.items c.in_ok-tracked.tracked.rows.items old mid later new (passes_trans old at mid c.boundary_of.ensures.passes c.read_patterns.ensures.passes) c.tell_all.ensures.passes c.list_others.ensures.passes start files c.in_ok-tracked.ensures.told c.in_ok-ignore.ignore (kept_behind old at mid c.boundary_of.ensures.passes c.read_patterns.ensures.passes c.args.wanted c.in_ok-ignore.ignore c.in_ok-ignore.ensures.kept) c.in_ok-listed.listed.rows c.in_ok-listed.ensures.listed

pub returns-clause-full : goal.returns-clause-full
returns-clause-full g c =
    let old = g.T.Tree.history c.args.tree.now in
    let at = g.T.Tree.history c.boundary_of.new.tree in
    let mid = g.T.Tree.history c.read_patterns.new.tree in
    let later = g.T.Tree.history c.tell_all.new.tree in
    let new = g.T.Tree.history c.list_others.new.tree in
    let start = g.S.Shelf.history c.args.shelf.now in
    let files = g.S.Shelf.history c.tell_all.new.shelf in
    let t = table c.args.mixed.now in
    full c.args.wanted t c.in_ok-tracked.tracked.keeper.children.items c.in_ok-tracked.tracked.keeper.marks.items c.in_ok-tracked.tracked.rows.items old mid later new (passes_trans old at mid c.boundary_of.ensures.passes c.read_patterns.ensures.passes) c.tell_all.ensures.passes c.list_others.ensures.passes start files c.in_ok-tracked.ensures.told c.in_ok-ignore.ignore (kept_behind old at mid c.boundary_of.ensures.passes c.read_patterns.ensures.passes c.args.wanted c.in_ok-ignore.ignore c.in_ok-ignore.ensures.kept) c.in_ok-listed.listed.rows c.in_ok-listed.ensures.listed

pub returns-clause-served : goal.returns-clause-served
returns-clause-served g c =
    let old = g.T.Tree.history c.args.tree.now in
    let at = g.T.Tree.history c.boundary_of.new.tree in
    let mid = g.T.Tree.history c.read_patterns.new.tree in
    let later = g.T.Tree.history c.tell_all.new.tree in
    let new = g.T.Tree.history c.list_others.new.tree in
    let start = g.S.Shelf.history c.args.shelf.now in
    let files = g.S.Shelf.history c.tell_all.new.shelf in
    let t = table c.args.mixed.now in
    served c.args.wanted t c.in_ok-tracked.tracked.keeper.children.items c.in_ok-tracked.tracked.keeper.marks.items c.in_ok-tracked.tracked.rows.items old mid later new (passes_trans old at mid c.boundary_of.ensures.passes c.read_patterns.ensures.passes) c.tell_all.ensures.passes c.list_others.ensures.passes start files c.in_ok-tracked.ensures.told c.in_ok-ignore.ignore (kept_behind old at mid c.boundary_of.ensures.passes c.read_patterns.ensures.passes c.args.wanted c.in_ok-ignore.ignore c.in_ok-ignore.ensures.kept) c.in_ok-listed.listed.rows c.in_ok-listed.ensures.listed

pub returns-clause-noted : goal.returns-clause-noted
returns-clause-noted g c =
    let old = g.T.Tree.history c.args.tree.now in
    let at = g.T.Tree.history c.boundary_of.new.tree in
    let mid = g.T.Tree.history c.read_patterns.new.tree in
    let later = g.T.Tree.history c.tell_all.new.tree in
    let new = g.T.Tree.history c.list_others.new.tree in
    let start = g.S.Shelf.history c.args.shelf.now in
    let files = g.S.Shelf.history c.tell_all.new.shelf in
    let t = table c.args.mixed.now in
    noted c.args.wanted t c.in_ok-tracked.tracked.keeper.children.items c.in_ok-tracked.tracked.keeper.marks.items c.in_ok-tracked.tracked.rows.items old mid later new (passes_trans old at mid c.boundary_of.ensures.passes c.read_patterns.ensures.passes) c.tell_all.ensures.passes c.list_others.ensures.passes start files c.in_ok-tracked.tracked.notes c.in_ok-boundary.boundary c.in_ok-tracked.ensures.noted at c.boundary_of.ensures.passes c.read_patterns.ensures.passes c.tell_all.ensures.passes_shelf.past.later c.in_ok-boundary.ensures.boundary

pub returns-clause-earned : goal.returns-clause-earned
returns-clause-earned g c =
    let old = g.T.Tree.history c.args.tree.now in
    let at = g.T.Tree.history c.boundary_of.new.tree in
    let mid = g.T.Tree.history c.read_patterns.new.tree in
    let later = g.T.Tree.history c.tell_all.new.tree in
    let new = g.T.Tree.history c.list_others.new.tree in
    let start = g.S.Shelf.history c.args.shelf.now in
    let files = g.S.Shelf.history c.tell_all.new.shelf in
    let t = table c.args.mixed.now in
    earned c.args.wanted t c.in_ok-tracked.tracked.keeper.children.items c.in_ok-tracked.tracked.keeper.marks.items c.in_ok-tracked.tracked.rows.items old mid later new (passes_trans old at mid c.boundary_of.ensures.passes c.read_patterns.ensures.passes) c.tell_all.ensures.passes c.list_others.ensures.passes start files c.in_ok-tracked.tracked.notes c.in_ok-boundary.boundary c.in_ok-tracked.ensures.noted at c.boundary_of.ensures.passes c.read_patterns.ensures.passes c.tell_all.ensures.passes_shelf.past.later c.in_ok-boundary.ensures.boundary

pub returns-clause-recorded : goal.returns-clause-recorded
returns-clause-recorded g c =
    let old = g.T.Tree.history c.args.tree.now in
    let at = g.T.Tree.history c.boundary_of.new.tree in
    let mid = g.T.Tree.history c.read_patterns.new.tree in
    let later = g.T.Tree.history c.tell_all.new.tree in
    let new = g.T.Tree.history c.list_others.new.tree in
    let start = g.S.Shelf.history c.args.shelf.now in
    let files = g.S.Shelf.history c.tell_all.new.shelf in
    let t = table c.args.mixed.now in
    recorded c.args.wanted t c.in_ok-tracked.tracked.keeper.children.items c.in_ok-tracked.tracked.keeper.marks.items c.in_ok-tracked.tracked.rows.items old mid later new (passes_trans old at mid c.boundary_of.ensures.passes c.read_patterns.ensures.passes) c.tell_all.ensures.passes c.list_others.ensures.passes start files c.in_ok-tracked.tracked.notes c.in_ok-boundary.boundary c.in_ok-tracked.ensures.noted at c.boundary_of.ensures.passes c.read_patterns.ensures.passes c.tell_all.ensures.passes_shelf.past.later c.in_ok-boundary.ensures.boundary

pub returns-clause-noted_by : goal.returns-clause-noted_by
returns-clause-noted_by g c = λ wants.
    let old = g.T.Tree.history c.args.tree.now in
    let at = g.T.Tree.history c.boundary_of.new.tree in
    let mid = g.T.Tree.history c.read_patterns.new.tree in
    let later = g.T.Tree.history c.tell_all.new.tree in
    let new = g.T.Tree.history c.list_others.new.tree in
    let start = g.S.Shelf.history c.args.shelf.now in
    let files = g.S.Shelf.history c.tell_all.new.shelf in
    let t = table c.args.mixed.now in
    noted_by c.args.wanted t c.in_ok-tracked.tracked.keeper.children.items c.in_ok-tracked.tracked.keeper.marks.items c.in_ok-tracked.tracked.rows.items old mid later new (passes_trans old at mid c.boundary_of.ensures.passes c.read_patterns.ensures.passes) c.tell_all.ensures.passes c.list_others.ensures.passes start files c.in_ok-tracked.tracked.notes c.in_ok-boundary.boundary c.in_ok-tracked.ensures.noted at c.boundary_of.ensures.passes c.read_patterns.ensures.passes c.tell_all.ensures.passes_shelf.past.later c.in_ok-boundary.ensures.boundary wants

-- ---- the patterns

pub list_others-requires : goal.list_others-requires
list_others-requires g c =
    let old = g.T.Tree.history c.args.tree.now in
    let at = g.T.Tree.history c.boundary_of.new.tree in
    let mid = g.T.Tree.history c.read_patterns.new.tree in
    is_kept c.args.wanted old mid c.in_ok-ignore.ignore (kept_behind old at mid c.boundary_of.ensures.passes c.read_patterns.ensures.passes c.args.wanted c.in_ok-ignore.ignore c.in_ok-ignore.ensures.kept)

pub returns-clause-warns : goal.returns-clause-warns
returns-clause-warns g c =
    let old = g.T.Tree.history c.args.tree.now in
    let at = g.T.Tree.history c.boundary_of.new.tree in
    let mid = g.T.Tree.history c.read_patterns.new.tree in
    let later = g.T.Tree.history c.tell_all.new.tree in
    let new = g.T.Tree.history c.list_others.new.tree in
    subst (Warns c.args.wanted old new) (sym c.in_ok-listed.ensures.warned)
    (warns old mid new (passes_trans old at mid c.boundary_of.ensures.passes c.read_patterns.ensures.passes) (passes_trans mid later new c.tell_all.ensures.passes c.list_others.ensures.passes).past c.args.wanted c.in_ok-ignore.ignore (kept_behind old at mid c.boundary_of.ensures.passes c.read_patterns.ensures.passes c.args.wanted c.in_ok-ignore.ignore c.in_ok-ignore.ensures.kept))

pub returns-in_err-ignore-clause-met : goal.returns-in_err-ignore-clause-met
returns-in_err-ignore-clause-met g c =
    let old = g.T.Tree.history c.args.tree.now in
    let at = g.T.Tree.history c.boundary_of.new.tree in
    let mid = g.T.Tree.history c.read_patterns.new.tree in
    let p = err_from_is_err_and c.from_residual-in_err-ignore.result c.from_residual-in_err-ignore.ensures.1 in
    rw (p.1, p.2)
    (met_patterns (walk_status c.args.wanted (table c.args.mixed.now) old mid (g.S.Shelf.history c.args.shelf.now) (g.S.Shelf.history c.args.shelf.now)) c.in_err-ignore.field-0.0 c.in_err-ignore.ensures.needed
    (lacks_behind old at mid c.boundary_of.ensures.passes c.read_patterns.ensures.passes c.in_err-ignore.field-0.0 c.in_err-ignore.ensures.met))

pub returns-in_err-ignore-clause-first : goal.returns-in_err-ignore-clause-first
returns-in_err-ignore-clause-first g c =
    let old = g.T.Tree.history c.args.tree.now in
    let at = g.T.Tree.history c.boundary_of.new.tree in
    let mid = g.T.Tree.history c.read_patterns.new.tree in
    let p = err_from_is_err_and c.from_residual-in_err-ignore.result c.from_residual-in_err-ignore.ensures.1 in
    rw (p.1, p.2)
    (first_patterns (walk_status c.args.wanted (table c.args.mixed.now) old mid (g.S.Shelf.history c.args.shelf.now) (g.S.Shelf.history c.args.shelf.now)) c.in_err-ignore.field-0.0
    (lacks_behind old at mid c.boundary_of.ensures.passes c.read_patterns.ensures.passes c.in_err-ignore.field-0.0 c.in_err-ignore.ensures.met))

pub returns-in_err-ignore-clause-behind : goal.returns-in_err-ignore-clause-behind
returns-in_err-ignore-clause-behind g c =
    let old = g.T.Tree.history c.args.tree.now in
    let at = g.T.Tree.history c.boundary_of.new.tree in
    let mid = g.T.Tree.history c.read_patterns.new.tree in
    let p = err_from_is_err_and c.from_residual-in_err-ignore.result c.from_residual-in_err-ignore.ensures.1 in
    rw (p.1, p.2)
    (λ is. absurd (not_parent at mid c.in_err-ignore.field-0.0 c.in_err-ignore.ensures.met is))

pub returns-in_err-tracked-clause-met : goal.returns-in_err-tracked-clause-met
returns-in_err-tracked-clause-met g c =
    let old = g.T.Tree.history c.args.tree.now in
    let at = g.T.Tree.history c.boundary_of.new.tree in
    let mid = g.T.Tree.history c.read_patterns.new.tree in
    let later = g.T.Tree.history c.tell_all.new.tree in
    let p = err_from_is_err_and c.from_residual-in_err-tracked.result c.from_residual-in_err-tracked.ensures.1 in
    rw (p.1, p.2)
    (met_whole c.args.wanted (asked_unvouched c.args.wanted (table c.args.mixed.now)) (first_id (table c.args.mixed.now)) old mid later (passes_trans old at mid c.boundary_of.ensures.passes c.read_patterns.ensures.passes) (g.S.Shelf.history c.args.shelf.now) (g.S.Shelf.history c.tell_all.new.shelf) c.in_err-tracked.field-0.0 c.in_err-tracked.ensures.met)

pub returns-in_err-tracked-clause-first : goal.returns-in_err-tracked-clause-first
returns-in_err-tracked-clause-first g c =
    let old = g.T.Tree.history c.args.tree.now in
    let at = g.T.Tree.history c.boundary_of.new.tree in
    let mid = g.T.Tree.history c.read_patterns.new.tree in
    let later = g.T.Tree.history c.tell_all.new.tree in
    let p = err_from_is_err_and c.from_residual-in_err-tracked.result c.from_residual-in_err-tracked.ensures.1 in
    rw (p.1, p.2)
    (first_whole c.args.wanted (asked_unvouched c.args.wanted (table c.args.mixed.now)) (first_id (table c.args.mixed.now)) old mid later (passes_trans old at mid c.boundary_of.ensures.passes c.read_patterns.ensures.passes) (g.S.Shelf.history c.args.shelf.now) (g.S.Shelf.history c.tell_all.new.shelf) (unvouched_alike c.args.wanted (table c.args.mixed.now)) c.tell_all.ensures.passes.past c.in_err-tracked.field-0.0 c.in_err-tracked.ensures.first)

pub returns-in_err-tracked-clause-behind : goal.returns-in_err-tracked-clause-behind
returns-in_err-tracked-clause-behind g c =
    let old = g.T.Tree.history c.args.tree.now in
    let at = g.T.Tree.history c.boundary_of.new.tree in
    let mid = g.T.Tree.history c.read_patterns.new.tree in
    let later = g.T.Tree.history c.tell_all.new.tree in
    let p = err_from_is_err_and c.from_residual-in_err-tracked.result c.from_residual-in_err-tracked.ensures.1 in
    rw (p.1, p.2)
    (λ is. had old mid later (passes_trans old at mid c.boundary_of.ensures.passes c.read_patterns.ensures.passes) c.tell_all.ensures.passes.past c.args.wanted c.in_ok-ignore.ignore (kept_behind old at mid c.boundary_of.ensures.passes c.read_patterns.ensures.passes c.args.wanted c.in_ok-ignore.ignore c.in_ok-ignore.ensures.kept))

pub returns-in_err-tracked-clause-oversize : goal.returns-in_err-tracked-clause-oversize
returns-in_err-tracked-clause-oversize g c =
    let old = g.T.Tree.history c.args.tree.now in
    let at = g.T.Tree.history c.boundary_of.new.tree in
    let mid = g.T.Tree.history c.read_patterns.new.tree in
    let later = g.T.Tree.history c.tell_all.new.tree in
    let p = err_from_is_err_and c.from_residual-in_err-tracked.result c.from_residual-in_err-tracked.ensures.1 in
    rw (p.1, p.2)
    (counts_still Walked (walk_status c.args.wanted (table c.args.mixed.now) mid later (g.S.Shelf.history c.args.shelf.now) (g.S.Shelf.history c.tell_all.new.shelf)) c.in_err-tracked.field-0.0 _ _ c.in_ok-ignore.ensures.oversize c.in_err-tracked.ensures.met)

pub returns-in_err-listed-clause-met : goal.returns-in_err-listed-clause-met
returns-in_err-listed-clause-met g c =
    let old = g.T.Tree.history c.args.tree.now in
    let at = g.T.Tree.history c.boundary_of.new.tree in
    let mid = g.T.Tree.history c.read_patterns.new.tree in
    let later = g.T.Tree.history c.tell_all.new.tree in
    let new = g.T.Tree.history c.list_others.new.tree in
    let p = err_from_is_err_and c.from_residual-in_err-listed.result c.from_residual-in_err-listed.ensures.1 in
    rw (p.1, p.2)
    (met_listing (walk_status c.args.wanted (table c.args.mixed.now) old new (g.S.Shelf.history c.args.shelf.now) (g.S.Shelf.history c.tell_all.new.shelf)) c.in_err-listed.field-0.0 c.in_err-listed.ensures.kind)

pub returns-in_err-listed-clause-first : goal.returns-in_err-listed-clause-first
returns-in_err-listed-clause-first g c =
    let old = g.T.Tree.history c.args.tree.now in
    let at = g.T.Tree.history c.boundary_of.new.tree in
    let mid = g.T.Tree.history c.read_patterns.new.tree in
    let later = g.T.Tree.history c.tell_all.new.tree in
    let new = g.T.Tree.history c.list_others.new.tree in
    let p = err_from_is_err_and c.from_residual-in_err-listed.result c.from_residual-in_err-listed.ensures.1 in
    rw (p.1, p.2)
    (first_listing (walk_status c.args.wanted (table c.args.mixed.now) old new (g.S.Shelf.history c.args.shelf.now) (g.S.Shelf.history c.tell_all.new.shelf)) c.in_err-listed.field-0.0 c.in_err-listed.ensures.kind)

pub returns-in_err-listed-clause-behind : goal.returns-in_err-listed-clause-behind
returns-in_err-listed-clause-behind g c =
    let p = err_from_is_err_and c.from_residual-in_err-listed.result c.from_residual-in_err-listed.ensures.1 in
    rw (p.1, p.2)
    (λ is. absurd (of_listing_none c.in_err-listed.field-0.0 c.in_err-listed.ensures.kind is))

pub returns-in_err-listed-clause-oversize : goal.returns-in_err-listed-clause-oversize
returns-in_err-listed-clause-oversize g c =
    let p = err_from_is_err_and c.from_residual-in_err-listed.result c.from_residual-in_err-listed.ensures.1 in
    rw (p.1, p.2)
    (counts_listing Walked (Err c.in_err-listed.field-0.0) _ _ c.in_ok-ignore.ensures.oversize c.in_err-listed.ensures.kind)

-- ---- what the tree is asked

pub returns-in_err-boundary-clause-asked : goal.returns-in_err-boundary-clause-asked
returns-in_err-boundary-clause-asked g c =
    let old = g.T.Tree.history c.args.tree.now in
    let at = g.T.Tree.history c.boundary_of.new.tree in
    let asks = asked_unvouched c.args.wanted (table c.args.mixed.now) in
    λ told. asks_first nothing_holds c.args.wanted asks old at c.boundary_of.ensures.passes.past ([], inl refl, c.boundary_of.ensures.asked told ∙ sym (append-nil old.asked))

pub returns-in_err-ignore-clause-asked : goal.returns-in_err-ignore-clause-asked
returns-in_err-ignore-clause-asked g c =
    let old = g.T.Tree.history c.args.tree.now in
    let at = g.T.Tree.history c.boundary_of.new.tree in
    let mid = g.T.Tree.history c.read_patterns.new.tree in
    let asks = asked_unvouched c.args.wanted (table c.args.mixed.now) in
    λ told. asks_first nothing_holds c.args.wanted asks old mid (passes_trans old at mid c.boundary_of.ensures.passes c.read_patterns.ensures.passes).past (asks_behind old at mid c.boundary_of.ensures.passes c.read_patterns.ensures.passes c.args.wanted (c.boundary_of.ensures.asked told) (c.read_patterns.ensures.asked (c.boundary_of.ensures.passes.past.told ∙ told)))

pub returns-in_err-tracked-clause-asked : goal.returns-in_err-tracked-clause-asked
returns-in_err-tracked-clause-asked g c =
    let old = g.T.Tree.history c.args.tree.now in
    let at = g.T.Tree.history c.boundary_of.new.tree in
    let mid = g.T.Tree.history c.read_patterns.new.tree in
    let later = g.T.Tree.history c.tell_all.new.tree in
    let asks = asked_unvouched c.args.wanted (table c.args.mixed.now) in
    λ told. asks_second nothing_holds c.args.wanted asks old mid later (passes_trans old at mid c.boundary_of.ensures.passes c.read_patterns.ensures.passes).past c.tell_all.ensures.passes.past (asks_behind old at mid c.boundary_of.ensures.passes c.read_patterns.ensures.passes c.args.wanted (c.boundary_of.ensures.asked told) (c.read_patterns.ensures.asked (c.boundary_of.ensures.passes.past.told ∙ told))) (c.tell_all.ensures.asked ((c.read_patterns.ensures.passes.past.told ∙ c.boundary_of.ensures.passes.past.told) ∙ told))

pub returns-in_err-listed-clause-asked : goal.returns-in_err-listed-clause-asked
returns-in_err-listed-clause-asked g c =
    let old = g.T.Tree.history c.args.tree.now in
    let at = g.T.Tree.history c.boundary_of.new.tree in
    let mid = g.T.Tree.history c.read_patterns.new.tree in
    let later = g.T.Tree.history c.tell_all.new.tree in
    let new = g.T.Tree.history c.list_others.new.tree in
    let asks = asked_unvouched c.args.wanted (table c.args.mixed.now) in
    λ told.
    all_asks nothing_holds (known_of c.in_ok-tracked.tracked.keeper.children.items c.in_ok-tracked.tracked.keeper.marks.items) c.args.wanted asks (pieces_of c.in_ok-ignore.ignore) old mid later new (passes_trans old at mid c.boundary_of.ensures.passes c.read_patterns.ensures.passes) c.tell_all.ensures.passes c.list_others.ensures.passes (state_still c.args.wanted old mid c.in_ok-ignore.ignore (kept_behind old at mid c.boundary_of.ensures.passes c.read_patterns.ensures.passes c.args.wanted c.in_ok-ignore.ignore c.in_ok-ignore.ensures.kept))
    (state_given old mid new (passes_trans old at mid c.boundary_of.ensures.passes c.read_patterns.ensures.passes) (passes_trans mid later new c.tell_all.ensures.passes c.list_others.ensures.passes).past c.args.wanted c.in_ok-ignore.ignore (kept_behind old at mid c.boundary_of.ensures.passes c.read_patterns.ensures.passes c.args.wanted c.in_ok-ignore.ignore c.in_ok-ignore.ensures.kept))
    (λ needed.
    unheld_none (known_of c.in_ok-tracked.tracked.keeper.children.items c.in_ok-tracked.tracked.keeper.marks.items) (pieces_of c.in_ok-ignore.ignore) old new (passes_trans old mid new (passes_trans old at mid c.boundary_of.ensures.passes c.read_patterns.ensures.passes) (passes_trans mid later new c.tell_all.ensures.passes c.list_others.ensures.passes)).past
    (state_given old mid new (passes_trans old at mid c.boundary_of.ensures.passes c.read_patterns.ensures.passes) (passes_trans mid later new c.tell_all.ensures.passes c.list_others.ensures.passes).past c.args.wanted c.in_ok-ignore.ignore (kept_behind old at mid c.boundary_of.ensures.passes c.read_patterns.ensures.passes c.args.wanted c.in_ok-ignore.ignore c.in_ok-ignore.ensures.kept) needed))
    (asks_behind old at mid c.boundary_of.ensures.passes c.read_patterns.ensures.passes c.args.wanted (c.boundary_of.ensures.asked told) (c.read_patterns.ensures.asked (c.boundary_of.ensures.passes.past.told ∙ told))) (c.tell_all.ensures.asked ((c.read_patterns.ensures.passes.past.told ∙ c.boundary_of.ensures.passes.past.told) ∙ told)) (c.list_others.ensures.asked (c.tell_all.ensures.passes.past.told ∙ (c.read_patterns.ensures.passes.past.told ∙ c.boundary_of.ensures.passes.past.told) ∙ told) old (passes_trans old mid later (passes_trans old at mid c.boundary_of.ensures.passes c.read_patterns.ensures.passes) c.tell_all.ensures.passes)
    (known_earlier (known_of c.in_ok-tracked.tracked.keeper.children.items c.in_ok-tracked.tracked.keeper.marks.items) later mid.last old.last (passes_trans old at mid c.boundary_of.ensures.passes c.read_patterns.ensures.passes).past.later c.in_ok-tracked.ensures.told.known))

pub returns-clause-asked : goal.returns-clause-asked
returns-clause-asked g c =
    let old = g.T.Tree.history c.args.tree.now in
    let at = g.T.Tree.history c.boundary_of.new.tree in
    let mid = g.T.Tree.history c.read_patterns.new.tree in
    let later = g.T.Tree.history c.tell_all.new.tree in
    let new = g.T.Tree.history c.list_others.new.tree in
    let asks = asked_unvouched c.args.wanted (table c.args.mixed.now) in
    λ told.
    all_asks nothing_holds (known_of c.in_ok-tracked.tracked.keeper.children.items c.in_ok-tracked.tracked.keeper.marks.items) c.args.wanted asks (pieces_of c.in_ok-ignore.ignore) old mid later new (passes_trans old at mid c.boundary_of.ensures.passes c.read_patterns.ensures.passes) c.tell_all.ensures.passes c.list_others.ensures.passes (state_still c.args.wanted old mid c.in_ok-ignore.ignore (kept_behind old at mid c.boundary_of.ensures.passes c.read_patterns.ensures.passes c.args.wanted c.in_ok-ignore.ignore c.in_ok-ignore.ensures.kept))
    (state_given old mid new (passes_trans old at mid c.boundary_of.ensures.passes c.read_patterns.ensures.passes) (passes_trans mid later new c.tell_all.ensures.passes c.list_others.ensures.passes).past c.args.wanted c.in_ok-ignore.ignore (kept_behind old at mid c.boundary_of.ensures.passes c.read_patterns.ensures.passes c.args.wanted c.in_ok-ignore.ignore c.in_ok-ignore.ensures.kept))
    (λ needed.
    unheld_none (known_of c.in_ok-tracked.tracked.keeper.children.items c.in_ok-tracked.tracked.keeper.marks.items) (pieces_of c.in_ok-ignore.ignore) old new (passes_trans old mid new (passes_trans old at mid c.boundary_of.ensures.passes c.read_patterns.ensures.passes) (passes_trans mid later new c.tell_all.ensures.passes c.list_others.ensures.passes)).past
    (state_given old mid new (passes_trans old at mid c.boundary_of.ensures.passes c.read_patterns.ensures.passes) (passes_trans mid later new c.tell_all.ensures.passes c.list_others.ensures.passes).past c.args.wanted c.in_ok-ignore.ignore (kept_behind old at mid c.boundary_of.ensures.passes c.read_patterns.ensures.passes c.args.wanted c.in_ok-ignore.ignore c.in_ok-ignore.ensures.kept) needed))
    (asks_behind old at mid c.boundary_of.ensures.passes c.read_patterns.ensures.passes c.args.wanted (c.boundary_of.ensures.asked told) (c.read_patterns.ensures.asked (c.boundary_of.ensures.passes.past.told ∙ told))) (c.tell_all.ensures.asked ((c.read_patterns.ensures.passes.past.told ∙ c.boundary_of.ensures.passes.past.told) ∙ told)) (c.list_others.ensures.asked (c.tell_all.ensures.passes.past.told ∙ (c.read_patterns.ensures.passes.past.told ∙ c.boundary_of.ensures.passes.past.told) ∙ told) old (passes_trans old mid later (passes_trans old at mid c.boundary_of.ensures.passes c.read_patterns.ensures.passes) c.tell_all.ensures.passes)
    (known_earlier (known_of c.in_ok-tracked.tracked.keeper.children.items c.in_ok-tracked.tracked.keeper.marks.items) later mid.last old.last (passes_trans old at mid c.boundary_of.ensures.passes c.read_patterns.ensures.passes).past.later c.in_ok-tracked.ensures.told.known))

pub returns-clause-asked_own : goal.returns-clause-asked_own
returns-clause-asked_own g c =
    let old = g.T.Tree.history c.args.tree.now in
    let at = g.T.Tree.history c.boundary_of.new.tree in
    let mid = g.T.Tree.history c.read_patterns.new.tree in
    let later = g.T.Tree.history c.tell_all.new.tree in
    let new = g.T.Tree.history c.list_others.new.tree in
    let asks = asked_unvouched c.args.wanted (table c.args.mixed.now) in
    λ ours.
    own_asks nothing_holds (known_of c.in_ok-tracked.tracked.keeper.children.items c.in_ok-tracked.tracked.keeper.marks.items) c.args.wanted asks (pieces_of c.in_ok-ignore.ignore) old mid later new (passes_trans old at mid c.boundary_of.ensures.passes c.read_patterns.ensures.passes) c.tell_all.ensures.passes c.list_others.ensures.passes (state_still c.args.wanted old mid c.in_ok-ignore.ignore (kept_behind old at mid c.boundary_of.ensures.passes c.read_patterns.ensures.passes c.args.wanted c.in_ok-ignore.ignore c.in_ok-ignore.ensures.kept))
    (state_given old mid new (passes_trans old at mid c.boundary_of.ensures.passes c.read_patterns.ensures.passes) (passes_trans mid later new c.tell_all.ensures.passes c.list_others.ensures.passes).past c.args.wanted c.in_ok-ignore.ignore (kept_behind old at mid c.boundary_of.ensures.passes c.read_patterns.ensures.passes c.args.wanted c.in_ok-ignore.ignore c.in_ok-ignore.ensures.kept))
    (λ needed.
    unheld_none (known_of c.in_ok-tracked.tracked.keeper.children.items c.in_ok-tracked.tracked.keeper.marks.items) (pieces_of c.in_ok-ignore.ignore) old new (passes_trans old mid new (passes_trans old at mid c.boundary_of.ensures.passes c.read_patterns.ensures.passes) (passes_trans mid later new c.tell_all.ensures.passes c.list_others.ensures.passes)).past
    (state_given old mid new (passes_trans old at mid c.boundary_of.ensures.passes c.read_patterns.ensures.passes) (passes_trans mid later new c.tell_all.ensures.passes c.list_others.ensures.passes).past c.args.wanted c.in_ok-ignore.ignore (kept_behind old at mid c.boundary_of.ensures.passes c.read_patterns.ensures.passes c.args.wanted c.in_ok-ignore.ignore c.in_ok-ignore.ensures.kept) needed))
    (own_behind old at mid c.boundary_of.ensures.passes c.read_patterns.ensures.passes c.args.wanted (c.boundary_of.ensures.asked ours.told) (ours_first old mid new (passes_trans mid later new c.tell_all.ensures.passes c.list_others.ensures.passes).past ours)
    (c.in_ok-ignore.ensures.asked_own (ours_second old at mid c.boundary_of.ensures.passes.past (ours_first old mid new (passes_trans mid later new c.tell_all.ensures.passes c.list_others.ensures.passes).past ours))))
    (c.tell_all.ensures.asked ((c.read_patterns.ensures.passes.past.told ∙ c.boundary_of.ensures.passes.past.told) ∙ ours.told)) (c.list_others.ensures.asked (c.tell_all.ensures.passes.past.told ∙ (c.read_patterns.ensures.passes.past.told ∙ c.boundary_of.ensures.passes.past.told) ∙ ours.told) old (passes_trans old mid later (passes_trans old at mid c.boundary_of.ensures.passes c.read_patterns.ensures.passes) c.tell_all.ensures.passes)
    (known_earlier (known_of c.in_ok-tracked.tracked.keeper.children.items c.in_ok-tracked.tracked.keeper.marks.items) later mid.last old.last (passes_trans old at mid c.boundary_of.ensures.passes c.read_patterns.ensures.passes).past.later c.in_ok-tracked.ensures.told.known))

-- ---- what is asked below `.hg`

pub returns-in_err-tracked-clause-unasked : goal.returns-in_err-tracked-clause-unasked
returns-in_err-tracked-clause-unasked g c =
    let old = g.T.Tree.history c.args.tree.now in
    let at = g.T.Tree.history c.boundary_of.new.tree in
    let mid = g.T.Tree.history c.read_patterns.new.tree in
    let later = g.T.Tree.history c.tell_all.new.tree in
    let asks = asked_unvouched c.args.wanted (table c.args.mixed.now) in
    λ never. c.tell_all.ensures.unasked (never_each asks old mid later later (passes_trans old at mid c.boundary_of.ensures.passes c.read_patterns.ensures.passes).past c.tell_all.ensures.passes.past (extends_same later) never)

pub returns-in_err-listed-clause-unasked : goal.returns-in_err-listed-clause-unasked
returns-in_err-listed-clause-unasked g c =
    let old = g.T.Tree.history c.args.tree.now in
    let at = g.T.Tree.history c.boundary_of.new.tree in
    let mid = g.T.Tree.history c.read_patterns.new.tree in
    let later = g.T.Tree.history c.tell_all.new.tree in
    let new = g.T.Tree.history c.list_others.new.tree in
    let asks = asked_unvouched c.args.wanted (table c.args.mixed.now) in
    λ never. c.tell_all.ensures.unasked (never_each asks old mid later new (passes_trans old at mid c.boundary_of.ensures.passes c.read_patterns.ensures.passes).past c.tell_all.ensures.passes.past c.list_others.ensures.passes.past never)

pub returns-clause-unasked : goal.returns-clause-unasked
returns-clause-unasked g c =
    let old = g.T.Tree.history c.args.tree.now in
    let at = g.T.Tree.history c.boundary_of.new.tree in
    let mid = g.T.Tree.history c.read_patterns.new.tree in
    let later = g.T.Tree.history c.tell_all.new.tree in
    let new = g.T.Tree.history c.list_others.new.tree in
    let asks = asked_unvouched c.args.wanted (table c.args.mixed.now) in
    λ never. c.tell_all.ensures.unasked (never_each asks old mid later new (passes_trans old at mid c.boundary_of.ensures.passes c.read_patterns.ensures.passes).past c.tell_all.ensures.passes.past c.list_others.ensures.passes.past never)

pub returns-in_err-boundary-clause-asked_store : goal.returns-in_err-boundary-clause-asked_store
returns-in_err-boundary-clause-asked_store g c =
    let old = g.T.Tree.history c.args.tree.now in
    let at = g.T.Tree.history c.boundary_of.new.tree in
    λ told. store_none (walk_status c.args.wanted (table c.args.mixed.now) old at (g.S.Shelf.history c.args.shelf.now) (g.S.Shelf.history c.args.shelf.now)) (shelves.passes_same (g.S.Shelf.history c.args.shelf.now)) refl

pub returns-in_err-ignore-clause-asked_store : goal.returns-in_err-ignore-clause-asked_store
returns-in_err-ignore-clause-asked_store g c =
    let old = g.T.Tree.history c.args.tree.now in
    let at = g.T.Tree.history c.boundary_of.new.tree in
    let mid = g.T.Tree.history c.read_patterns.new.tree in
    λ told. store_none (walk_status c.args.wanted (table c.args.mixed.now) old mid (g.S.Shelf.history c.args.shelf.now) (g.S.Shelf.history c.args.shelf.now)) (shelves.passes_same (g.S.Shelf.history c.args.shelf.now)) refl

pub returns-in_err-tracked-clause-asked_store : goal.returns-in_err-tracked-clause-asked_store
returns-in_err-tracked-clause-asked_store g c =
    let old = g.T.Tree.history c.args.tree.now in
    let at = g.T.Tree.history c.boundary_of.new.tree in
    let mid = g.T.Tree.history c.read_patterns.new.tree in
    let later = g.T.Tree.history c.tell_all.new.tree in
    λ told. store_longer (walk_status c.args.wanted (table c.args.mixed.now) mid later (g.S.Shelf.history c.args.shelf.now) (g.S.Shelf.history c.tell_all.new.shelf)) old later (passes_trans old at mid c.boundary_of.ensures.passes c.read_patterns.ensures.passes).past c.tell_all.ensures.passes.past (extends_same later) (c.tell_all.ensures.store told)

pub returns-in_err-listed-clause-asked_store : goal.returns-in_err-listed-clause-asked_store
returns-in_err-listed-clause-asked_store g c =
    let old = g.T.Tree.history c.args.tree.now in
    let at = g.T.Tree.history c.boundary_of.new.tree in
    let mid = g.T.Tree.history c.read_patterns.new.tree in
    let later = g.T.Tree.history c.tell_all.new.tree in
    let new = g.T.Tree.history c.list_others.new.tree in
    λ told. store_longer (walk_status c.args.wanted (table c.args.mixed.now) mid later (g.S.Shelf.history c.args.shelf.now) (g.S.Shelf.history c.tell_all.new.shelf)) old new (passes_trans old at mid c.boundary_of.ensures.passes c.read_patterns.ensures.passes).past c.tell_all.ensures.passes.past c.list_others.ensures.passes.past (c.tell_all.ensures.store told)

pub returns-clause-asked_store : goal.returns-clause-asked_store
returns-clause-asked_store g c =
    let old = g.T.Tree.history c.args.tree.now in
    let at = g.T.Tree.history c.boundary_of.new.tree in
    let mid = g.T.Tree.history c.read_patterns.new.tree in
    let later = g.T.Tree.history c.tell_all.new.tree in
    let new = g.T.Tree.history c.list_others.new.tree in
    λ told. store_longer (walk_status c.args.wanted (table c.args.mixed.now) mid later (g.S.Shelf.history c.args.shelf.now) (g.S.Shelf.history c.tell_all.new.shelf)) old new (passes_trans old at mid c.boundary_of.ensures.passes c.read_patterns.ensures.passes).past c.tell_all.ensures.passes.past c.list_others.ensures.passes.past (c.tell_all.ensures.store told)

-- ---- which bytes are read

pub returns-in_err-boundary-clause-reads : goal.returns-in_err-boundary-clause-reads
returns-in_err-boundary-clause-reads g c = λ told.
    let old = g.T.Tree.history c.args.tree.now in
    let at = g.T.Tree.history c.boundary_of.new.tree in
    let start = g.S.Shelf.history c.args.shelf.now in
    let t = table c.args.mixed.now in
    let s = walk_status c.args.wanted t at at start start in
    asks_needed s old at c.boundary_of.ensures.passes (passes_same at) (passes_same at) (λ dir. Unit {0}) ([], inl refl, c.boundary_of.ensures.asked told ∙ sym (append-nil old.asked)) (reads_no s refl)
    (asks_none (λ dir. Unit {0}) at at refl)

pub returns-in_err-ignore-clause-reads : goal.returns-in_err-ignore-clause-reads
returns-in_err-ignore-clause-reads g c = λ told.
    let old = g.T.Tree.history c.args.tree.now in
    let at = g.T.Tree.history c.boundary_of.new.tree in
    let mid = g.T.Tree.history c.read_patterns.new.tree in
    let past = passes_trans old at mid c.boundary_of.ensures.passes c.read_patterns.ensures.passes in
    let start = g.S.Shelf.history c.args.shelf.now in
    let t = table c.args.mixed.now in
    let s = walk_status c.args.wanted t mid mid start start in
    asks_needed s old mid past (passes_same mid) (passes_same mid) (λ dir. Unit {0})
    (asks_behind old at mid c.boundary_of.ensures.passes c.read_patterns.ensures.passes c.args.wanted (c.boundary_of.ensures.asked told) (c.read_patterns.ensures.asked (c.boundary_of.ensures.passes.past.told ∙ told)))
    (reads_no s refl) (asks_none (λ dir. Unit {0}) mid mid refl)

pub returns-in_err-tracked-clause-reads : goal.returns-in_err-tracked-clause-reads
returns-in_err-tracked-clause-reads g c = λ told.
    let old = g.T.Tree.history c.args.tree.now in
    let at = g.T.Tree.history c.boundary_of.new.tree in
    let mid = g.T.Tree.history c.read_patterns.new.tree in
    let past = passes_trans old at mid c.boundary_of.ensures.passes c.read_patterns.ensures.passes in
    let later = g.T.Tree.history c.tell_all.new.tree in
    let start = g.S.Shelf.history c.args.shelf.now in
    let t = table c.args.mixed.now in
    let s = walk_status c.args.wanted t mid later start (g.S.Shelf.history c.tell_all.new.shelf) in
    asks_needed s old later past c.tell_all.ensures.passes (passes_same later) (λ dir. Unit {0})
    (asks_behind old at mid c.boundary_of.ensures.passes c.read_patterns.ensures.passes c.args.wanted (c.boundary_of.ensures.asked told) (c.read_patterns.ensures.asked (c.boundary_of.ensures.passes.past.told ∙ told)))
    (c.tell_all.ensures.reads (past.past.told ∙ told)) (asks_none (λ dir. Unit {0}) later later refl)

pub returns-in_err-listed-clause-reads : goal.returns-in_err-listed-clause-reads
returns-in_err-listed-clause-reads g c = λ told.
    let old = g.T.Tree.history c.args.tree.now in
    let at = g.T.Tree.history c.boundary_of.new.tree in
    let mid = g.T.Tree.history c.read_patterns.new.tree in
    let past = passes_trans old at mid c.boundary_of.ensures.passes c.read_patterns.ensures.passes in
    let later = g.T.Tree.history c.tell_all.new.tree in
    let new = g.T.Tree.history c.list_others.new.tree in
    let start = g.S.Shelf.history c.args.shelf.now in
    let t = table c.args.mixed.now in
    let s = walk_status c.args.wanted t mid later start (g.S.Shelf.history c.tell_all.new.shelf) in
    asks_needed s old new past c.tell_all.ensures.passes c.list_others.ensures.passes _
    (asks_behind old at mid c.boundary_of.ensures.passes c.read_patterns.ensures.passes c.args.wanted (c.boundary_of.ensures.asked told) (c.read_patterns.ensures.asked (c.boundary_of.ensures.passes.past.told ∙ told)))
    (c.tell_all.ensures.reads (past.past.told ∙ told))
    (c.list_others.ensures.asked (c.tell_all.ensures.passes.past.told ∙ past.past.told ∙ told) old (passes_trans old mid later past c.tell_all.ensures.passes)
    (known_earlier (known_of c.in_ok-tracked.tracked.keeper.children.items c.in_ok-tracked.tracked.keeper.marks.items) later mid.last old.last past.past.later c.in_ok-tracked.ensures.told.known))

pub returns-clause-reads : goal.returns-clause-reads
returns-clause-reads g c = λ told.
    let old = g.T.Tree.history c.args.tree.now in
    let at = g.T.Tree.history c.boundary_of.new.tree in
    let mid = g.T.Tree.history c.read_patterns.new.tree in
    let past = passes_trans old at mid c.boundary_of.ensures.passes c.read_patterns.ensures.passes in
    let later = g.T.Tree.history c.tell_all.new.tree in
    let new = g.T.Tree.history c.list_others.new.tree in
    let start = g.S.Shelf.history c.args.shelf.now in
    let t = table c.args.mixed.now in
    let s = walk_status c.args.wanted t mid later start (g.S.Shelf.history c.tell_all.new.shelf) in
    asks_needed s old new past c.tell_all.ensures.passes c.list_others.ensures.passes _
    (asks_behind old at mid c.boundary_of.ensures.passes c.read_patterns.ensures.passes c.args.wanted (c.boundary_of.ensures.asked told) (c.read_patterns.ensures.asked (c.boundary_of.ensures.passes.past.told ∙ told)))
    (c.tell_all.ensures.reads (past.past.told ∙ told))
    (c.list_others.ensures.asked (c.tell_all.ensures.passes.past.told ∙ past.past.told ∙ told) old (passes_trans old mid later past c.tell_all.ensures.passes)
    (known_earlier (known_of c.in_ok-tracked.tracked.keeper.children.items c.in_ok-tracked.tracked.keeper.marks.items) later mid.last old.last past.past.later c.in_ok-tracked.ensures.told.known))
