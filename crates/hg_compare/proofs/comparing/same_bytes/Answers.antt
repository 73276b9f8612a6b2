use Rattle.std.proofs.Common.{rules, ◌∙◌}
use Rattle.hg_shelf.proofs.Histories as shelves
use Rattle.hg_shelf.proofs.Scenes.{goes_trans}
use Rattle.hg_tree.proofs.Spans as trees
use Rattle.hg_compare.proofs.Bytes.{piece_last, piece_more}
use Rattle.hg_compare.proofs.Counting.{pieces_more, whole_more}
use Rattle.hg_compare.proofs.Spans.{ends_second, parts_of}
use Rattle.hg_compare.proofs.Theirs.{theirs_end, theirs_last, theirs_made, theirs_more, theirs_none}
use Rattle.hg_compare.proofs.comparing.same_bytes.Goals as goal

pub returns-in_err-same_piece-clause-asked : goal.returns-in_err-same_piece-clause-asked
returns-in_err-same_piece-clause-asked g c = λ told.
    pieces_more c.loop-place.place c.args.size c.args.size _ _ _ _ c.loop-place.invariant.whole c.loop-place-test.true c.loop-place-test.true (c.loop-place.invariant.asked told)
    (c.same_piece.ensures.asked (c.loop-place.invariant.tree.past.told ∙ told))

pub loop-place-init : goal.loop-place-init
loop-place-init g c = record {
  tree = search rules;
  shelf = search rules;
  same = search rules;
  whole = search rules;
  asked = search rules;
  shelf_asked = λ told. theirs_none c.args.size c.args.name.now (g.S.Shelf.history c.args.shelf.now);
  kept = search rules;
  held = search rules;
  tree_still = search rules;
  shelf_still = search rules;
  within = search rules;
  mine = search rules;
  theirs = search rules;
}

pub loop-place-preserved : goal.loop-place-preserved
loop-place-preserved g c = record {
  tree = trees.passes_trans _ _ _ c.loop-place.invariant.tree c.same_piece.ensures.tree_passes;
  shelf = shelves.passes_trans _ _ _ c.loop-place.invariant.shelf c.same_piece.ensures.shelf_passes;
  same =
      let found = rw c.in-More.is at c.in_ok-same_piece.ensures.found in
      piece_more (parts_of c.args.path.text.now c.args.name.now _ _ _ _ _ _ c.loop-place.invariant.tree c.same_piece.ensures.tree_passes c.loop-place.invariant.shelf c.same_piece.ensures.shelf_passes) c.loop-place.place _ _ found.0 (search rules) c.loop-place.invariant.same found.1;
  whole = whole_more c.loop-place.place c.args.size c.min-width.result c.loop-place.invariant.whole c.loop-place-test.true (search rules);
  asked = λ told.
      pieces_more c.loop-place.place c.args.size _ _ _ _ _ c.loop-place.invariant.whole c.loop-place-test.true (search rules) (c.loop-place.invariant.asked told)
      (c.same_piece.ensures.asked (c.loop-place.invariant.tree.past.told ∙ told));
  shelf_asked = λ told.
      theirs_more c.args.size c.loop-place.place _ c.min-width.result c.args.name.now _ _ _ c.loop-place-test.true (search rules) (search rules) (c.loop-place.invariant.shelf_asked told)
      (c.in_ok-same_piece.ensures.shelf_asked (c.loop-place.invariant.shelf.past.told ∙ told));
  kept = goes_trans _ _ _ c.loop-place.invariant.kept c.same_piece.ensures.kept;
  held = c.same_piece.ensures.held ∙ c.loop-place.invariant.held;
  tree_still = c.in_ok-same_piece.ensures.tree_count ∙ c.loop-place.invariant.tree_still;
  shelf_still = c.in_ok-same_piece.ensures.shelf_count ∙ c.loop-place.invariant.shelf_still;
  within = search rules;
  mine = search rules;
  theirs = search rules;
}

pub returns-in-End-clause-found : goal.returns-in-End-clause-found
returns-in-End-clause-found g c =
    let found = rw c.in-End.is at c.in_ok-same_piece.ensures.found in
    piece_last (parts_of c.args.path.text.now c.args.name.now _ _ _ _ _ _ c.loop-place.invariant.tree c.same_piece.ensures.tree_passes c.loop-place.invariant.shelf c.same_piece.ensures.shelf_passes) c.loop-place.place _ c.args.size found.0 found.2 c.loop-place.invariant.same found.1

pub returns-in-End-clause-asked : goal.returns-in-End-clause-asked
returns-in-End-clause-asked g c = λ told.
    pieces_more c.loop-place.place c.args.size c.args.size _ _ _ _ c.loop-place.invariant.whole c.loop-place-test.true c.loop-place-test.true (c.loop-place.invariant.asked told)
    (c.same_piece.ensures.asked (c.loop-place.invariant.tree.past.told ∙ told))

pub returns-in-Over-clause-found : goal.returns-in-Over-clause-found
returns-in-Over-clause-found g c = ends_second (parts_of c.args.path.text.now c.args.name.now _ _ _ _ _ _ c.loop-place.invariant.tree c.same_piece.ensures.tree_passes c.loop-place.invariant.shelf c.same_piece.ensures.shelf_passes) c.in-Over.looked (rw c.in-Over.is at c.in_ok-same_piece.ensures.found)

pub returns-in-Over-clause-asked : goal.returns-in-Over-clause-asked
returns-in-Over-clause-asked g c = λ told.
    pieces_more c.loop-place.place c.args.size c.args.size _ _ _ _ c.loop-place.invariant.whole c.loop-place-test.true c.loop-place-test.true (c.loop-place.invariant.asked told)
    (c.same_piece.ensures.asked (c.loop-place.invariant.tree.past.told ∙ told))

pub returns-in_err-same_piece-clause-kept : goal.returns-in_err-same_piece-clause-kept
returns-in_err-same_piece-clause-kept g c = goes_trans _ _ _ c.loop-place.invariant.kept c.same_piece.ensures.kept

pub returns-in_err-same_piece-clause-held : goal.returns-in_err-same_piece-clause-held
returns-in_err-same_piece-clause-held g c = c.same_piece.ensures.held ∙ c.loop-place.invariant.held

pub returns-in-End-clause-kept : goal.returns-in-End-clause-kept
returns-in-End-clause-kept g c = goes_trans _ _ _ c.loop-place.invariant.kept c.same_piece.ensures.kept

pub returns-in-End-clause-held : goal.returns-in-End-clause-held
returns-in-End-clause-held g c = c.same_piece.ensures.held ∙ c.loop-place.invariant.held

pub returns-in-Over-clause-kept : goal.returns-in-Over-clause-kept
returns-in-Over-clause-kept g c = goes_trans _ _ _ c.loop-place.invariant.kept c.same_piece.ensures.kept

pub returns-in-Over-clause-held : goal.returns-in-Over-clause-held
returns-in-Over-clause-held g c = c.same_piece.ensures.held ∙ c.loop-place.invariant.held

pub returns-clause-kept : goal.returns-clause-kept
returns-clause-kept g c = c.loop-place.invariant.kept

pub returns-clause-held : goal.returns-clause-held
returns-clause-held g c = c.loop-place.invariant.held

pub returns-in_err-same_piece-clause-shelf_asked : goal.returns-in_err-same_piece-clause-shelf_asked
returns-in_err-same_piece-clause-shelf_asked g c = λ told.
    theirs_last c.args.size c.loop-place.place _ c.min-width.result c.args.name.now _ _ _ c.loop-place-test.true (search rules) (search rules) (c.loop-place.invariant.shelf_asked told)
    (c.in_err-same_piece.ensures.shelf_asked (c.loop-place.invariant.shelf.past.told ∙ told))

pub returns-in-End-clause-shelf_asked : goal.returns-in-End-clause-shelf_asked
returns-in-End-clause-shelf_asked g c = λ told.
    theirs_made c.args.size c.loop-place.place _ c.min-width.result c.args.name.now _ _ _ c.loop-place-test.true (search rules) (search rules) (c.loop-place.invariant.shelf_asked told)
    (c.in_ok-same_piece.ensures.shelf_asked (c.loop-place.invariant.shelf.past.told ∙ told))

pub returns-in-Over-clause-shelf_asked : goal.returns-in-Over-clause-shelf_asked
returns-in-Over-clause-shelf_asked g c = λ told.
    theirs_made c.args.size c.loop-place.place _ c.min-width.result c.args.name.now _ _ _ c.loop-place-test.true (search rules) (search rules) (c.loop-place.invariant.shelf_asked told)
    (c.in_ok-same_piece.ensures.shelf_asked (c.loop-place.invariant.shelf.past.told ∙ told))

pub returns-clause-shelf_asked : goal.returns-clause-shelf_asked
returns-clause-shelf_asked g c = λ told.
    theirs_end c.args.size c.loop-place.place c.args.name.now (g.S.Shelf.history c.args.shelf.now) _ c.loop-place.invariant.within (c.loop-place.invariant.shelf_asked told)
