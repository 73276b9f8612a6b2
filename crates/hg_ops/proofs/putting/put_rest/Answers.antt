use Rattle.std.proofs.Common.{ℕ, rules, ◌+◌, ◌∙◌, [], ◌∷◌, refl, subst, arith}
use Rattle.std.proofs.lemmas.Result.{err_from_is_err_and}
use Rattle.hg_compare.proofs.Counting.{pieces_more, whole_more}
use Rattle.hg_tree.specs.History.{now}
use Rattle.hg_tree.proofs.Histories.{extends_same, extends_trans}
use Rattle.hg_tree.proofs.Spans.{ours_first, ours_second, passes_same}
use Rattle.hg_tree.proofs.Touching.{changes_passes, changes_trans}
use Rattle.hg_ops.specs.Putting.{Puts}
use Rattle.hg_ops.specs.declared.putting.Piece.TheVariants as a_piece
use Rattle.hg_ops.proofs.Grown.{grown_done, size_is}
use Rattle.hg_ops.proofs.OwnPuts.{all_ended, all_over, first_pieces, more_pieces, once_of, pieces_done, some_failed, whole_pieces}
use Rattle.hg_ops.proofs.Pieces.{end_never, over_never, rest_piece, take_small}
use Rattle.hg_ops.proofs.putting.put_rest.Goals as goal

pub returns-in_err-put_piece-clause-asked : goal.returns-in_err-put_piece-clause-asked
returns-in_err-put_piece-clause-asked g c = λ told before first.
    pieces_more c.loop-place.place c.args.stat.now.size c.args.stat.now.size _ _ _ _ c.loop-place.invariant.whole c.loop-place-test.true c.loop-place-test.true (c.loop-place.invariant.asked told before first)
    (once_of _ _ _ _ (take_small _ _ c.loop-place.invariant.room) (c.put_piece.ensures.asked (c.loop-place.invariant.past.told ∙ told)))

pub returns-in_err-put_piece-clause-only : goal.returns-in_err-put_piece-clause-only
returns-in_err-put_piece-clause-only g c = λ told. changes_trans (c.args.to.text.now ∷ []) (g.T.Tree.history c.args.tree.now) (g.T.Tree.history c.loop-place.tree) (g.T.Tree.history c.put_piece.new.tree) c.put_piece.ensures.past (c.loop-place.invariant.only told) (c.put_piece.ensures.only (c.loop-place.invariant.past.told ∙ told))

pub loop-place-preserved : goal.loop-place-preserved
loop-place-preserved g c = record {
  past = extends_trans (g.T.Tree.history c.args.tree.now) (g.T.Tree.history c.loop-place.tree) (g.T.Tree.history c.put_piece.new.tree) c.loop-place.invariant.past c.put_piece.ensures.past;
  whole = whole_more c.loop-place.place c.args.stat.now.size c.min-width.result c.loop-place.invariant.whole c.loop-place-test.true (search rules);
  asked = λ told before first.
      pieces_more c.loop-place.place c.args.stat.now.size (c.loop-place.place + c.min-width.result) _ _ _ _ c.loop-place.invariant.whole c.loop-place-test.true (search rules) (c.loop-place.invariant.asked told before first)
      (once_of _ _ _ _ (take_small _ _ c.loop-place.invariant.room) (c.put_piece.ensures.asked (c.loop-place.invariant.past.told ∙ told)));
  only = λ told. changes_trans (c.args.to.text.now ∷ []) (g.T.Tree.history c.args.tree.now) (g.T.Tree.history c.loop-place.tree) (g.T.Tree.history c.put_piece.new.tree) c.put_piece.ensures.past (c.loop-place.invariant.only told) (c.put_piece.ensures.only (c.loop-place.invariant.past.told ∙ told));
  pieces = λ start first told.
      more_pieces c.args.from.text.now c.args.to.text.now c.args.stat.now c.loop-place.place c.min-width.result start (g.T.Tree.history c.loop-place.tree) (g.T.Tree.history c.put_piece.new.tree) c.loop-place-test.true (search rules) (c.loop-place.invariant.pieces start first) told
      (subst (λ (w : ℕ). Puts c.args.from.text.now c.args.to.text.now c.args.stat.now c.loop-place.place w (g.T.Tree.history c.loop-place.tree) (g.T.Tree.history c.put_piece.new.tree) a_piece.More) (search rules) (rw c.in-More.is at (c.in_ok-put_piece.ensures.found (take_small _ _ c.loop-place.invariant.room))));
  grown = λ ours bytes start can file first. (rest_piece c.args.from.text.now c.args.to.text.now c.args.stat.now bytes start can c.loop-place.place c.min-width.result _ (search rules) (now (g.T.Tree.history c.loop-place.tree)) (now (g.T.Tree.history c.put_piece.new.tree))
      (c.loop-place.invariant.grown (ours_first (g.T.Tree.history c.args.tree.now) (g.T.Tree.history c.loop-place.tree) (g.T.Tree.history c.put_piece.new.tree) c.put_piece.ensures.past ours) bytes start can file first) file (search rules) (search rules) _
      (λ read fits put. rw c.in-More.is at (c.in_ok-put_piece.ensures.whole (ours_second (g.T.Tree.history c.args.tree.now) (g.T.Tree.history c.loop-place.tree) (g.T.Tree.history c.put_piece.new.tree) c.loop-place.invariant.past ours) bytes read fits put))).1;
  still = c.in_ok-put_piece.ensures.cause ∙ c.loop-place.invariant.still;
  within = search rules;
  later = search rules;
  room = search rules;
}

pub returns-in-End-clause-asked : goal.returns-in-End-clause-asked
returns-in-End-clause-asked g c = λ told before first.
    pieces_more c.loop-place.place c.args.stat.now.size c.args.stat.now.size _ _ _ _ c.loop-place.invariant.whole c.loop-place-test.true c.loop-place-test.true (c.loop-place.invariant.asked told before first)
    (once_of _ _ _ _ (take_small _ _ c.loop-place.invariant.room) (c.put_piece.ensures.asked (c.loop-place.invariant.past.told ∙ told)))

pub returns-in-End-clause-only : goal.returns-in-End-clause-only
returns-in-End-clause-only g c = λ told. changes_trans (c.args.to.text.now ∷ []) (g.T.Tree.history c.args.tree.now) (g.T.Tree.history c.loop-place.tree) (g.T.Tree.history c.put_piece.new.tree) c.put_piece.ensures.past (c.loop-place.invariant.only told) (c.put_piece.ensures.only (c.loop-place.invariant.past.told ∙ told))

pub returns-in-End-clause-whole : goal.returns-in-End-clause-whole
returns-in-End-clause-whole g c = λ ours bytes start can file first. absurd (end_never (rest_piece c.args.from.text.now c.args.to.text.now c.args.stat.now bytes start can c.loop-place.place c.min-width.result _ (search rules) (now (g.T.Tree.history c.loop-place.tree)) (now (g.T.Tree.history c.put_piece.new.tree))
    (c.loop-place.invariant.grown (ours_first (g.T.Tree.history c.args.tree.now) (g.T.Tree.history c.loop-place.tree) (g.T.Tree.history c.put_piece.new.tree) c.put_piece.ensures.past ours) bytes start can file first) file (search rules) (search rules) _
    (λ read fits put. rw c.in-End.is at (c.in_ok-put_piece.ensures.whole (ours_second (g.T.Tree.history c.args.tree.now) (g.T.Tree.history c.loop-place.tree) (g.T.Tree.history c.put_piece.new.tree) c.loop-place.invariant.past ours) bytes read fits put))).0)

pub returns-in-Over-clause-asked : goal.returns-in-Over-clause-asked
returns-in-Over-clause-asked g c = λ told before first.
    pieces_more c.loop-place.place c.args.stat.now.size c.args.stat.now.size _ _ _ _ c.loop-place.invariant.whole c.loop-place-test.true c.loop-place-test.true (c.loop-place.invariant.asked told before first)
    (once_of _ _ _ _ (take_small _ _ c.loop-place.invariant.room) (c.put_piece.ensures.asked (c.loop-place.invariant.past.told ∙ told)))

pub returns-in-Over-clause-only : goal.returns-in-Over-clause-only
returns-in-Over-clause-only g c = λ told. changes_trans (c.args.to.text.now ∷ []) (g.T.Tree.history c.args.tree.now) (g.T.Tree.history c.loop-place.tree) (g.T.Tree.history c.put_piece.new.tree) c.put_piece.ensures.past (c.loop-place.invariant.only told) (c.put_piece.ensures.only (c.loop-place.invariant.past.told ∙ told))

pub returns-in-Over-clause-whole : goal.returns-in-Over-clause-whole
returns-in-Over-clause-whole g c = λ ours bytes start can file first. absurd (over_never c.in-Over.refusal (rest_piece c.args.from.text.now c.args.to.text.now c.args.stat.now bytes start can c.loop-place.place c.min-width.result _ (search rules) (now (g.T.Tree.history c.loop-place.tree)) (now (g.T.Tree.history c.put_piece.new.tree))
    (c.loop-place.invariant.grown (ours_first (g.T.Tree.history c.args.tree.now) (g.T.Tree.history c.loop-place.tree) (g.T.Tree.history c.put_piece.new.tree) c.put_piece.ensures.past ours) bytes start can file first) file (search rules) (search rules) _
    (λ read fits put. rw c.in-Over.is at (c.in_ok-put_piece.ensures.whole (ours_second (g.T.Tree.history c.args.tree.now) (g.T.Tree.history c.loop-place.tree) (g.T.Tree.history c.put_piece.new.tree) c.loop-place.invariant.past ours) bytes read fits put))).0)

pub returns-clause-whole : goal.returns-clause-whole
returns-clause-whole g c = λ ours bytes start can file first.
    let size = size_is c.args.from.text.now c.args.to.text.now c.args.stat.now bytes start can in
    let past = c.loop-place-test.false in
    record {
      none = refl;
      copy = grown_done c.args.from.text.now c.args.to.text.now c.args.stat.now bytes start can c.loop-place.place (now (g.T.Tree.history c.loop-place.tree)) (c.loop-place.invariant.grown ours bytes start can file first) (omega (arith, size, past));
    }

pub loop-place-init : goal.loop-place-init
loop-place-init g c = record {
  past = extends_same (g.T.Tree.history c.args.tree.now);
  whole = search rules;
  asked = λ told before first. first;
  only = λ told. changes_passes (c.args.to.text.now ∷ []) (g.T.Tree.history c.args.tree.now) (g.T.Tree.history c.args.tree.now) (passes_same (g.T.Tree.history c.args.tree.now));
  pieces = λ start first told. first_pieces c.args.from.text.now c.args.to.text.now c.args.stat.now c.args.first start (g.T.Tree.history c.args.tree.now) c.requires.first (first told);
  grown = λ ours bytes start can file first. first;
  still = refl;
  within = search rules;
  later = search rules;
  room = search rules;
}

pub returns-in_err-put_piece-clause-puts : goal.returns-in_err-put_piece-clause-puts
returns-in_err-put_piece-clause-puts g c =
    let p = err_from_is_err_and c.from_residual.result c.from_residual.ensures.1 in
    rw (p.1, p.2) (λ start first told.
    some_failed c.args.from.text.now c.args.to.text.now c.args.stat.now start (g.T.Tree.history c.loop-place.tree) (g.T.Tree.history c.put_piece.new.tree) c.loop-place.place (whole_pieces c.args.from.text.now c.args.to.text.now c.args.stat.now c.loop-place.place start (g.T.Tree.history c.loop-place.tree) c.loop-place-test.true (c.loop-place.invariant.pieces start first)) _ c.in_err-put_piece.ensures.kind
    (c.in_err-put_piece.ensures.failed (take_small _ _ c.loop-place.invariant.room)) told)

pub returns-in-End-clause-puts : goal.returns-in-End-clause-puts
returns-in-End-clause-puts g c = λ start first.
    all_ended c.args.from.text.now c.args.to.text.now c.args.stat.now start (g.T.Tree.history c.loop-place.tree) (g.T.Tree.history c.put_piece.new.tree) c.loop-place.place (whole_pieces c.args.from.text.now c.args.to.text.now c.args.stat.now c.loop-place.place start (g.T.Tree.history c.loop-place.tree) c.loop-place-test.true (c.loop-place.invariant.pieces start first)) c.min-width.result
    (rw c.in-End.is at (c.in_ok-put_piece.ensures.found (take_small _ _ c.loop-place.invariant.room)))

pub returns-in-Over-clause-puts : goal.returns-in-Over-clause-puts
returns-in-Over-clause-puts g c = λ start first.
    all_over c.args.from.text.now c.args.to.text.now c.args.stat.now start (g.T.Tree.history c.loop-place.tree) (g.T.Tree.history c.put_piece.new.tree) c.loop-place.place (whole_pieces c.args.from.text.now c.args.to.text.now c.args.stat.now c.loop-place.place start (g.T.Tree.history c.loop-place.tree) c.loop-place-test.true (c.loop-place.invariant.pieces start first)) c.min-width.result c.in-Over.refusal
    (rw c.in-Over.is at (c.in_ok-put_piece.ensures.found (take_small _ _ c.loop-place.invariant.room)))

pub returns-clause-puts : goal.returns-clause-puts
returns-clause-puts g c = λ start first.
    let past = c.loop-place-test.false in
    let within = c.loop-place.invariant.within in
    pieces_done c.args.from.text.now c.args.to.text.now c.args.stat.now c.loop-place.place start (g.T.Tree.history c.loop-place.tree) (omega (arith, past, within)) (c.loop-place.invariant.pieces start first)
