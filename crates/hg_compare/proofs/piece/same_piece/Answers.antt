use Rattle.std.proofs.Common.{rules, [], ◌∷◌, length, take}
use Rattle.std.proofs.lemmas.Result.{err_from_is_err_and}
use Rattle.hg_shelf.specs.declared.asked.Asked.TheVariants as a_shelf_ask
use Rattle.hg_shelf.proofs.Asks.{front_all}
use Rattle.hg_compare.proofs.Moments.{other_bytes, piece_last, pieces_same, same_bytes, shorter}
use Rattle.hg_compare.proofs.piece.same_piece.Goals as goal

pub returns-then-ne-clause-found : goal.returns-then-ne-clause-found
returns-then-ne-clause-found g c = record {
  place = c.args.place;
  width = length c.args.mine.now;
  mine = take c.in-Some.mine_read c.read_mine.new.room;
  theirs = take c.in_ok-theirs_read.theirs_read c.read_theirs.new.room;
  pieces =
      piece_last _ c.args.id c.args.place (length c.args.mine.now) (length c.args.theirs.now) c.in-Some.mine_read c.in_ok-theirs_read.theirs_read c.read_mine.new.room c.read_theirs.new.room c.read_mine.ensures.passes c.read_theirs.ensures.passes c.requires
      (rw c.in-Some.is at c.in_ok-mine_read.ensures.found) c.in_ok-theirs_read.ensures.found;
  differ = other_bytes _ _ c.ne.result c.if-ne.true c.ne.ensures;
}

pub returns-then-mine_read-mine-clause-found : goal.returns-then-mine_read-mine-clause-found
returns-then-mine_read-mine-clause-found g c = (
  take c.in-Some.mine_read c.read_mine.new.room,
  pieces_same _ c.args.place (length c.args.mine.now) _ _
      (piece_last _ c.args.id c.args.place (length c.args.mine.now) (length c.args.theirs.now) c.in-Some.mine_read c.in_ok-theirs_read.theirs_read c.read_mine.new.room c.read_theirs.new.room c.read_mine.ensures.passes c.read_theirs.ensures.passes c.requires
      (rw c.in-Some.is at c.in_ok-mine_read.ensures.found) c.in_ok-theirs_read.ensures.found)
      (same_bytes _ _ c.ne.result c.if-ne.false c.ne.ensures),
  shorter c.in-Some.mine_read c.read_mine.new.room _ (search rules),
)

pub returns-else-mine_read-mine-clause-found : goal.returns-else-mine_read-mine-clause-found
returns-else-mine_read-mine-clause-found g c = (
  take c.in-Some.mine_read c.read_mine.new.room,
  pieces_same _ c.args.place (length c.args.mine.now) _ _
      (piece_last _ c.args.id c.args.place (length c.args.mine.now) (length c.args.theirs.now) c.in-Some.mine_read c.in_ok-theirs_read.theirs_read c.read_mine.new.room c.read_theirs.new.room c.read_mine.ensures.passes c.read_theirs.ensures.passes c.requires
      (rw c.in-Some.is at c.in_ok-mine_read.ensures.found) c.in_ok-theirs_read.ensures.found)
      (same_bytes _ _ c.ne.result c.if-ne.false c.ne.ensures),
)

pub returns-in_err-mine_read-clause-shelf_asked : goal.returns-in_err-mine_read-clause-shelf_asked
returns-in_err-mine_read-clause-shelf_asked g c = λ told.
    let p = err_from_is_err_and c.from_residual-in_err-mine_read.result c.from_residual-in_err-mine_read.ensures.1 in
    rw p.1
    (front_all (a_shelf_ask.Read c.args.name.now c.args.place (length c.args.theirs.now) ∷ []) (g.S.Shelf.history c.args.shelf.now) (g.S.Shelf.history c.read_theirs.new.shelf)
    (c.in_ok-theirs_read.ensures.asked told))
