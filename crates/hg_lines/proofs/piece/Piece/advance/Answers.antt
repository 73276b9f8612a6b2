use Rattle.hg_lines.proofs.Pieces.{advanced}
use Rattle.hg_lines.proofs.piece.Piece.advance.Goals as goal

pub returns : goal.returns
returns c = advanced c.self.inside.at c.self.inside.end c.args.n c.self.inside.room.items c.args.self.now c.self.view_is c.requires c.self.invariant.order c.self.invariant.within
