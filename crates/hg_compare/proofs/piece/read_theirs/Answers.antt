use Rattle.std.proofs.Common.{true, false, [], length}
use Rattle.hg_shelf.specs.declared.asked.Asked.TheVariants as a_shelf_ask
use Rattle.hg_shelf.proofs.Asks.{front_first}
use Rattle.hg_compare.proofs.piece.read_theirs.Goals as goal

pub returns-in-Err-clause-asked : goal.returns-in-Err-clause-asked
returns-in-Err-clause-asked g c = λ told.
    front_first false (a_shelf_ask.Read c.args.name.now c.args.place (length c.args.room.now)) [] (g.S.Shelf.history c.args.shelf.now) (g.S.Shelf.history c.read_at.new.self) (c.in-Err.ensures.asked told)

pub returns-in-Ok-Absent-clause-asked : goal.returns-in-Ok-Absent-clause-asked
returns-in-Ok-Absent-clause-asked g c = λ told.
    front_first true (a_shelf_ask.Read c.args.name.now c.args.place (length c.args.room.now)) [] (g.S.Shelf.history c.args.shelf.now) (g.S.Shelf.history c.read_at.new.self) (c.in-Ok-Absent.ensures.asked told)
