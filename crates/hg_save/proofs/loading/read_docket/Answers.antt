use Rattle.std.proofs.Common.{false, [], ◌∷◌}
use Rattle.hg_shelf.proofs.Asks.{answered, front_first}
use Rattle.hg_save.specs.Asked.{docket_ask}
use Rattle.hg_shelf.specs.History.{now}
use Rattle.hg_save.proofs.Loads.{docket_read}
use Rattle.hg_save.proofs.loading.read_docket.Goals as goal

pub returns-in-Ok-Bytes-clause-found : goal.returns-in-Ok-Bytes-clause-found
returns-in-Ok-Bytes-clause-found g c = λ told.
    docket_read (now (g.S.Shelf.history c.read_at.new.self)).files c.args.buf.now c.read_at.new.buf c.in-Ok-Bytes.n c.requires
    (rw c.in-Ok-Bytes.field-0-is at (c.in-Ok-Bytes.ensures.found told))

pub returns-in-Err-clause-asked : goal.returns-in-Err-clause-asked
returns-in-Err-clause-asked g c = λ told.
    front_first false docket_ask [] (g.S.Shelf.history c.args.shelf.now) (g.S.Shelf.history c.read_at.new.self) (rw c.requires at (c.in-Err.ensures.asked told))

pub returns-in-Ok-Absent-clause-asked : goal.returns-in-Ok-Absent-clause-asked
returns-in-Ok-Absent-clause-asked g c = λ told.
    answered (docket_ask ∷ []) (g.S.Shelf.history c.args.shelf.now) (g.S.Shelf.history c.read_at.new.self) (rw c.requires at (c.in-Ok-Absent.ensures.asked told))

pub returns-in-Ok-Bytes-clause-asked : goal.returns-in-Ok-Bytes-clause-asked
returns-in-Ok-Bytes-clause-asked g c = λ told.
    answered (docket_ask ∷ []) (g.S.Shelf.history c.args.shelf.now) (g.S.Shelf.history c.read_at.new.self) (rw c.requires at (c.in-Ok-Bytes.ensures.asked told))
