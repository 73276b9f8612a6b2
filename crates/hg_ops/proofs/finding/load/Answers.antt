use Rattle.std.proofs.Common.{Ok, Err, refl, sym, subst}
use Rattle.hg_manifest.specs.Load.{asks_of}
use Rattle.hg_ops.specs.Parent.{LacksManifest, upto}
use Rattle.hg_ops.proofs.ReadParent.{load_done, load_failed, loads_room}
use Rattle.hg_shelf.proofs.Asks.{order_made}
use Rattle.hg_ops.proofs.finding.load.Goals as goal

pub returns-in-Ok-clause-found : goal.returns-in-Ok-clause-found
returns-in-Ok-clause-found g c = λ s first same.
    loads_room (upto s (g.S.Shelf.history c.load.new.shelf)) c.in-Ok.manifest c.with_room.result c.with_room.ensures.manifest c.with_room.ensures.kind
    (load_done s (g.S.Shelf.history c.args.shelf.now) (g.S.Shelf.history c.load.new.shelf) c.args.id.now c.in-Ok.manifest (Ok c.in-Ok.manifest) refl first c.load.ensures.passes same c.in-Ok.ensures.null c.in-Ok.ensures.found)

pub returns-in-Err-clause-found : goal.returns-in-Err-clause-found
returns-in-Err-clause-found g c = λ s first same.
    subst (LacksManifest (upto s (g.S.Shelf.history c.load.new.shelf))) (sym c.from.ensures)
    (load_failed s (g.S.Shelf.history c.args.shelf.now) (g.S.Shelf.history c.load.new.shelf) c.args.id.now c.in-Err.fault (Err c.in-Err.fault) refl first c.load.ensures.passes same c.in-Err.ensures.null c.in-Err.ensures.found)

pub returns-in-Ok-clause-asked : goal.returns-in-Ok-clause-asked
returns-in-Ok-clause-asked g c = λ told.
    let by = c.in-Ok.ensures.asked told in
    record {
      file = by.file;
      was = by.was;
      asks = order_made (asks_of c.args.id.now by.file) (g.S.Shelf.history c.args.shelf.now) (g.S.Shelf.history c.load.new.shelf) c.with_room.result by.asks;
    }

pub returns-in-Err-clause-asked : goal.returns-in-Err-clause-asked
returns-in-Err-clause-asked g c = λ told.
    let by = c.in-Err.ensures.asked told in
    record { file = by.file; was = by.was; asks = by.asks }
