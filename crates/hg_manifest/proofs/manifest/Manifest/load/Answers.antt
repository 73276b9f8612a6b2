use Rattle.std.proofs.Common.{◌∙◌, sym}
use Rattle.hg_manifest.proofs.Loads.{asks_null, asks_other}
use Rattle.hg_manifest.proofs.manifest.Manifest.load.Goals as goal

pub returns-then-is_null-clause-asked : goal.returns-then-is_null-clause-asked
returns-then-is_null-clause-asked g c = λ told.
    rw c.empty.ensures (asks_null c.args.id.now (g.S.Shelf.history c.args.shelf.now) (sym c.is_null.ensures ∙ c.if-is_null.true))

pub returns-clause-asked : goal.returns-clause-asked
returns-clause-asked g c = λ told.
    asks_other c.args.id.now (g.S.Shelf.history c.args.shelf.now) (g.S.Shelf.history c.load_file.new.shelf) c.load_file.result (sym c.is_null.ensures ∙ c.if-is_null.false) (c.load_file.ensures.asked told)
