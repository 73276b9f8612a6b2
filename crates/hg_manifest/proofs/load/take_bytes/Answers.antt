use Rattle.std.proofs.Common.{true, [], ◌∙◌}
use Rattle.hg_shelf.specs.declared.asked.Asked.TheVariants as an_ask
use Rattle.hg_shelf.proofs.Asks.{front_first}
use Rattle.hg_manifest.proofs.load.take_bytes.Goals as goal

pub returns-in-Ok-Absent-clause-asked : goal.returns-in-Ok-Absent-clause-asked
returns-in-Ok-Absent-clause-asked g c = λ told.
    front_first true (an_ask.Read c.args.name.now 0 c.args.size) [] (g.S.Shelf.history c.args.shelf.now) (g.S.Shelf.history c.read_at.new.self)
    (rw (c.as_mut_slice.ensures.len ∙ c.in_ok-bytes.ensures.len) at (c.in-Ok-Absent.ensures.asked told))
