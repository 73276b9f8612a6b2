use Rattle.hg_glob.proofs.Places.{parts_here}
use Rattle.hg_glob.proofs.part_row.PartRow.at.Goals as goal

pub returns-clause-parts : goal.returns-clause-parts
returns-clause-parts c = parts_here c.self.inside.parts.items c.deref.result.now c.self.inside.places.items c.args.self.now c.args.i c.index-place.result.now c.deref.ensures.value c.self.view_is c.requires.inside c.index-place.ensures
