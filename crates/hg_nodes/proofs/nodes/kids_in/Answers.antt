use Rattle.std.proofs.Common.{refl}
use Rattle.hg_nodes.proofs.KidsOf.{kids_none, kids_some}
use Rattle.hg_nodes.proofs.nodes.kids_in.Goals as goal

pub returns-in-None : goal.returns-in-None
returns-in-None c = kids_none c.args.lists.now c.args.dir.now _ c.requires refl c.in-None.ensures.value

pub returns-in-Some : goal.returns-in-Some
returns-in-Some c = kids_some c.args.lists.now c.args.dir.now _ c.requires refl c.in-Some.list.now c.in-Some.ensures.value c.iter.result c.iter.ensures.rest c.iter.ensures.ordered
