use Rattle.std.proofs.lemmas.Map.Text.{btree_map_updates_text}
use Rattle.hg_shelf.proofs.files.take.Goals as goal

pub returns : goal.returns
returns c = λ at. btree_map_updates_text c.args.name.now c.args.files.now c.remove.new.self _ c.remove.ensures.updates at
