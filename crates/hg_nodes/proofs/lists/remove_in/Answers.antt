use Rattle.std.proofs.Common.{subst, sym}
use Rattle.std.specs.Map.{keys_of}
use Rattle.std.proofs.lemmas.Map.Text.{btree_map_updates_text}
use Rattle.hg_nodes.specs.Lists.{IsListOf}
use Rattle.hg_nodes.proofs.Listed.{placed_remove}
use Rattle.hg_nodes.proofs.lists.remove_in.Goals as goal

pub returns : goal.returns
returns c = record {
  found = λ at. btree_map_updates_text c.args.path.now c.args.list.now c.remove.new.self _ c.remove.ensures.updates at;
  placed = λ dir here placed. subst (λ es. IsListOf dir (keys_of es)) (sym c.remove.ensures.entries) (placed_remove dir _ c.args.list.now.entries placed);
}
