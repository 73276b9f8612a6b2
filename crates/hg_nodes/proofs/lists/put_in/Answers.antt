use Rattle.std.proofs.Common.{arith, subst, sym}
use Rattle.std.specs.Map.{keys_of}
use Rattle.std.proofs.lemmas.Map.Text.{text_keys}
use Rattle.hg_nodes.specs.Lists.{IsListOf}
use Rattle.hg_nodes.proofs.Listed.{placed_insert}
use Rattle.hg_nodes.proofs.lists.put_in.Goals as goal

pub returns-clause-ok : goal.returns-clause-ok
returns-clause-ok c = record {
  found = λ at. grind (arith, text_keys);
  placed = λ dir here placed.
      subst (λ es. IsListOf dir (keys_of es)) (sym c.in_ok-insert.ensures.entries) (placed_insert dir c.args.path c.args.node c.args.list.now.entries here placed);
}
