use Rattle.std.proofs.Common.{sym, ◌∙◌, subst}
use Rattle.std.proofs.lemmas.Map.Text.{btree_map_updates_text}
use Rattle.hg_nodes.proofs.Listed.{ArePlaced, all_remove, found_dropped}
use Rattle.hg_nodes.proofs.lists.drop_empty.Goals as goal

pub returns-then-not-has_kids : goal.returns-then-not-has_kids
returns-then-not-has_kids c = record {
  found = found_dropped c.args.dir.now c.args.lists.now c.remove.new.self c.requires (sym c.has_kids.ensures ∙ c.if-not-has_kids.true)
      (λ d. btree_map_updates_text c.args.dir.now c.args.lists.now c.remove.new.self _ c.remove.ensures.updates d);
  listed = record {
    ordered = c.remove.ensures.ordered;
    placed = subst ArePlaced (sym c.remove.ensures.entries) (all_remove _ c.args.lists.now.entries c.requires.placed);
  };
}
