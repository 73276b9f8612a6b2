use Rattle.std.proofs.lemmas.Map.Text.{btree_map_updates_text}
use Rattle.std.specs.String.{string_bytes}
use Rattle.hg_nodes.proofs.Listed.{list_added}
use Rattle.hg_nodes.proofs.lists.put_list.Goals as goal

pub returns-clause-ok : goal.returns-clause-ok
returns-clause-ok c =
    list_added (string_bytes c.args.path) c.args.dir.now c.in_ok-dir.dir c.args.node c.args.lists.now c.insert.new.self c.new-list.result c.put_in.new.list
    c.requires.placed c.in_ok-dir.ensures.ok c.requires.listed c.requires.absent c.new-list.ensures.empty c.in_ok-put_in.ensures.ok
    (λ d. btree_map_updates_text (string_bytes c.in_ok-dir.dir) c.args.lists.now c.insert.new.self _ c.in_ok-insert.ensures.updates d)
    c.in_ok-insert.ensures.entries c.in_ok-insert.ensures.ordered
