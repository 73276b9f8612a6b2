use Rattle.std.proofs.lemmas.Map.Text.{btree_set_updates_text}
use Rattle.hg_cli.proofs.Paths.{one_more}
use Rattle.hg_cli.proofs.reading.put.Goals as goal

pub returns : goal.returns
returns c =
    one_more c.args.path.now _ c.args.paths.now c.insert.new.self _ c.in_ok-from_str.ensures.ok (btree_set_updates_text _ c.args.paths.now c.insert.new.self _ c.in_ok-insert.ensures.updates)
    c.in_ok-insert.ensures.added c.in_ok-insert.ensures.len
