use Rattle.std.proofs.lemmas.Map.Text.{btree_set_updates_text}
use Rattle.hg_ignore.proofs.Globs.{text_put}
use Rattle.hg_ignore.proofs.distinct.put.Goals as goal

pub returns-clause-more : goal.returns-clause-more
returns-clause-more c = λ q there.
    text_put c.args.text.now _ q _ _ c.in_ok-from_str.ensures.ok (btree_set_updates_text _ c.args.texts.now c.insert.new.self _ c.in_ok-insert.ensures.updates q) there
