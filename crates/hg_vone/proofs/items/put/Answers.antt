use Rattle.std.proofs.Common.{◌∙◌, ap}
use Rattle.std.specs.Prelude.{List, ℕ, ◌||◌}
use Rattle.std.specs.Str.{bytes_eq}
use Rattle.std.specs.BTreeSet.{contains_text}
use Rattle.std.proofs.lemmas.Map.Text.{btree_set_updates_text}
use Rattle.hg_vone.proofs.Reading.{or_cond}
use Rattle.hg_vone.proofs.items.put.Goals as goal

pub returns-clause-more : goal.returns-clause-more
returns-clause-more c = λ q.
    btree_set_updates_text _ c.args.paths.now c.insert.new.self _ c.in_ok-insert.ensures.updates q
    ∙ or_cond _ (contains_text c.args.paths.now q)
    ∙ ap (λ (t : List ℕ). bytes_eq t q || contains_text c.args.paths.now q) c.in_ok-from_str.ensures.ok
