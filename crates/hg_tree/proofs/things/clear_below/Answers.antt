-- What `retain` keeps is what doesn't stand below the directory.
use Rattle.std.proofs.Common.{rules, not, ap, ◌∙◌}
use Rattle.std.specs.BTreeMap.{is_at}
use Rattle.std.specs.Map.{lookup}
use Rattle.std.specs.String.{string_bytes}
use Rattle.std.proofs.lemmas.Map.Made.{filter_same_pairs}
use Rattle.std.proofs.lemmas.Map.Text.{text_cmp}
use Rattle.hg_base.specs.PathText.{is_below}
use Rattle.hg_tree.proofs.Maps.{cleared}
use Rattle.hg_tree.proofs.things.clear_below.Goals as goal

pub returns : goal.returns
returns c = λ at.
    ap (lookup (is_at (text_cmp at))) (filter_same_pairs _ (λ e. not (is_below c.args.dir.now (string_bytes e.0))) _ (λ k v b w f' t. search rules) _ _ c.retain.ensures.filtered)
    ∙ cleared c.args.dir.now at c.args.things.now.entries
