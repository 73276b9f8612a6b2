-- The directory in which the path stands is its parent.
use Rattle.std.proofs.Common.{sym, ◌∙◌}
use Rattle.std.specs.BTreeMap.{get_by_text}
use Rattle.std.proofs.lemmas.Bool.{both_ways}
use Rattle.hg_tree.proofs.Parents.{parent_joined, no_parent, dirs_above}
use Rattle.hg_tree.proofs.things.missing_parent.Goals as goal

pub returns-then-is_dir : goal.returns-then-is_dir
returns-then-is_dir c =
    dirs_above _ _ (get_by_text c.args.things.now) (parent_joined _ _ c.args.path.is_path c.in-Some.ensures.joined) c.requires (sym c.is_dir.ensures ∙ c.if-is_dir.true)

pub returns-else-is_dir : goal.returns-else-is_dir
returns-else-is_dir c = (parent_joined _ _ c.args.path.is_path c.in-Some.ensures.joined, sym c.is_dir.ensures ∙ c.if-is_dir.false)

pub returns-in-None : goal.returns-in-None
returns-in-None c = λ at above. absurd (both_ways _ (no_parent _ c.args.path.is_path c.in-None.ensures.joined at) above)
