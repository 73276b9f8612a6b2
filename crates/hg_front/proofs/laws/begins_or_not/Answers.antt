use Rattle.hg_front.proofs.Beginning.{has_folder, not_stopped}
use Rattle.hg_front.proofs.laws.begins_or_not.Goals as goal

pub returns : goal.returns
returns c folder here words placed old new before after is begins told now first last =
    (not_stopped folder here words placed old new before after is begins told now first last, has_folder folder words placed is told now first last)
