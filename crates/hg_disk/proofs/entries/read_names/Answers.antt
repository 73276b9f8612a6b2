use Rattle.hg_disk.proofs.entries.read_names.Goals as goal
use Rattle.hg_disk.proofs.Listed.{are_fit}

pub returns-clause-fit : goal.returns-clause-fit
returns-clause-fit g c = are_fit _ _ _ _ c.in_ok-read_each.ensures.fit c.sort_unstable.ensures.permutation c.sort_unstable.ensures.sorted c.dedup.ensures.filtered
