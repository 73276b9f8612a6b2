use Rattle.hg_walk.proofs.Growing.{one_more_clean, one_more_seen}
use Rattle.hg_walk.proofs.laws.notes_grow.Goals as goal

pub returns-clause-clean : goal.returns-clause-clean
returns-clause-clean c = one_more_clean

pub returns-clause-seen : goal.returns-clause-seen
returns-clause-seen c = one_more_seen
