use Rattle.hg_walk.proofs.Cached.{cached_is_listed}
use Rattle.hg_walk.proofs.Parts.{trusted_are_right}
use Rattle.hg_walk.proofs.Vouched.{vouched_is_clean}
use Rattle.hg_walk.proofs.laws.trusted_are_right.Goals as goal

pub returns-clause-clean : goal.returns-clause-clean
returns-clause-clean c = vouched_is_clean

pub returns-clause-listed : goal.returns-clause-listed
returns-clause-listed c = cached_is_listed

pub returns-clause-right : goal.returns-clause-right
returns-clause-right c = trusted_are_right
