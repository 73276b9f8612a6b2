use Rattle.hg_walk.proofs.Parts.{right_in_first, right_in_second}
use Rattle.hg_walk.proofs.laws.right_in_parts.Goals as goal

pub returns-clause-first : goal.returns-clause-first
returns-clause-first c = right_in_first

pub returns-clause-second : goal.returns-clause-second
returns-clause-second c = right_in_second
