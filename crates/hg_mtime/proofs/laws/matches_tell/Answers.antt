use Rattle.hg_mtime.proofs.Tests.{match_given, match_tells}
use Rattle.hg_mtime.proofs.laws.matches_tell.Goals as goal

pub returns-clause-tells : goal.returns-clause-tells
returns-clause-tells c = match_tells

pub returns-clause-given : goal.returns-clause-given
returns-clause-given c = match_given
