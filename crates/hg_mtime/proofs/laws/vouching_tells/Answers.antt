use Rattle.hg_mtime.proofs.Tests.{vouch_given, vouch_tells}
use Rattle.hg_mtime.proofs.laws.vouching_tells.Goals as goal

pub returns-clause-tells : goal.returns-clause-tells
returns-clause-tells c = vouch_tells

pub returns-clause-given : goal.returns-clause-given
returns-clause-given c = vouch_given
