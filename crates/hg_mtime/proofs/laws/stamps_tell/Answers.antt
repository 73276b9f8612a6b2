use Rattle.hg_mtime.proofs.Tests.{stamp_given, stamp_tells}
use Rattle.hg_mtime.proofs.laws.stamps_tell.Goals as goal

pub returns-clause-tells : goal.returns-clause-tells
returns-clause-tells c = stamp_tells

pub returns-clause-given : goal.returns-clause-given
returns-clause-given c = stamp_given
