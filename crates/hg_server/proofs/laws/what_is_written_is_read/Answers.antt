use Rattle.hg_server.proofs.Parting.{awaited, taken}
use Rattle.hg_server.proofs.laws.what_is_written_is_read.Goals as goal

pub returns-clause-taken : goal.returns-clause-taken
returns-clause-taken c = taken

pub returns-clause-awaited : goal.returns-clause-awaited
returns-clause-awaited c = awaited
