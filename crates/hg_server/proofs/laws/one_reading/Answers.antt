use Rattle.hg_server.proofs.Parting.{one_reading}
use Rattle.hg_server.proofs.laws.one_reading.Goals as goal

pub returns : goal.returns
returns c = one_reading
