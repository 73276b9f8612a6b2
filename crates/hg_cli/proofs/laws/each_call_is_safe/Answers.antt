use Rattle.hg_cli.proofs.Calling.{each_call_is_safe}
use Rattle.hg_cli.proofs.laws.each_call_is_safe.Goals as goal

pub returns : goal.returns
returns g c = each_call_is_safe _
