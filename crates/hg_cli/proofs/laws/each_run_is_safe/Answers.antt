use Rattle.hg_cli.proofs.Calling.{each_run_is_safe}
use Rattle.hg_cli.proofs.laws.each_run_is_safe.Goals as goal

pub returns : goal.returns
returns g c = each_run_is_safe _
