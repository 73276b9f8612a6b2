use Rattle.hg_cli.proofs.Carried.{by_itself}
use Rattle.hg_cli.proofs.carrying.carry_out.Goals as goal

pub returns-in_default : goal.returns-in_default
returns-in_default g c = by_itself _ _ _ c.args.given.now (λ n is. c.in_default.not-DebugLoad n is) c.command.ensures
