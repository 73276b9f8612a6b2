use Rattle.std.proofs.Common.{Some, ap, refl}
use Rattle.hg_cli.proofs.Loading.{status_of}
use Rattle.hg_cli.proofs.load.status.Goals as goal

pub returns-in-None : goal.returns-in-None
returns-in-None c =
    status_of _ _ _ _ _ _ _ _ _ c.in-None.is c.all_letters.ensures (ap (λ s. Some s.bytes) c.new-out.ensures) refl c.command-done.ensures
