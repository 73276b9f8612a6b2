use Rattle.hg_cli.proofs.Loading.{made_so}
use Rattle.hg_cli.proofs.load.copy.Goals as goal

pub returns : goal.returns
returns c =
    made_so c.args.dirs c.in_ok-made.made c.apart.result c.in_ok-made.ensures.copy c.in_ok-made.ensures.files c.in_ok-made.ensures.given c.in_ok-made.ensures.refusals c.apart.ensures.tree c.apart.ensures.shelf
