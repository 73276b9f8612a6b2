use Rattle.std.proofs.Common.{None, Some, [], refl}
use Rattle.hg_mixed.proofs.Lents.{root_put}
use Rattle.hg_mixed.proofs.lent.Lent.of_root.Goals as goal

pub returns : goal.returns
returns c = root_put None (Some c.args.list) [] refl
