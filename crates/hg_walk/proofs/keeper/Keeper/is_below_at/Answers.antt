use Rattle.std.proofs.Common.{rules}
use Rattle.hg_walk.proofs.Rows.{below_at}
use Rattle.hg_walk.proofs.keeper.Keeper.is_below_at.Goals as goal

pub returns : goal.returns
returns c = λ is. below_at c.args.self.now.children.items c.args.dir.now c.args.at c.index.result.now (search rules) (search rules) (search rules)
