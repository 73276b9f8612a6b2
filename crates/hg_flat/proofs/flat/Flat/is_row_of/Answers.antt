use Rattle.std.proofs.Common.{rules}
use Rattle.hg_flat.proofs.Holding.{stands_at}
use Rattle.hg_flat.proofs.flat.Flat.is_row_of.Goals as goal

pub returns : goal.returns
returns c = λ is. stands_at c.args.self.now.rows.items c.args.path.now c.args.at c.index.result.now (search rules) (search rules) (search rules)
