use Rattle.std.proofs.Common.{option_map, rules}
use Rattle.hg_base.specs.PathText.{joined}
use Rattle.hg_walk.proofs.Rows.{joined_at}
use Rattle.hg_walk.proofs.keeper.Keeper.is_joined_at.Goals as goal

pub returns : goal.returns
returns c = λ is. joined_at c.args.self.now.children.items (joined (option_map (λ d. d.text.now) c.args.dir) c.args.name.now) c.args.at c.index.result.now (search rules) (search rules) (c.is_joined.ensures is)
