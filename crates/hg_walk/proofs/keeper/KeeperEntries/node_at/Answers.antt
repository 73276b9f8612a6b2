use Rattle.std.proofs.Common.{rules, arith}
use Rattle.hg_walk.proofs.Rows.{node_end, node_here}
use Rattle.hg_walk.proofs.keeper.KeeperEntries.node_at.Goals as goal

pub returns-clause-node : goal.returns-clause-node
returns-clause-node c = node_here c.args.self.now.children.items c.args.at c.index.result.now (search rules) c.index.ensures

pub returns-then-at-len-clause-end : goal.returns-then-at-len-clause-end
returns-then-at-len-clause-end c = λ none. node_end c.args.self.now.children.items c.args.at (search rules)
