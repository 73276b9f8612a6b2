use Rattle.std.proofs.Common.{rules, subst, Some}
use Rattle.hg_nodes.specs.Lists.{IsChanged}
use Rattle.hg_nodes.specs.declared.node.Node.{Node}
use Rattle.hg_nodes.proofs.Listed.{node_written}
use Rattle.hg_nodes.proofs.lists.replace_in.Goals as goal

pub returns-in-Some-clause-changed : goal.returns-in-Some-clause-changed
returns-in-Some-clause-changed c =
    subst (λ (n : Node). IsChanged c.args.path.now (Some n) c.args.list.now (c.get_mut.follows.lender c.replace.new.dest)) c.replace.ensures.after
    (node_written c.args.path.now c.replace.new.dest c.args.list.now (c.get_mut.follows.lender c.replace.new.dest) (search rules) (c.get_mut.follows.holds c.replace.new.dest))
