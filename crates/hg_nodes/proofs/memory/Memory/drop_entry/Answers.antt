use Rattle.hg_nodes.proofs.Dropped.{clear_formed, clear_nodes, clear_pruned}
use Rattle.hg_nodes.proofs.memory.Memory.drop_entry.Goals as goal

pub prune-requires : goal.prune-requires
prune-requires c = clear_formed c.args.path.text.now _ _ c.self.view_is c.clear.new.nodes c.clear.ensures c.requires c.self.invariant

pub returns-clause-pruned : goal.returns-clause-pruned
returns-clause-pruned c =
    clear_pruned c.args.path.text.now _ _ c.self.view_is c.clear.new.nodes c.clear.ensures c.requires c.prune.new.nodes c.prune.new.times c.prune.ensures.pruned

pub returns-clause-nodes : goal.returns-clause-nodes
returns-clause-nodes c = clear_nodes c.args.path.text.now _ _ c.self.view_is c.clear.new.nodes c.clear.ensures c.prune.new.nodes c.prune.ensures.kept
