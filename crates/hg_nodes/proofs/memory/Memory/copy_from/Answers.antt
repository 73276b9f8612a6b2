use Rattle.std.specs.Option.{option_map}
use Rattle.hg_nodes.proofs.Edited.{copy_told, copy_formed, copy_marks, copy_table, some_node, written_of}
use Rattle.hg_nodes.proofs.memory.Memory.copy_from.Goals as goal

pub put_source-requires : goal.put_source-requires
put_source-requires c = some_node _ _ c.self.view_is c.args.path.text.now c.requires

pub invariant_of-self-in-Ok : goal.invariant_of-self-in-Ok
invariant_of-self-in-Ok c =
    copy_formed c.args.path.text.now (option_map (λ s. s.text.now) c.args.source) _ _ c.self.view_is c.put_source.new.nodes c.in-Ok.ensures.ok c.requires c.in-Ok.differs c.in-Ok.ensures.differs c.self.invariant

pub returns-in-Ok-clause-table : goal.returns-in-Ok-clause-table
returns-in-Ok-clause-table c =
    copy_table c.args.path.text.now (option_map (λ s. s.text.now) c.args.source) _ _ c.self.view_is c.put_source.new.nodes c.in-Ok.ensures.ok c.requires c.in-Ok.differs c.in-Ok.ensures.differs

pub returns-in-Ok-clause-changed : goal.returns-in-Ok-clause-changed
returns-in-Ok-clause-changed c =
    copy_marks c.args.path.text.now (option_map (λ s. s.text.now) c.args.source) _ _ c.self.view_is c.put_source.new.nodes c.in-Ok.ensures.ok c.requires c.in-Ok.differs c.in-Ok.ensures.differs

pub returns-in-Ok-clause-nodes : goal.returns-in-Ok-clause-nodes
returns-in-Ok-clause-nodes c = written_of c.args.path.text.now (option_map (λ s. s.text.now) c.args.source) _ _ c.self.view_is c.put_source.new.nodes c.in-Ok.ensures.ok

pub returns-in-Ok-clause-differs : goal.returns-in-Ok-clause-differs
returns-in-Ok-clause-differs c =
    copy_told c.args.path.text.now (option_map (λ s. s.text.now) c.args.source) _ _ c.self.view_is c.put_source.new.nodes c.in-Ok.ensures.ok c.requires c.in-Ok.differs c.in-Ok.ensures.differs
