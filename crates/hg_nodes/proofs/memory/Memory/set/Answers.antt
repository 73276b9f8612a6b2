use Rattle.hg_entry.specs.Entry.{view}
use Rattle.hg_nodes.proofs.Edited.{set_told, set_formed, set_marks, set_table}
use Rattle.hg_nodes.proofs.memory.Memory.set.Goals as goal

pub invariant_of-self-in-Ok : goal.invariant_of-self-in-Ok
invariant_of-self-in-Ok c =
    set_formed c.args.path.text.now (view c.args.entry) _ _ c.self.view_is c.put_entry.new.nodes c.remove.new.self c.in-Ok.ensures.ok c.remove.ensures c.args.path.is_path c.self.invariant

pub returns-in-Ok-clause-table : goal.returns-in-Ok-clause-table
returns-in-Ok-clause-table c = set_table c.args.path.text.now (view c.args.entry) _ _ c.self.view_is c.put_entry.new.nodes c.remove.new.self c.in-Ok.ensures.ok c.remove.ensures

pub returns-in-Ok-clause-changed : goal.returns-in-Ok-clause-changed
returns-in-Ok-clause-changed c =
    set_marks c.args.path.text.now (view c.args.entry) _ _ c.self.view_is c.put_entry.new.nodes c.remove.new.self c.in-Ok.ensures.ok c.remove.ensures c.args.path.is_path c.self.invariant
    c.in-Ok.differs c.in-Ok.ensures.differs

pub returns-in-Ok-clause-differs : goal.returns-in-Ok-clause-differs
returns-in-Ok-clause-differs c =
    set_told c.args.path.text.now (view c.args.entry) _ _ c.self.view_is c.put_entry.new.nodes c.remove.new.self c.in-Ok.ensures.ok c.remove.ensures c.args.path.is_path c.self.invariant
    c.in-Ok.differs c.in-Ok.ensures.differs
