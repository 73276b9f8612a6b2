use Rattle.std.proofs.Common.{◌≡◌, ◌++◌, take, length}
use Rattle.hg_tree.specs.Memory.{coming_of}
use Rattle.hg_tree.proofs.memory.MemTree.make_due.Given as goal

-- what is due by those so far was made
abbrev pub invariant-loop-index : goal.invariant-loop-index
invariant-loop-index l = record {
  made : l.self ≡ record l.initial.self { changes = l.initial.self.changes ++ coming_of l.call (take l.index l.initial.self.due) };
  end : l.index-end ≡ length l.initial.self.due;
}
