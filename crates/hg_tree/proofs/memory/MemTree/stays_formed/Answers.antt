-- Each moment of the tree is well formed.
use Rattle.std.proofs.Common.{subst}
use Rattle.hg_tree.specs.History.{AreFormed}
use Rattle.hg_tree.specs.Memory.{Memory, history_of}
use Rattle.hg_tree.proofs.memory.MemTree.stays_formed.Goals as goal

pub returns : goal.returns
returns c = subst (λ (m : Memory). AreFormed (history_of m)) c.self.view_is (record { each = c.self.invariant.formed })
