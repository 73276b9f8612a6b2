-- Each moment of the tree is well formed.
use Rattle.std.proofs.Common.{subst}
use Rattle.hg_tree.specs.History.{AreFormed}
use Rattle.hg_tree.specs.Memory.{Memory, history_of}
use Rattle.hg_tree.proofs.memory.MemTree.bytes.Goals as goal

pub returns-in-Some-clause-formed : goal.returns-in-Some-clause-formed
returns-in-Some-clause-formed c =
    subst (λ (m : Memory). AreFormed (history_of m)) c.self.view_is (record { each = c.self.invariant.formed })

pub returns-in-None-clause-formed : goal.returns-in-None-clause-formed
returns-in-None-clause-formed c =
    subst (λ (m : Memory). AreFormed (history_of m)) c.self.view_is (record { each = c.self.invariant.formed })
