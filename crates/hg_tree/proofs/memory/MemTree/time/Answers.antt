-- The clock is that of the last moment, and each moment of the tree is well formed.
use Rattle.std.proofs.Common.{◌≡◌, subst}
use Rattle.std.specs.BTreeMap.{get_by_text}
use Rattle.hg_tree.specs.History.{AreFormed, now}
use Rattle.hg_tree.specs.Memory.{Memory, history_of}
use Rattle.hg_tree.proofs.Shown.{now_clock}
use Rattle.hg_tree.proofs.memory.MemTree.time.Goals as goal

pub returns-clause-found : goal.returns-clause-found
returns-clause-found c =
    subst (λ (m : Memory). c.self.inside.clock ≡ (now (history_of m)).clock) c.self.view_is
    (now_clock (record { start = c.self.inside.start; changes = c.self.inside.changes.items; due = c.self.inside.due; asked = c.self.inside.asked.items; calls = c.self.inside.calls }) c.self.inside.clock (get_by_text c.self.inside.things) c.self.invariant)

pub returns-clause-formed : goal.returns-clause-formed
returns-clause-formed c = subst (λ (m : Memory). AreFormed (history_of m)) c.self.view_is (record { each = c.self.invariant.formed })
