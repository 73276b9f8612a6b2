use Rattle.std.proofs.Common.{take}
use Rattle.hg_glob.proofs.short.Short.prepare.Goals as goal

pub invariant_of-self : goal.invariant_of-self
invariant_of-self c =
    let h = c.self.invariant in
    record { few = h.few; room = h.room; words = h.words; at = h.at; beyond = h.beyond; sums = λ _. c.sums-self-inside.ensures (take c.self.inside.count c.self.inside.items) h.at }
