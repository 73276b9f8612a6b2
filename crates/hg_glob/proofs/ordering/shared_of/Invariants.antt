use Rattle.std.proofs.Common.{take}
use Rattle.hg_glob.specs.Many.{AreShared}
use Rattle.hg_glob.proofs.ordering.shared_of.Given as goal

abbrev pub invariant-loop-i : goal.invariant-loop-i
invariant-loop-i l = AreShared (take l.i l.row) l.shared.items
