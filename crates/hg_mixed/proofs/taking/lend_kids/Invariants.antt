use Rattle.hg_mixed.specs.Taken.{AreServed, LendsKids}
use Rattle.hg_mixed.proofs.taking.lend_kids.Given as goal

-- the nodes so far have lists of their own, or nothing below them
abbrev pub invariant-loop-i : goal.invariant-loop-i
invariant-loop-i l = (LendsKids l.list l.fn.left l.left) × (AreServed l.list l.i l.left)
