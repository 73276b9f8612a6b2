use Rattle.hg_glob.proofs.Faults.{LookedAt}
use Rattle.hg_glob.proofs.refusal.unclosed.Given as goal

abbrev pub invariant-loop-k : goal.invariant-loop-k
invariant-loop-k l = LookedAt l.parts l.k l.spare l.found

abbrev pub decreases-loop-k : goal.decreases-loop-k
decreases-loop-k l = l.k
