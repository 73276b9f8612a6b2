use Rattle.hg_glob.proofs.Passes.{Passing}
use Rattle.hg_glob.proofs.turn.turn.Given as goal

abbrev pub invariant-pass : goal.invariant-pass
invariant-pass l = Passing l.inner l.c l.parts l.fn.marks l.k l.marks l.going l.next l.now l.on l.lit

abbrev pub decreases-pass : goal.decreases-pass
decreases-pass l = l.k
