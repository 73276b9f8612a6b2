use Rattle.hg_glob.proofs.Sums.{SumsTo}
use Rattle.hg_glob.proofs.short.sums.Given as goal

abbrev pub invariant-loop-x : goal.invariant-loop-x
invariant-loop-x l = SumsTo l.table l.sums l.x
