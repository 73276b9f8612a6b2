use Rattle.hg_glob.specs.Many.{SharesEnd}
use Rattle.hg_glob.proofs.ordering.shared_end.Given as goal

abbrev pub invariant-loop-k : goal.invariant-loop-k
invariant-loop-k l = SharesEnd l.k l.a l.b
