use Rattle.std.proofs.Common.{arith}
use Rattle.std.specs.List.{IsDistinct}
use Rattle.hg_flat.proofs.flat.Flat.new.Goals as goal

pub invariant_of-result : goal.invariant_of-result
unfolding IsDistinct
invariant_of-result c = rw c.new.ensures.items record { ascending = λ k d least below. absurd (omega (arith, below)); own = tt }
