use Rattle.std.proofs.Common.{◌≡◌, length}
use Rattle.hg_vone.specs.Format.{differs}
use Rattle.hg_vone.proofs.format.differ.Given as goal

abbrev pub invariant-loop-front : goal.invariant-loop-front
invariant-loop-front l = differs l.fn.front l.fn.bytes ≡ differs l.front l.rest

abbrev pub decreases-loop-front : goal.decreases-loop-front
decreases-loop-front l = length l.front
