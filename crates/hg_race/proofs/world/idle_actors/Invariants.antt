use Rattle.std.proofs.Common.{◌≡◌, replicate}
use Rattle.hg_race.specs.World.{idle}
use Rattle.hg_race.proofs.world.idle_actors.Given as goal

abbrev pub invariant-loop-who : goal.invariant-loop-who
invariant-loop-who l = l.made.items ≡ replicate l._who idle
