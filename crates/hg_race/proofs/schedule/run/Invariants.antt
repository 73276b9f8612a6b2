use Rattle.std.proofs.Common.{take}
use Rattle.hg_race.specs.Seen.{world_of}
use Rattle.hg_race.specs.Steps.{Reaches}
use Rattle.hg_race.proofs.schedule.run.Given as goal

abbrev pub invariant-loop-at : goal.invariant-loop-at
invariant-loop-at l = Reaches l.actors (take l.at l.events) (world_of l.world)
