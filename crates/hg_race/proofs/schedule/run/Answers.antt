use Rattle.std.proofs.Common.{take}
use Rattle.hg_race.specs.Seen.{world_of}
use Rattle.hg_race.proofs.Lasting.{always_safe}
use Rattle.hg_race.proofs.Refusing.{next_made, next_refused}
use Rattle.hg_race.proofs.schedule.run.Goals as goal

pub returns-then-not-enabled-clause-cause : goal.returns-then-not-enabled-clause-cause
returns-then-not-enabled-clause-cause c =
    next_refused c.args.actors c.args.events.now c.loop-at.at c.index-events-at.result
    (world_of c.loop-at.world) c.loop-at-test.true c.index-events-at.is c.loop-at.invariant (cc)

pub loop-at-preserved : goal.loop-at-preserved
loop-at-preserved c =
    next_made c.args.actors c.args.events.now c.loop-at.at c.index-events-at.result (world_of c.loop-at.world)
    (world_of c.step.new.self) c.loop-at-test.true c.index-events-at.is c.loop-at.invariant (cc) c.in_ok-step.ensures.ok

pub returns-clause-safe : goal.returns-clause-safe
returns-clause-safe c = always_safe c.args.actors (take c.loop-at.at c.args.events.now) (world_of c.loop-at.world) c.loop-at.invariant
