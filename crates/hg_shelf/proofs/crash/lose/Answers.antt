use Rattle.hg_shelf.specs.Crash.{lost_by}
use Rattle.hg_shelf.proofs.CrashFiles.{wrote_by}
use Rattle.hg_shelf.proofs.crash.lose.Goals as goal

pub returns-in_ok-lose_write-in-Wrote : goal.returns-in_ok-lose_write-in-Wrote
returns-in_ok-lose_write-in-Wrote c =
    wrote_by (lost_by c.args.fill c.args.rest.now) c.args.step.now _ _ _ _ _ _ _ c.in-Wrote.is c.as_str-in-Wrote.ensures c.as_bytes-in-Wrote.ensures c.in_ok-lose_write-in-Wrote.ensures
