use Rattle.hg_shelf.specs.Crash.{done_by}
use Rattle.hg_shelf.proofs.CrashFiles.{wrote_by}
use Rattle.hg_shelf.proofs.crash.finish.Goals as goal

pub returns-in_ok-write-in-Wrote : goal.returns-in_ok-write-in-Wrote
returns-in_ok-write-in-Wrote c =
    wrote_by done_by c.args.step.now _ _ _ _ _ _ _ c.in-Wrote.is c.as_str-in-Wrote.ensures c.as_bytes-in-Wrote.ensures c.in_ok-write-in-Wrote.ensures.ok
