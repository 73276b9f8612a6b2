use Rattle.hg_shelf.proofs.Replay.{written_step}
use Rattle.hg_shelf.proofs.files.step.Goals as goal

pub returns-in_ok-write-in-Wrote-clause-ok : goal.returns-in_ok-write-in-Wrote-clause-ok
returns-in_ok-write-in-Wrote-clause-ok c = written_step _ _ _ _ _ _ _ _ c.in-Wrote.is c.as_str-in-Wrote.ensures c.as_bytes-in-Wrote.ensures c.in_ok-write-in-Wrote.ensures.ok
