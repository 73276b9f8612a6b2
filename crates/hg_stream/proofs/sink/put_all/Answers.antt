use Rattle.std.proofs.Common.{◌∙◌}
use Rattle.hg_stream.proofs.Grown.{more_put}
use Rattle.hg_stream.proofs.sink.put_all.Goals as goal

pub loop-rest-preserved : goal.loop-rest-preserved
loop-rest-preserved g c = record {
  put = rw c.split_at.ensures.back (more_put _ c.loop-rest.invariant.put c.in_ok-n.ensures.grown);
  quiet = c.in_ok-n.ensures.cause.quiet ∙ c.loop-rest.invariant.quiet;
}
