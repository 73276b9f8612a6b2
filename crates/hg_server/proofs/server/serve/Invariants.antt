use Rattle.std.proofs.Common.{◌≡◌, ◌-◌}
use Rattle.hg_server.proofs.Chaining.{Going}
use Rattle.hg_server.proofs.server.serve.Given as goal

-- the requests so far were served, and no device failed
abbrev pub invariant-loop-words : goal.invariant-loop-words
invariant-loop-words g l = record {
  going : Going g.R.Runner.step (g.I.Source.left l.fn.input) (g.O.Sink.bytes l.fn.out) l.fn.runner (g.I.Source.left l.input) (g.O.Sink.bytes l.out) l.runner l.served;
  source : g.I.Source.faults l.input ≡ g.I.Source.faults l.fn.input;
  sink : g.O.Sink.faults l.out ≡ g.O.Sink.faults l.fn.out;
}

abbrev pub decreases-loop-words : goal.decreases-loop-words
decreases-loop-words g l = 4294967296 - l.served
