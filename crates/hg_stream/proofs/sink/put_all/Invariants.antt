use Rattle.std.proofs.Common.{◌≡◌, length}
use Rattle.hg_stream.specs.Stream.{GrownBut}
use Rattle.hg_stream.proofs.sink.put_all.Given as goal

abbrev pub invariant-loop-rest : goal.invariant-loop-rest
invariant-loop-rest g l = record {
  put : GrownBut (g.O.Sink.bytes l.initial.out) (g.O.Sink.bytes l.out) l.piece l.rest;
  quiet : g.O.Sink.faults l.out ≡ g.O.Sink.faults l.initial.out;
}

abbrev pub decreases-loop-rest : goal.decreases-loop-rest
decreases-loop-rest g l = length l.rest
