use Rattle.std.proofs.Common.{◌≡◌, drop}
use Rattle.hg_stream.specs.Stream.{GrownBut}
use Rattle.hg_front.specs.Shown.{shown}
use Rattle.hg_front.proofs.pieces.put_name.Given as goal

-- the bytes so far were put
abbrev pub invariant-loop-byte : goal.invariant-loop-byte
invariant-loop-byte g l = record {
  put : GrownBut (g.O.Sink.bytes l.initial.out) (g.O.Sink.bytes l.out) (shown l.name) (shown (drop l.byte-index l.name));
  quiet : g.O.Sink.faults l.out ≡ g.O.Sink.faults l.initial.out;
}
