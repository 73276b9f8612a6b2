use Rattle.std.proofs.Common.{◌≡◌, length}
use Rattle.hg_stream.specs.Stream.{GrownBut}
use Rattle.hg_server.specs.Protocol.{messages}
use Rattle.hg_server.proofs.messages.put_text.Given as goal

-- the messages of the rest are left to be put, and the sink didn't fail
abbrev pub invariant-loop-rest : goal.invariant-loop-rest
invariant-loop-rest g l = record {
  put : GrownBut (g.O.Sink.bytes l.initial.out) (g.O.Sink.bytes l.out) (messages l.channel l.text) (messages l.channel l.rest);
  quiet : g.O.Sink.faults l.out ≡ g.O.Sink.faults l.initial.out;
}

abbrev pub decreases-loop-rest : goal.decreases-loop-rest
decreases-loop-rest g l = length l.rest
