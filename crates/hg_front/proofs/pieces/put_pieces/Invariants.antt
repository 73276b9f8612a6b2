use Rattle.std.proofs.Common.{◌≡◌, drop}
use Rattle.std.specs.List.{flat_map}
use Rattle.hg_stream.specs.Stream.{GrownBut}
use Rattle.hg_front.proofs.pieces.put_pieces.Given as goal

-- the texts so far were put
abbrev pub invariant-loop-piece : goal.invariant-loop-piece
invariant-loop-piece g l = record {
  put : GrownBut (g.O.Sink.bytes l.initial.out) (g.O.Sink.bytes l.out) (flat_map (λ p. p.now) l.pieces) (flat_map (λ p. p.now) (drop l.piece-index l.pieces));
  quiet : g.O.Sink.faults l.out ≡ g.O.Sink.faults l.initial.out;
}
