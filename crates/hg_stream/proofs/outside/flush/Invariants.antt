-- A flush leaves what was written.
use Rattle.std.specs.Io.KnownBytes.{Keeps}
use Rattle.hg_stream.proofs.outside.flush.Given as goal

abbrev pub invariant-loop : goal.invariant-loop
invariant-loop g l = Keeps (g.W.Write.contents l.initial.writer) (g.W.Write.contents l.writer)
