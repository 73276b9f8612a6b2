use Rattle.hg_manifest.proofs.Forty.{Looked}
use Rattle.hg_manifest.proofs.line.all_digits.Given as goal

abbrev pub invariant-loop-i : goal.invariant-loop-i
invariant-loop-i l = Looked l.bytes l.i l.all
