use Rattle.hg_ignore.proofs.Globs.{KeptOf}
use Rattle.hg_ignore.proofs.distinct.distinct.Given as goal

abbrev pub invariant-loop-line : goal.invariant-loop-line
invariant-loop-line l = KeptOf l.kept.items l.yielded l.seen
