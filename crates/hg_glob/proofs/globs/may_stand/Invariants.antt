use Rattle.hg_glob.proofs.Together.{Left}
use Rattle.hg_glob.proofs.globs.may_stand.Given as goal

abbrev pub invariant-loop-line : goal.invariant-loop-line
invariant-loop-line l = Left l.lines l.path l.line-index
