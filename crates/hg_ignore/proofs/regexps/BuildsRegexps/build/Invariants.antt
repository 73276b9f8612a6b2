use Rattle.std.proofs.Common.{◌≡◌}
use Rattle.hg_ignore.proofs.regexps.BuildsRegexps.build.Given as goal

-- nothing is counted so far
abbrev pub invariant-loop-size : goal.invariant-loop-size
invariant-loop-size l = l.self.oversize ≡ l.initial.self.oversize
