use Rattle.std.proofs.Common.{◌≡◌, ◌++◌, drop}
use Rattle.hg_ignore.specs.Kept.{patterns_asked, patterns_kept}
use Rattle.hg_ignore.proofs.sets.matchers_of.Given as goal

-- what is asked so far, and the sets that are left
abbrev pub invariant-loop-set : goal.invariant-loop-set
invariant-loop-set l = patterns_asked l.matchers.items ++ patterns_kept (drop l.set-index l.sets) ≡ patterns_kept l.sets
