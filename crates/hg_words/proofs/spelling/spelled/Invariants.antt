use Rattle.std.proofs.Common.{◌≡◌, ◌++◌, drop}
use Rattle.hg_words.specs.Given.{files_of, spelled}
use Rattle.hg_words.proofs.spelling.spelled.Given as goal

-- with the files that are left, the words so far are all
abbrev pub invariant-loop-i : goal.invariant-loop-i
invariant-loop-i l = l.all ++ drop l.i (files_of l.command) ≡ spelled l.command
