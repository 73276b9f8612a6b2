use Rattle.std.proofs.Common.{◌≡◌, ◌++◌, drop, map}
use Rattle.hg_words.proofs.reading.given.Given as goal

-- with what is left, the words so far are all
abbrev pub invariant-loop-i : goal.invariant-loop-i
invariant-loop-i l = l.all ++ map (λ word. word.now) (drop l.i l.words) ≡ map (λ word. word.now) l.words
