use Rattle.std.proofs.Common.{◌≡◌, ◌++◌, drop, map}
use Rattle.hg_words.specs.Told.{from_folder}
use Rattle.hg_words.proofs.spelling.told.Given as goal

-- with what is left, the words so far are all
abbrev pub invariant-loop-i : goal.invariant-loop-i
invariant-loop-i l = l.all ++ map (from_folder l.folder) (drop l.i l.words) ≡ map (from_folder l.folder) l.words
