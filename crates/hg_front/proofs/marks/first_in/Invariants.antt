use Rattle.std.proofs.Common.{◌≡◌, drop}
use Rattle.std.specs.List.{find}
use Rattle.hg_words.specs.Given.{files_of}
use Rattle.hg_front.specs.Marks.{has}
use Rattle.hg_front.proofs.marks.first_in.Given as goal

-- none of the words so far has it
abbrev pub invariant-loop-i : goal.invariant-loop-i
invariant-loop-i l = find (has l.mark) (files_of l.command) ≡ find (has l.mark) (drop l.i (files_of l.command))
