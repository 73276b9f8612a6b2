use Rattle.std.proofs.Common.{◌≡◌, drop}
use Rattle.std.specs.List.{find}
use Rattle.hg_front.specs.Flags as flags
use Rattle.hg_front.proofs.flags.stray_letter.Given as goal

-- each of the letters so far is a flag
abbrev pub invariant-loop-i : goal.invariant-loop-i
invariant-loop-i l = flags.stray_letter (flags.flags_of l.command) l.word ≡ find (flags.is_no_letter (flags.flags_of l.command)) (drop l.i l.word)
