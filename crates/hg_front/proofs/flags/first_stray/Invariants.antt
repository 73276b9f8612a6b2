use Rattle.std.proofs.Common.{◌≡◌, drop}
use Rattle.std.specs.List.{find}
use Rattle.hg_front.specs.Flags as flags
use Rattle.hg_front.proofs.flags.first_stray.Given as goal

-- each of the words so far is made of flags, or is none
abbrev pub invariant-loop-i : goal.invariant-loop-i
invariant-loop-i l = find (flags.is_stray (flags.flags_of l.command)) (drop 1 l.words) ≡ find (flags.is_stray (flags.flags_of l.command)) (drop l.i l.words)
