use Rattle.std.proofs.Common.{◌≡◌, map, take}
use Rattle.clap.specs.Words.{app_of}
use Rattle.hg_words.specs.Clapped as clapped
use Rattle.hg_words.proofs.forms.command.Given as goal

-- the flags so far
abbrev pub invariant-loop-i : goal.invariant-loop-i
invariant-loop-i l = app_of l.command ≡ clapped.with_args l.name (map clapped.flag_arg (clapped.flags_in (take l.i l.flags)))
