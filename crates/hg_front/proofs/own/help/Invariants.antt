use Rattle.std.proofs.Common.{◌≡◌, ◌++◌, map, take, string_bytes}
use Rattle.std.specs.List.{flat_map}
use Rattle.hg_words.specs.Help.{help_of}
use Rattle.hg_front.specs.Words.{help_head, row_text}
use Rattle.hg_front.proofs.own.help.Given as goal

-- the lines so far stand behind the first
abbrev pub invariant-loop-i : goal.invariant-loop-i
invariant-loop-i l = string_bytes l.text ≡ help_head ++ flat_map row_text (map help_of (take l.i l.rows))
