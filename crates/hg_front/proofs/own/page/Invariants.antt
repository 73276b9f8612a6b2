use Rattle.std.proofs.Common.{codes, ◌≡◌, ◌++◌, map, take, string_bytes}
use Rattle.std.specs.List.{flat_map}
use Rattle.hg_words.specs.Help.{help_of}
use Rattle.hg_front.specs.Words.{row_of}
use Rattle.hg_front.proofs.own.page.Given as goal

-- the lines so far stand behind the first
abbrev pub invariant-loop-i : goal.invariant-loop-i
invariant-loop-i l = string_bytes l.text ≡ codes "Usage:\n" ++ flat_map (row_of l.name) (map help_of (take l.i l.rows))
