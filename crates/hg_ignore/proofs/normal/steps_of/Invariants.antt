use Rattle.std.proofs.Common.{◌≡◌, ◌++◌, length, string_bytes}
use denote.Text.{Utf8}
use denote.Shadow.{shadow}
use Rattle.hg_ignore.specs.Normal.{steps_of}
use Rattle.hg_ignore.proofs.normal.steps_of.Given as goal

-- what is put and what is left make all steps
abbrev pub invariant-loop-piece : goal.invariant-loop-piece
invariant-loop-piece l = shadow (Utf8 l.left) × (string_bytes l.steps ++ steps_of l.left ≡ steps_of l.text)

abbrev pub decreases-loop-piece : goal.decreases-loop-piece
decreases-loop-piece l = length l.left
