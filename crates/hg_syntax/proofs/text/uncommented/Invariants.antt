use Rattle.std.proofs.Common.{◌≡◌, ◌++◌, length, string_bytes}
use denote.Text.{Utf8}
use denote.Shadow.{shadow}
use Rattle.hg_syntax.specs.Text.{kept, pieces}
use Rattle.hg_syntax.proofs.text.uncommented.Given as goal

-- what is put and what is left make the line
abbrev pub invariant-loop-front : goal.invariant-loop-front
invariant-loop-front l = shadow (Utf8 l.left) × (string_bytes l.text ++ kept (pieces 35 l.left) ≡ kept (pieces 35 l.line))

abbrev pub decreases-loop-front : goal.decreases-loop-front
decreases-loop-front l = length l.left
