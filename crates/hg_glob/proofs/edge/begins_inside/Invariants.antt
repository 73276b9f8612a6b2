use Rattle.std.proofs.Common.{length}
use denote.Text.{Utf8}
use denote.Shadow.{shadow}
use Rattle.hg_glob.proofs.Edges.{BeginsLeft}
use Rattle.hg_glob.proofs.edge.begins_inside.Given as goal

-- what is left is text, and has every place
abbrev pub invariant-loop-left : goal.invariant-loop-left
invariant-loop-left l = shadow (Utf8 l.left) × BeginsLeft l.path l.head l.left

abbrev pub decreases-loop-left : goal.decreases-loop-left
decreases-loop-left l = length l.left
