use Rattle.std.proofs.Common.{◌||◌, ℕ, Bool, List}
use Rattle.std.specs.Map.{keys_of}
use Rattle.hg_mixed.specs.Edits.{IsOfSameImage}
use Rattle.hg_mixed.specs.Held.{Held}
use Rattle.hg_ops.specs.Parents.{entry_by}
use Rattle.hg_ops.specs.Setting.{AreSetting, is_among_first}
use Rattle.hg_ops.proofs.parents.settle_rows.Given as goal

-- the paths so far are as they are wanted
abbrev pub invariant-loop-i : goal.invariant-loop-i
invariant-loop-i l =
    ((old : Held) (done : List ℕ → Bool) → AreSetting (entry_by l.merged l.m1 l.m2) old l.initial.mixed done
    → AreSetting (entry_by l.merged l.m1 l.m2) old l.mixed (λ at. done at || is_among_first l.i (keys_of l.rows) at))
    × IsOfSameImage l.initial.mixed l.mixed
