-- Once the lists above what is left end too, those above all cached directories do.
use Rattle.std.proofs.Common.{ℕ, ◌≡◌, cond, length, List, None}
use Rattle.std.specs.List.{list_any}
use Rattle.hg_base.specs.Within.{is_above}
use Rattle.hg_mixed.specs.Lent.{as_dir, lent_at}
use Rattle.hg_nodes.specs.Times.{AreTimedPaths}
use Rattle.hg_mixed.proofs.lent.end_over.Given as goal

abbrev pub invariant-loop-dir : goal.invariant-loop-dir
invariant-loop-dir l =
    AreTimedPaths l.cached
    × ((dir : List ℕ)
    → cond (list_any (λ t. is_above (as_dir dir) t.0) l.cached) None (lent_at l.lent dir)
    ≡ cond (list_any (λ t. is_above (as_dir dir) t.0) l.memory.times) None (lent_at l.fn.lent dir))

abbrev pub decreases-loop-dir : goal.decreases-loop-dir
decreases-loop-dir l = length l.cached
