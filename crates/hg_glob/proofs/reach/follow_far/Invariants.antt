use Rattle.std.proofs.Common.{◌≤◌, ◌-◌, ◌≡◌, List, ℕ, reverse}
use Rattle.hg_glob.specs.Kept.{HasEnd}
use Rattle.hg_glob.specs.Reach.{reach_at, ReachesAre}
use Rattle.hg_glob.proofs.reach.follow_far.Given as goal

abbrev pub invariant-on : goal.invariant-on
invariant-on l = record {
  few : l.k ≤ 63;
  here : reach_at l.reaches l.k ≡ l.reach;
  all : (path : List ℕ) → HasEnd path (reverse l.short) → ReachesAre path l.short l.parts l.from l.fn.reaches → ReachesAre path l.short l.parts l.k l.reaches;
}

abbrev pub decreases-on : goal.decreases-on
decreases-on l = l.most - l.k
