-- What stands in a directory is longer; no path is longer than 65,535 bytes.
use Rattle.std.proofs.Common.{◌+◌, ◌-◌, ◌*◌, length}
use Rattle.std.specs.Option.{option_map}
use Rattle.hg_nodes.specs.Lists.{or_root}
use Rattle.hg_mixed.specs.Cached.{AreBare}
use Rattle.hg_mixed.specs.Walk.{ListsAreOf, walked}
use Rattle.hg_mixed.proofs.cached.+looking.Given as goal

abbrev pub decreases-has_within : goal.decreases-has_within
decreases-has_within l = 3 * (65536 - length l.child.now.path.text.now) + 2

abbrev pub decreases-has_below : goal.decreases-has_below
decreases-has_below l = 3 * (65536 - length l.below.path.text.now) + 1

abbrev pub decreases-has_in : goal.decreases-has_in
decreases-has_in l = 3 * (65536 - length (or_root (option_map (λ d. d.text.now) l.dir)))

abbrev pub invariant-has_in-loop-child : goal.invariant-has_in-loop-child
invariant-has_in-loop-child l = record {
  bare : AreBare l.mixed (option_map (λ d. d.text.now) l.dir) (walked l.children);
  lists : ListsAreOf l.mixed l.children;
}

abbrev pub decreases-has_in-loop-child : goal.decreases-has_in-loop-child
decreases-has_in-loop-child l = length (walked l.children)
