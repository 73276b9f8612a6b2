-- What stands in a directory is longer; no path is longer than 65,535 bytes.
use Rattle.std.proofs.Common.{◌+◌, ◌-◌, ◌*◌, length}
use Rattle.std.specs.Option.{option_map}
use Rattle.hg_nodes.specs.Search.{AreLeft}
use Rattle.hg_nodes.proofs.clash.+searching.Given as goal

abbrev pub decreases-tracked_within : goal.decreases-tracked_within
decreases-tracked_within l = 2 * (65536 - length l.path.text.now) + 1

abbrev pub decreases-tracked_below : goal.decreases-tracked_below
decreases-tracked_below l = 2 * (65536 - length l.path.text.now)

abbrev pub invariant-tracked_below-loop-text : goal.invariant-tracked_below-loop-text
invariant-tracked_below-loop-text l = AreLeft l.nodes l.path.text.now l.kids (option_map (λ p. p.text.now) l.least)

abbrev pub decreases-tracked_below-loop-text : goal.decreases-tracked_below-loop-text
decreases-tracked_below-loop-text l = length l.kids
