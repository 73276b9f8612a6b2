-- What stands in a directory is longer; no path is longer than 65,535 bytes.
use Rattle.std.proofs.Common.{◌+◌, ◌-◌, ◌*◌, length}
use Rattle.std.specs.Option.{option_map}
use Rattle.hg_nodes.specs.Lists.{or_root}
use Rattle.hg_mixed.specs.Gathered.{AreLeft}
use Rattle.hg_mixed.specs.Walk.{ListsAreOf, walked}
use Rattle.hg_mixed.proofs.gathered.+gathering.Given as goal

abbrev pub decreases-add_below : goal.decreases-add_below
decreases-add_below l = 3 * (65536 - length l.child.now.path.text.now) + 2

abbrev pub decreases-add_in : goal.decreases-add_in
decreases-add_in l = 3 * (65536 - length l.below.path.text.now) + 1

abbrev pub decreases-add_children : goal.decreases-add_children
decreases-add_children l = 3 * (65536 - length (or_root (option_map (λ d. d.text.now) l.dir)))

abbrev pub invariant-add_children-loop-child : goal.invariant-add_children-loop-child
invariant-add_children-loop-child l = record {
  left : AreLeft l.mixed (option_map (λ d. d.text.now) l.dir) (walked l.children) l.initial.rows.items l.rows.items;
  lists : ListsAreOf l.mixed l.children;
}

abbrev pub decreases-add_children-loop-child : goal.decreases-add_children-loop-child
decreases-add_children-loop-child l = length (walked l.children)
