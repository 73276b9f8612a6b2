-- What stands in a directory is longer; no path is longer than 65,535 bytes.
use Rattle.std.proofs.Common.{◌+◌, ◌-◌, ◌*◌, length}
use Rattle.std.specs.Option.{option_map}
use Rattle.hg_nodes.specs.Lists.{or_root}
use Rattle.hg_ops.specs.Collected.{AreLeft, path_of}
use Rattle.hg_ops.proofs.paths.+collecting.Given as goal

abbrev pub decreases-add_below : goal.decreases-add_below
decreases-add_below l = 2 * (65536 - length (path_of l.child.now)) + 1

abbrev pub decreases-add_children : goal.decreases-add_children
decreases-add_children l = 2 * (65536 - length (or_root (option_map (λ d. d.text.now) l.dir)))

abbrev pub invariant-add_children-loop-child : goal.invariant-add_children-loop-child
invariant-add_children-loop-child l = AreLeft l.mixed (option_map (λ d. d.text.now) l.dir) l.children l.initial.paths.items l.paths.items

abbrev pub decreases-add_children-loop-child : goal.decreases-add_children-loop-child
decreases-add_children-loop-child l = length l.children
