-- What stands in a directory is longer; no path is longer than 65,535 bytes.
use Rattle.std.proofs.Common.{◌≡◌, ◌+◌, ◌-◌, ◌*◌, length}
use Rattle.std.specs.Option.{option_map}
use Rattle.hg_mixed.specs.Walk.{ListsAreOf, walked}
use Rattle.hg_append.specs.Keeps.{keeps_by}
use Rattle.hg_append.specs.Put.{IsPutPart, base_in}
use Rattle.hg_append.proofs.Steps.{dir_length}
use Rattle.hg_append.proofs.lists.+putting.Given as goal

abbrev pub decreases-put_child : goal.decreases-put_child
decreases-put_child l = 3 * (65536 - length l.child.now.path.text.now) + 2

abbrev pub decreases-put_below : goal.decreases-put_below
decreases-put_below l = 3 * (65536 - length l.below.path.text.now) + 1

abbrev pub decreases-put_list : goal.decreases-put_list
decreases-put_list l = 3 * (65536 - dir_length (option_map (λ d. d.text.now) l.dir))

abbrev pub invariant-put_list-loop-child : goal.invariant-put_list-loop-child
invariant-put_list-loop-child l = record {
  part : IsPutPart l.mixed (keeps_by l.mixed l.way) (option_map (λ d. d.text.now) l.dir) l.at (walked l.children) l.sums l.fn.bytes.items l.bytes.items l.fn.records.items l.records.items;
  lists : ListsAreOf l.mixed l.children;
  base : l.base_at ≡ base_in (option_map (λ d. d.text.now) l.dir);
  from : l.from ≡ length l.fn.records.items;
}

abbrev pub decreases-put_list-loop-child : goal.decreases-put_list-loop-child
decreases-put_list-loop-child l = length (walked l.children)
