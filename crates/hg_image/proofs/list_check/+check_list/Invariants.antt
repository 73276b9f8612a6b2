use Rattle.std.proofs.Common.{◌≡◌, ◌+◌, ◌-◌, ◌*◌, ◌/◌, length, None}
use Rattle.std.specs.Prelude.{option_map}
use Rattle.hg_image.specs.Rows.{list_rows, nodes_rows}
use Rattle.hg_image.specs.Tally.{IsFew}
use Rattle.hg_image.specs.Walk.{list_fault, nodes_fault}
use Rattle.hg_image.proofs.Tallies.{Tallied}
use Rattle.hg_image.proofs.Walk.{below}
use Rattle.hg_image.proofs.list_check.+check_list.Given as goal

abbrev pub decreases-check_list : goal.decreases-check_list
decreases-check_list l = l.depth

abbrev pub invariant-loop-i : goal.invariant-loop-i
invariant-loop-i l = record {
  rest : nodes_fault (below (l.depth - 1) l.bytes) l.bytes (option_map (λ d. d.text.now) l.dir) None l.start l.count
      ≡ nodes_fault (below (l.depth - 1) l.bytes) l.bytes (option_map (λ d. d.text.now) l.dir) (option_map (λ b. b.now) l.before) l.at (l.count - l.i);
  place : l.at ≡ l.start + 44 * l.i;
  few : IsFew (length l.bytes / 44) l.sum;
  -- (of a list without fault)
  sums : list_fault l.depth l.bytes (option_map (λ d. d.text.now) l.dir) l.start l.count ≡ None
      → Tallied (length l.bytes / 44) (list_rows l.depth l.bytes l.start l.count) (nodes_rows (list_rows (l.depth - 1) l.bytes) l.bytes l.at (l.count - l.i)) l.sum;
}
