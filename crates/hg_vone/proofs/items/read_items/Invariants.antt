use Rattle.std.proofs.Common.{ℕ, ◌≡◌, ◌-◌, List, map, length}
use Rattle.std.specs.BTreeSet.{contains_text}
use Rattle.hg_vone.specs.Items.{has_path}
use Rattle.hg_vone.specs.View.{item}
use Rattle.hg_vone.proofs.Reading.{SoFar}
use Rattle.hg_vone.proofs.items.read_items.Given as goal

abbrev pub invariant-loop-at : goal.invariant-loop-at
invariant-loop-at l = record {
  so_far : SoFar l.bytes l.at (map item l.items.items);
  seen : (q : List ℕ) → contains_text l.paths q ≡ has_path (map item l.items.items) q;
}

abbrev pub decreases-loop-at : goal.decreases-loop-at
decreases-loop-at l = length l.bytes - l.at
