use Rattle.std.proofs.Common.{◌≡◌, ◌-◌, ◌≤◌, ℕ, List, Some, length, take}
use Rattle.hg_shelf.specs.History.{Passes, now}
use Rattle.hg_shelf.specs.Images.{Goes, course}
use Rattle.hg_store.specs.Standing.{IsStill}
use Rattle.hg_store.specs.Storing.{new_name}
use Rattle.hg_store.proofs.comparing.same_bytes.Given as goal

abbrev pub invariant-loop-place : goal.invariant-loop-place
invariant-loop-place g l = record {
  passes : Passes (g.S.Shelf.history l.initial.shelf) (g.S.Shelf.history l.shelf);
  kept : Goes (course (g.S.Shelf.history l.initial.shelf) (g.S.Shelf.images l.initial.shelf)) (course (g.S.Shelf.history l.shelf) (g.S.Shelf.images l.shelf));
  same : (text bytes : List ℕ) → IsStill (g.S.Shelf.history l.initial.shelf) (g.S.Shelf.history l.shelf)
      → (now (g.S.Shelf.history l.initial.shelf)).files new_name ≡ Some text
      → (now (g.S.Shelf.history l.initial.shelf)).files l.name ≡ Some bytes
      → take l.place text ≡ take l.place bytes;
  held : g.S.Shelf.held l.shelf ≡ g.S.Shelf.held l.initial.shelf;
  quiet : g.S.Shelf.faults l.shelf ≡ g.S.Shelf.faults l.initial.shelf;
  within : l.place ≤ l.size;
  mine : length l.mine ≡ 32768;
  theirs : length l.theirs ≡ 32768;
}

abbrev pub decreases-loop-place : goal.decreases-loop-place
decreases-loop-place g l = l.size - l.place
