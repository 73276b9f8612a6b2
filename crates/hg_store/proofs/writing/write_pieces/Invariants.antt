use Rattle.std.proofs.Common.{◌≡◌, ◌-◌, ◌≤◌, [], length, take}
use Rattle.hg_shelf.specs.Images.{course}
use Rattle.hg_store.specs.Storing.{ButNew, IsAlone, IsLaid, Leads, Proceeds}
use Rattle.hg_store.proofs.writing.write_pieces.Given as goal

abbrev pub invariant-loop-place : goal.invariant-loop-place
invariant-loop-place g l = record {
  proceeds : Proceeds (course (g.S.Shelf.history l.initial.shelf) (g.S.Shelf.images l.initial.shelf)) (course (g.S.Shelf.history l.shelf) (g.S.Shelf.images l.shelf));
  leads : IsAlone (course (g.S.Shelf.history l.initial.shelf) (g.S.Shelf.images l.initial.shelf)) (course (g.S.Shelf.history l.shelf) (g.S.Shelf.images l.shelf))
      → Leads ButNew (course (g.S.Shelf.history l.initial.shelf) (g.S.Shelf.images l.initial.shelf)) (course (g.S.Shelf.history l.shelf) (g.S.Shelf.images l.shelf));
  laid : IsAlone (course (g.S.Shelf.history l.initial.shelf) (g.S.Shelf.images l.initial.shelf)) (course (g.S.Shelf.history l.shelf) (g.S.Shelf.images l.shelf))
      → IsLaid [] (course (g.S.Shelf.history l.initial.shelf) (g.S.Shelf.images l.initial.shelf))
      → IsLaid (take l.place l.text) (course (g.S.Shelf.history l.shelf) (g.S.Shelf.images l.shelf));
  held : g.S.Shelf.held l.shelf ≡ g.S.Shelf.held l.initial.shelf;
  still : g.S.Shelf.faults l.shelf ≡ g.S.Shelf.faults l.initial.shelf;
  within : l.place ≤ length l.text;
}

abbrev pub decreases-loop-place : goal.decreases-loop-place
decreases-loop-place g l = length l.text - l.place
