use Rattle.std.proofs.Common.{◌≡◌, ◌-◌, ◌≤◌, ℕ, List, length}
use Rattle.hg_shelf.specs.Images.{course}
use Rattle.hg_tree.specs.History.{Passes}
use Rattle.hg_store.specs.Storing.{ButNew, IsAlone, Leads, Proceeds}
use Rattle.hg_store.specs.Taking.{Copies}
use Rattle.hg_store.proofs.taking.copy.Given as goal

abbrev pub invariant-loop-place : goal.invariant-loop-place
invariant-loop-place g l = record {
  passes : Passes (g.T.Tree.history l.initial.tree) (g.T.Tree.history l.tree);
  tree_still : g.T.Tree.faults l.tree ≡ g.T.Tree.faults l.initial.tree;
  copied : (text : List ℕ)
      × Copies l.path.text.now text (g.T.Tree.history l.initial.tree) (g.T.Tree.history l.tree) (course (g.S.Shelf.history l.initial.shelf) (g.S.Shelf.images l.initial.shelf))
      (course (g.S.Shelf.history l.shelf) (g.S.Shelf.images l.shelf)) l.initial.hasher l.hasher l.place;
  proceeds : Proceeds (course (g.S.Shelf.history l.initial.shelf) (g.S.Shelf.images l.initial.shelf)) (course (g.S.Shelf.history l.shelf) (g.S.Shelf.images l.shelf));
  leads : IsAlone (course (g.S.Shelf.history l.initial.shelf) (g.S.Shelf.images l.initial.shelf)) (course (g.S.Shelf.history l.shelf) (g.S.Shelf.images l.shelf))
      → Leads ButNew (course (g.S.Shelf.history l.initial.shelf) (g.S.Shelf.images l.initial.shelf)) (course (g.S.Shelf.history l.shelf) (g.S.Shelf.images l.shelf));
  held : g.S.Shelf.held l.shelf ≡ g.S.Shelf.held l.initial.shelf;
  shelf_still : g.S.Shelf.faults l.shelf ≡ g.S.Shelf.faults l.initial.shelf;
  within : l.place ≤ l.size;
  room : length l.room ≡ 65536;
}

abbrev pub decreases-loop-place : goal.decreases-loop-place
decreases-loop-place g l = l.size - l.place
