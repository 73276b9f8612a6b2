use Rattle.std.proofs.Common.{◌≡◌, ◌-◌, ◌≤◌, length}
use Rattle.std.specs.Prelude.{IsTrue}
use Rattle.hg_shelf.specs.History as shelves
use Rattle.hg_shelf.specs.Images.{Goes, course}
use Rattle.hg_tree.specs.History as trees
use Rattle.hg_compare.specs.Same.{Reads}
use Rattle.hg_compare.specs.Seen.{SeesSame}
use Rattle.hg_compare.proofs.Counting.{IsWhole}
use Rattle.hg_compare.proofs.Theirs.{ReadsUpto}
use Rattle.hg_compare.proofs.comparing.same_bytes.Given as goal

abbrev pub invariant-loop-place : goal.invariant-loop-place
invariant-loop-place g l = record {
  tree : trees.Passes (g.T.Tree.history l.initial.tree) (g.T.Tree.history l.tree);
  shelf : shelves.Passes (g.S.Shelf.history l.initial.shelf) (g.S.Shelf.history l.shelf);
  same : SeesSame
      (record {
        path = l.path.text.now;
        name = l.name;
        tree_old = g.T.Tree.history l.initial.tree;
        tree_new = g.T.Tree.history l.tree;
        shelf_old = g.S.Shelf.history l.initial.shelf;
        shelf_new = g.S.Shelf.history l.shelf;
      })
      l.place;
  whole : IsWhole l.place l.size;
  asked : IsTrue (g.T.Tree.history l.initial.tree).told → Reads l.place l.path.text.now (g.T.Tree.history l.initial.tree) (g.T.Tree.history l.tree);
  shelf_asked : IsTrue (g.S.Shelf.history l.initial.shelf).told → ReadsUpto l.size l.place l.name (g.S.Shelf.history l.initial.shelf) (g.S.Shelf.history l.shelf);
  kept : Goes (course (g.S.Shelf.history l.initial.shelf) (g.S.Shelf.images l.initial.shelf)) (course (g.S.Shelf.history l.shelf) (g.S.Shelf.images l.shelf));
  held : g.S.Shelf.held l.shelf ≡ g.S.Shelf.held l.initial.shelf;
  tree_still : g.T.Tree.faults l.tree ≡ g.T.Tree.faults l.initial.tree;
  shelf_still : g.S.Shelf.faults l.shelf ≡ g.S.Shelf.faults l.initial.shelf;
  within : l.place ≤ l.size;
  mine : length l.mine ≡ 65536;
  theirs : length l.theirs ≡ 65536;
}

abbrev pub decreases-loop-place : goal.decreases-loop-place
decreases-loop-place g l = l.size - l.place
