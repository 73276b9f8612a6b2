use Rattle.std.proofs.Common.{◌≡◌, ℕ, List, IsTrue, map, take}
use Rattle.hg_shelf.specs.History as shelves
use Rattle.hg_shelf.specs.Images as images
use Rattle.hg_tree.specs.History as trees
use Rattle.hg_flat.specs.Asked.{AsksReads}
use Rattle.hg_flat.specs.Course.{Proceeds}
use Rattle.hg_flat.specs.Judged.{AddsBy, IsLeftAsked}
use Rattle.hg_flat.specs.Needed.{ReadsPaths}
use Rattle.hg_flat.specs.Parent.{WasAsked, asked_by}
use Rattle.hg_flat.specs.Shown.{flat_in}
use Rattle.hg_flat.proofs.status.add_each.Given as goal

-- the rows of the paths so far stand behind those that were there
abbrev pub invariant-loop-kept : goal.invariant-loop-kept
invariant-loop-kept g l = record {
  goes : Proceeds (record {
    wanted = l.wanted;
    asks = asked_by l.wanted (flat_in l.flat);
    id = l.p1;
    tree_old = g.T.Tree.history l.initial.tree;
    tree_new = g.T.Tree.history l.tree;
    shelf_old = g.S.Shelf.history l.initial.shelf;
    shelf_new = g.S.Shelf.history l.shelf;
  }) l.parent;
  kept : images.Goes (images.course (g.S.Shelf.history l.initial.shelf) (g.S.Shelf.images l.initial.shelf)) (images.course (g.S.Shelf.history l.shelf) (g.S.Shelf.images l.shelf));
  held : g.S.Shelf.held l.shelf ≡ g.S.Shelf.held l.initial.shelf;
  added : (store : shelves.Files) → AddsBy (asked_by l.wanted (flat_in l.flat)) (Unit {0}) (IsLeftAsked store (asked_by l.wanted (flat_in l.flat)) l.p1 (g.T.Tree.history l.tree) (g.T.Tree.history l.initial.tree).last (g.S.Shelf.history l.shelf) (g.S.Shelf.history l.initial.shelf).last)
      store l.p1 (trees.now (g.T.Tree.history l.initial.tree)) l.wanted (take l.kept-index l.flat.rows.items) l.initial.rows.items l.rows.items;
  asked : IsTrue (g.T.Tree.history l.initial.tree).told → AsksReads (WasAsked (asked_by l.wanted (flat_in l.flat)) (g.T.Tree.history l.initial.tree) (g.T.Tree.history l.tree)) (g.T.Tree.history l.initial.tree) (g.T.Tree.history l.tree);
  reads : IsTrue (g.T.Tree.history l.initial.tree).told → ReadsPaths (record {
    wanted = l.wanted;
    asks = asked_by l.wanted (flat_in l.flat);
    id = l.p1;
    tree_old = g.T.Tree.history l.initial.tree;
    tree_new = g.T.Tree.history l.tree;
    shelf_old = g.S.Shelf.history l.initial.shelf;
    shelf_new = g.S.Shelf.history l.shelf;
  }) (map (λ row. row.path) (take l.kept-index l.flat.rows.items));
  unasked : ((path : List ℕ) → WasAsked (asked_by l.wanted (flat_in l.flat)) (g.T.Tree.history l.initial.tree) (g.T.Tree.history l.tree) path → ⊥) → l.shelf ≡ l.initial.shelf;
  still : g.T.Tree.faults l.tree ≡ g.T.Tree.faults l.initial.tree;
  shelf_still : g.S.Shelf.faults l.shelf ≡ g.S.Shelf.faults l.initial.shelf;
}
