use Rattle.std.proofs.Common.{◌≡◌, ℕ, List, IsTrue, take}
use Rattle.hg_entry.specs.Table.{Table}
use Rattle.hg_shelf.specs.History as shelves
use Rattle.hg_shelf.specs.Images as images
use Rattle.hg_tree.specs.History as trees
use Rattle.hg_flat.specs.Asked.{AsksReads}
use Rattle.hg_flat.specs.Course.{Proceeds}
use Rattle.hg_flat.specs.Needed.{ReadsPaths}
use Rattle.hg_flat.specs.Parent.{WasAsked}
use Rattle.hg_mixed.specs.Gathered.{paths_of}
use Rattle.hg_walk.specs.Right.{AreRight}
use Rattle.hg_walk.specs.Telling.{AreNotesOf, AreOf, MarksEach, NotesBehind, TellsEach}
use Rattle.hg_walk.specs.Walking.{asked_unvouched, rows_in, walk_status}
use Rattle.hg_walk.proofs.telling.tell_each.Given as goal

-- of the children so far all is told: for any record that has the children and names the parent
abbrev pub invariant-loop-child : goal.invariant-loop-child
invariant-loop-child g l = record {
  passes : trees.Passes (g.T.Tree.history l.initial.tree) (g.T.Tree.history l.tree);
  passes_shelf : shelves.Passes (g.S.Shelf.history l.initial.shelf) (g.S.Shelf.history l.shelf);
  goes : (t : Table) → AreOf t l.p1 l.children → Proceeds (walk_status l.wanted t (g.T.Tree.history l.initial.tree) (g.T.Tree.history l.tree) (g.S.Shelf.history l.initial.shelf) (g.S.Shelf.history l.shelf)) l.parent;
  kept : images.Goes (images.course (g.S.Shelf.history l.initial.shelf) (g.S.Shelf.images l.initial.shelf)) (images.course (g.S.Shelf.history l.shelf) (g.S.Shelf.images l.shelf));
  held : g.S.Shelf.held l.shelf ≡ g.S.Shelf.held l.initial.shelf;
  added : (t : Table) (store : shelves.Files) → AreOf t l.p1 l.children
      → TellsEach store (AreRight (rows_in t store) t (g.T.Tree.history l.initial.tree) (g.T.Tree.history l.tree))
      (walk_status l.wanted t (g.T.Tree.history l.initial.tree) (g.T.Tree.history l.tree) (g.S.Shelf.history l.initial.shelf) (g.S.Shelf.history l.shelf)) (take l.child-index l.children) l.initial.rows.items l.rows.items;
  marked : MarksEach l.wanted (g.T.Tree.history l.initial.tree) (g.T.Tree.history l.tree) (take l.child-index l.children) l.initial.marks.items l.marks.items;
  noted : NotesBehind
      (λ t more. AreOf t l.p1 l.children
      → AreNotesOf (walk_status l.wanted t (g.T.Tree.history l.initial.tree) (g.T.Tree.history l.tree) (g.S.Shelf.history l.initial.shelf) (g.S.Shelf.history l.shelf)) t l.boundary (take l.child-index l.children) more)
      l.initial.notes l.notes;
  asked : IsTrue (g.T.Tree.history l.initial.tree).told → (t : Table) → AreOf t l.p1 l.children
      → AsksReads (WasAsked (asked_unvouched l.wanted t) (g.T.Tree.history l.initial.tree) (g.T.Tree.history l.tree)) (g.T.Tree.history l.initial.tree) (g.T.Tree.history l.tree);
  reads : IsTrue (g.T.Tree.history l.initial.tree).told → (t : Table) → AreOf t l.p1 l.children
      → ReadsPaths (walk_status l.wanted t (g.T.Tree.history l.initial.tree) (g.T.Tree.history l.tree) (g.S.Shelf.history l.initial.shelf) (g.S.Shelf.history l.shelf)) (paths_of (take l.child-index l.children));
  unasked : (t : Table) → AreOf t l.p1 l.children
      → ((path : List ℕ) → WasAsked (asked_unvouched l.wanted t) (g.T.Tree.history l.initial.tree) (g.T.Tree.history l.tree) path → ⊥) → l.shelf ≡ l.initial.shelf;
  still : g.T.Tree.faults l.tree ≡ g.T.Tree.faults l.initial.tree;
  shelf_still : g.S.Shelf.faults l.shelf ≡ g.S.Shelf.faults l.initial.shelf;
}
