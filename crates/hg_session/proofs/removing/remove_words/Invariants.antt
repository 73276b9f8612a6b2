use Rattle.std.proofs.Common.{◌≡◌, ◌⊎◌, false, take, codes}
use Rattle.hg_mixed.specs.Held.{table}
use Rattle.hg_ops.specs.Parent.{KeepsParent}
use Rattle.hg_session.specs.Acts.{IsMadeInFront, NeedsSome, OnlyTakes, TakesAway, span_of}
use Rattle.hg_shelf.specs.Images.{Goes, course}
use Rattle.hg_session.proofs.KeptLists.{KeepsSoFar}
use Rattle.hg_session.proofs.KeptTexts.{TextsSoFar}
use Rattle.hg_session.proofs.SoFar.{SoFar}
use Rattle.hg_session.proofs.removing.remove_words.Given as goal

-- the words so far were acted on, and the lines are those of them that were refused; the parent is kept over what was read so far
abbrev pub invariant-loop-i : goal.invariant-loop-i
invariant-loop-i g l = record {
  so_far : SoFar (codes "remove") (TakesAway l.after (span_of (table l.initial.mixed) (g.S.Shelf.history l.initial.shelf) (g.S.Shelf.history l.shelf))) (g.T.Tree.history l.initial.tree) (g.T.Tree.history l.tree)
      (take l.i l.words) l.initial.mixed l.mixed l.lines.items (g.T.Tree.faults l.initial.tree) (g.T.Tree.faults l.tree);
  lends : KeepsSoFar false l.initial.mixed l.mixed;
  texts : TextsSoFar false l.initial.mixed l.mixed;
  keeps : KeepsParent (span_of (table l.initial.mixed) (g.S.Shelf.history l.initial.shelf) (g.S.Shelf.history l.shelf)) l.parent;
  front : IsMadeInFront (take l.i l.words) (table l.initial.mixed) (g.T.Tree.history l.initial.tree) (g.T.Tree.history l.tree) (table l.mixed);
  takes : OnlyTakes l.after l.words (table l.initial.mixed) (record { old = g.T.Tree.history l.initial.tree; new = g.T.Tree.history l.tree; before = g.T.Tree.faults l.initial.tree; after = g.T.Tree.faults l.tree });
  needed : ((g.S.Shelf.history l.shelf).asked ≡ (g.S.Shelf.history l.initial.shelf).asked)
      ⊎ NeedsSome l.after l.words (table l.initial.mixed) (record { old = g.T.Tree.history l.initial.tree; new = g.T.Tree.history l.tree; before = g.T.Tree.faults l.initial.tree; after = g.T.Tree.faults l.tree });
  kept : Goes (course (g.S.Shelf.history l.initial.shelf) (g.S.Shelf.images l.initial.shelf)) (course (g.S.Shelf.history l.shelf) (g.S.Shelf.images l.shelf));
  held : g.S.Shelf.held l.shelf ≡ g.S.Shelf.held l.initial.shelf;
  count : g.S.Shelf.faults l.shelf ≡ g.S.Shelf.faults l.initial.shelf;
}
