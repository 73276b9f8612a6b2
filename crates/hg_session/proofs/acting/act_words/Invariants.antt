use Rattle.std.proofs.Common.{◌≡◌, take}
use Rattle.hg_session.specs.Acts.{name, steps_of}
use Rattle.hg_session.specs.declared.acting.Changing.TheVariants as a_change
use Rattle.hg_session.proofs.KeptLists.{KeepsSoFar, mark_of}
use Rattle.hg_session.proofs.KeptTexts.{TextsSoFar}
use Rattle.hg_session.proofs.SoFar.{Leaves, SoFar}
use Rattle.hg_session.proofs.acting.act_words.Given as goal

-- the words so far were acted on, and the lines are those of them that were refused
abbrev pub invariant-loop-i : goal.invariant-loop-i
invariant-loop-i g l = record {
  unlooked : l.command ≡ a_change.Forget → l.tree ≡ l.initial.tree;
  leaves : Leaves (g.T.Tree.history l.initial.tree) (g.T.Tree.history l.tree);
  so_far : SoFar (name l.command) (steps_of l.command) (g.T.Tree.history l.initial.tree) (g.T.Tree.history l.tree) (take l.i l.words) l.initial.mixed l.mixed l.lines.items
      (g.T.Tree.faults l.initial.tree) (g.T.Tree.faults l.tree);
  keeps : KeepsSoFar (mark_of l.command) l.initial.mixed l.mixed;
  texts : TextsSoFar (mark_of l.command) l.initial.mixed l.mixed;
}
