use Rattle.std.proofs.Common.{◌≡◌, ◌-◌, ◌≤◌, drop, length}
use Rattle.hg_tree.specs.History.{Passes}
use Rattle.hg_include.specs.Reading.{tasks_of}
use Rattle.hg_include.specs.Steps.{LeadsOn}
use Rattle.hg_include.proofs.reading.+read_lines.Given as goal

-- each file more is one of so many
abbrev pub decreases-read_lines : goal.decreases-read_lines
decreases-read_lines g l = l.limit - length l.pieces.now.pieces

-- the lines so far were read
abbrev pub invariant-loop-line : goal.invariant-loop-line
invariant-loop-line g l = record {
  passes : Passes (g.T.Tree.history l.initial.tree) (g.T.Tree.history l.tree);
  goes : LeadsOn l.most l.limit (g.T.Tree.history l.initial.tree) (g.T.Tree.history l.tree) l.initial.pieces l.pieces (tasks_of l.opened.target l.opened.lines.items)
      (tasks_of l.opened.target (drop l.line-index l.opened.lines.items));
  grows : length l.initial.pieces.pieces ≤ length l.pieces.pieces;
  still : g.T.Tree.faults l.tree ≡ g.T.Tree.faults l.initial.tree;
}
