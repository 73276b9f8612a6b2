use Rattle.std.proofs.Common.{◌≡◌, ◌≤◌, ◌-◌}
use Rattle.hg_cli.specs.Said.{plainly}
use Rattle.hg_cli.specs.Script.{ServesTurn}
use Rattle.hg_cli.specs.Seen.{seen}
use Rattle.hg_lines.proofs.Turning.{Going}
use Rattle.hg_cli.proofs.script.script.Given as goal

-- the turns so far, within what a script may have
abbrev pub invariant-loop-lines : goal.invariant-loop-lines
invariant-loop-lines g l = record {
  going : Going
      (ServesTurn
      (plainly
      (seen
      (record {
        tree = g.T.Tree.history;
        tree_faults = g.T.Tree.faults;
        shelf = g.S.Shelf.history;
        images = g.S.Shelf.images;
        shelf_faults = g.S.Shelf.faults;
        held = g.S.Shelf.held;
        oversize = g.G.Regexps.oversize;
        out = g.O.Sink.bytes;
        out_faults = g.O.Sink.faults;
        err = g.E.Sink.bytes;
        err_faults = g.E.Sink.faults;
      }))))
      (g.I.Source.left l.initial.input)
      (l.initial.tree, l.initial.shelf, l.initial.regexps, l.initial.out, l.initial.err)
      (l.tree, l.shelf, l.regexps, l.out, l.err)
      l.status
      l.lines
      (g.I.Source.left l.input);
  low : l.lines.before ≤ 67108864;
  quiet : g.I.Source.faults l.input ≡ g.I.Source.faults l.initial.input;
}

abbrev pub decreases-loop-lines : goal.decreases-loop-lines
decreases-loop-lines g l = 67108864 - l.lines.before
