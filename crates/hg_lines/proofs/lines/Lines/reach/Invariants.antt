use Rattle.std.proofs.Common.{◌≡◌, ◌-◌, length}
use Rattle.hg_lines.specs.Script.{IsStill, all_of}
use Rattle.hg_lines.proofs.lines.Lines.reach.Given as goal

-- all bytes are still to be handed out, and the source didn't fail
abbrev pub invariant-loop-self : goal.invariant-loop-self
invariant-loop-self g l = record {
  still : IsStill l.initial.self l.self;
  all : all_of l.self (g.I.Source.left l.input) ≡ all_of l.initial.self (g.I.Source.left l.initial.input);
  quiet : g.I.Source.faults l.input ≡ g.I.Source.faults l.initial.input;
}

abbrev pub decreases-loop-self : goal.decreases-loop-self
decreases-loop-self g l = 65537 - length l.self.line
