use Rattle.std.proofs.Common.{◌≡◌, ◌-◌, ◌≤◌, length}
use Rattle.hg_server.specs.Requests.{Took, room}
use Rattle.hg_server.proofs.requests.next.Given as goal

-- what was taken, no more than may be, and the source didn't fail
abbrev pub invariant-loop-part : goal.invariant-loop-part
invariant-loop-part g l = record {
  took : Took (g.I.Source.left l.initial.input) (g.I.Source.left l.input) l.part;
  within : length l.part ≤ room l.part;
  quiet : g.I.Source.faults l.input ≡ g.I.Source.faults l.initial.input;
}

abbrev pub decreases-loop-part : goal.decreases-loop-part
decreases-loop-part g l = 1048591 - length l.part
