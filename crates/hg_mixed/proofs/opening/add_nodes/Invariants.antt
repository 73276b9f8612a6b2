use Rattle.hg_mixed.specs.Taken.{AddsNodes}
use Rattle.hg_nodes.specs.Adding.{AreOthersKept}
use Rattle.hg_mixed.proofs.opening.add_nodes.Given as goal

-- the nodes so far were taken
abbrev pub invariant-loop-i : goal.invariant-loop-i
invariant-loop-i l = record {
  nodes : AddsNodes l.list l.i l.fn.memory.rows l.fn.memory.times l.memory.rows l.memory.times;
  others : AreOthersKept l.fn.memory l.memory;
}
