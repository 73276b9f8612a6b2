use Rattle.std.proofs.Common.{◌≡◌, ◌++◌, take}
use Rattle.hg_shelf.specs.Memory.{coming_of}
use Rattle.hg_shelf.proofs.due.make_due.Given as goal

abbrev pub invariant-loop-one : goal.invariant-loop-one
invariant-loop-one l = l.log ≡ l.initial.log ++ coming_of l.call l.ours (take l.one-index l.due)
