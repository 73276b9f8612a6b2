-- What is left by the steps from here on, from the files so far, is what is left by all.
use Rattle.std.proofs.Common.{◌≡◌, length}
use Rattle.std.specs.BTreeMap.{get_by_text}
use Rattle.hg_shelf.specs.Crash.{picked_by, through}
use Rattle.hg_shelf.specs.Memory.{empty}
use Rattle.hg_shelf.proofs.crash.left.Given as goal

abbrev pub decreases-loop-step : goal.decreases-loop-step
decreases-loop-step l = length l.steps

abbrev pub invariant-loop-step : goal.invariant-loop-step
invariant-loop-step l = through (picked_by l.pick) l.steps (get_by_text l.files) ≡ through (picked_by l.pick) l.fn.steps empty.files
