-- The steps so far don't decide it.
use Rattle.std.proofs.Common.{◌≡◌, drop}
use Rattle.hg_shelf.specs.Crash.{are_names_sure_by}
use Rattle.hg_shelf.proofs.crash.are_names_sure_by.Given as goal

abbrev pub invariant-loop-step : goal.invariant-loop-step
invariant-loop-step l = are_names_sure_by (drop l.step-index l.steps) ≡ are_names_sure_by l.steps
