-- The steps so far only gave the file another name.
use Rattle.std.proofs.Common.{◌≡◌, drop}
use Rattle.hg_shelf.specs.Crash.{is_sure_by}
use Rattle.hg_shelf.proofs.crash.is_sure_by.Given as goal

abbrev pub invariant-loop-step : goal.invariant-loop-step
invariant-loop-step l = is_sure_by (drop l.step-index l.steps) l.file ≡ is_sure_by l.steps l.fn.file
