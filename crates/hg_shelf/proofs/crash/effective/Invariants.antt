-- The steps noted so far and those of the changes from here on are all.
use Rattle.std.proofs.Common.{◌≡◌, ◌++◌, drop}
use Rattle.std.specs.BTreeMap.{get_by_text}
use Rattle.hg_shelf.specs.Crash.{effective, up_to}
use Rattle.hg_shelf.specs.Memory.{empty}
use Rattle.hg_shelf.proofs.crash.effective.Given as goal

abbrev pub invariant-loop-change : goal.invariant-loop-change
invariant-loop-change l = l.steps.items ++ effective (up_to l.call (drop l.change-index l.changes)) (get_by_text l.files) ≡ effective (up_to l.call l.changes) empty.files
