use Rattle.std.proofs.Common.{◌≡◌, ◌++◌, map, take}
use Rattle.hg_race.specs.Edit.{row_of}
use Rattle.hg_race.proofs.edits.Edits.add.Given as goal

abbrev pub invariant-loop-edit : goal.invariant-loop-edit
invariant-loop-edit l = l.self ≡ l.initial.self ++ map row_of (take l.edit-index l.more)
