use Rattle.std.proofs.Common.{◌≡◌, take}
use Rattle.hg_docket.specs.Number.{hex_value}
use Rattle.hg_docket.proofs.number.hex_value.Given as goal

abbrev pub invariant-loop-b : goal.invariant-loop-b
invariant-loop-b l = l.value ≡ hex_value (take l.b-index l.digits)
