use Rattle.std.proofs.Common.{◌≡◌, drop, false}
use Rattle.hg_syntax.specs.Text.{odd_from}
use Rattle.hg_syntax.proofs.text.is_escaping.Given as goal

abbrev pub invariant-loop-b : goal.invariant-loop-b
invariant-loop-b l = odd_from l.odd (drop l.b-index l.text) ≡ odd_from false l.text
