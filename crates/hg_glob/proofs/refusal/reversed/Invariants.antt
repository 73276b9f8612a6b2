use Rattle.std.proofs.Common.{◌≡◌, drop}
use Rattle.hg_glob.specs.Refusal.{reversed}
use Rattle.hg_glob.proofs.refusal.reversed.Given as goal

abbrev pub invariant-loop-part : goal.invariant-loop-part
invariant-loop-part l = reversed (drop l.part-index l.parts) ≡ reversed l.parts
