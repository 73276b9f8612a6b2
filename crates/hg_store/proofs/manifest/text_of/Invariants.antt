use Rattle.std.proofs.Common.{◌≡◌, take}
use Rattle.hg_store.specs.Rows.{text_of}
use Rattle.hg_store.proofs.manifest.text_of.Given as goal

abbrev pub invariant-loop-i : goal.invariant-loop-i
invariant-loop-i l = l.text.items ≡ text_of (take l.i l.rows)
