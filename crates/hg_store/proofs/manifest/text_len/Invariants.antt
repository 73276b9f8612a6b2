use Rattle.std.proofs.Common.{◌≡◌, ◌-◌, ◌^◌, min, length, take}
use Rattle.hg_store.specs.Rows.{text_of}
use Rattle.hg_store.proofs.manifest.text_len.Given as goal

abbrev pub invariant-loop-i : goal.invariant-loop-i
invariant-loop-i l = l.len ≡ min (length (text_of (take l.i l.rows))) (2 ^ 64 - 1)
