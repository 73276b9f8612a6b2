use Rattle.std.proofs.Common.{◌≡◌, ◌&&◌, true, drop}
use Rattle.hg_manifest.specs.Front.{is_plain_front}
use Rattle.hg_manifest.proofs.line.is_plain_front.Given as goal

abbrev pub invariant-loop-b : goal.invariant-loop-b
invariant-loop-b l = is_plain_front true l.bytes ≡ (l.plain && is_plain_front l.begins (drop l.b-index l.bytes))
