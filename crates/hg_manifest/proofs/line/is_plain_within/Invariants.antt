use Rattle.std.proofs.Common.{◌≡◌, ◌&&◌, ◌-◌, true, drop, take}
use Rattle.hg_manifest.specs.Front.{is_plain_front}
use Rattle.hg_manifest.proofs.line.is_plain_within.Given as goal

abbrev pub invariant-loop-b : goal.invariant-loop-b
invariant-loop-b l = record {
  counted : l.at ≡ l.b-index;
  so_far : is_plain_front true (take l.len l.window) ≡ (l.plain && is_plain_front l.begins (take (l.len - l.b-index) (drop l.b-index l.window)));
}
