use Rattle.std.proofs.Common.{◌≡◌, ◌≤◌, ◌*◌, take, length, encode_utf8_all}
use Rattle.hg_glob.proofs.refusal.bytes_before.Given as goal

abbrev pub invariant-loop-c : goal.invariant-loop-c
invariant-loop-c l = record {
  bytes : l.bytes ≡ length (encode_utf8_all (take l.c-index l.front));
  most : l.bytes ≤ 4 * l.c-index;
}
