use Rattle.std.proofs.Common.{◌≡◌, ◌++◌, drop, encode_utf8_all, string_bytes}
use Rattle.hg_glob.specs.Part.{head_of}
use Rattle.hg_glob.proofs.glob.head_of.Given as goal

abbrev pub invariant-loop-part : goal.invariant-loop-part
invariant-loop-part l = string_bytes l.head ++ encode_utf8_all (head_of (drop l.part-index l.parts)) ≡ encode_utf8_all (head_of l.parts)
