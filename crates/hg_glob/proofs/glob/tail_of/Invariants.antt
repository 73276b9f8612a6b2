use Rattle.std.proofs.Common.{◌≡◌, take, [], encode_utf8_all, string_bytes}
use Rattle.hg_glob.specs.Part.{tail_from}
use Rattle.hg_glob.proofs.glob.tail_of.Given as goal

abbrev pub invariant-loop-part : goal.invariant-loop-part
invariant-loop-part l = string_bytes l.tail ≡ encode_utf8_all (tail_from [] (take l.part-index l.parts))
