use Rattle.std.proofs.Common.{◌≡◌}
use Rattle.std.specs.Str.Iter.{chars_rest}
use Rattle.std.specs.Iterator.Adapters.{rev_source}
use Rattle.hg_glob.proofs.Masks.{CharsBack}
use Rattle.hg_glob.proofs.short.Short.read.Given as goal

abbrev pub invariant-loop-c : goal.invariant-loop-c
invariant-loop-c l = record { read : l.self ≡ l.yielded; back : CharsBack l.path (chars_rest (rev_source l.c-iterator)) l.yielded }
