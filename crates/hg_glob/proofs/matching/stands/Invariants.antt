use Rattle.std.specs.Str.Iter.{chars_rest}
use Rattle.std.specs.Iterator.Adapters.{rev_source}
use Rattle.hg_glob.specs.Row.{OffBelow}
use Rattle.hg_glob.proofs.Ends.{ReadBack}
use Rattle.hg_glob.proofs.matching.stands.Given as goal

abbrev pub invariant-loop-c : goal.invariant-loop-c
invariant-loop-c l = record {
  back : ReadBack l.inner l.rooted l.parts l.path l.marks (chars_rest (rev_source l.c-iterator)) l.yielded;
  low : OffBelow l.low l.marks;
}
