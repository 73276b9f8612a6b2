use Rattle.std.proofs.Common.{◌≡◌}
use Rattle.hg_alone.specs.Alone.{files_of}
use Rattle.hg_gen.specs.Recorded.{AreContents, AreOnlyContents}
use Rattle.hg_gen.proofs.storing.put_all.Given as goal

-- the contents so far
abbrev pub invariant-loop-file : goal.invariant-loop-file
invariant-loop-file l = record {
  files : AreContents l.file (files_of l.shelf.shelf);
  only : AreOnlyContents l.file (files_of l.shelf.shelf);
  refusals : l.shelf.shelf.refusals ≡ 0;
}
