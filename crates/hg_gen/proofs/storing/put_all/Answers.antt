use Rattle.std.proofs.Common.{ap, subst, sym}
use Rattle.hg_alone.specs.Alone.{files_of}
use Rattle.hg_gen.specs.Recorded.{AreOnlyContents}
use Rattle.hg_gen.proofs.Keeping.{no_contents, none_fresh}
use Rattle.hg_shelf.specs.Memory.{Memory}
use Rattle.hg_gen.proofs.storing.put_all.Goals as goal

pub loop-file-init : goal.loop-file-init
loop-file-init c = record {
  files = no_contents (files_of c.in_ok-shelf.shelf.shelf);
  only = subst (λ (m : Memory). AreOnlyContents 0 (files_of m)) (sym c.in_ok-shelf.ensures) none_fresh;
  refusals = ap (λ s. s.refusals) c.in_ok-shelf.ensures;
}
