use Rattle.std.proofs.Common.{subst, sym}
use Rattle.hg_alone.specs.Alone.{files_of}
use Rattle.hg_gen.specs.Manifest.{IsManifest}
use Rattle.hg_gen.specs.Recorded.{IsStored}
use Rattle.hg_gen.proofs.Keeping.{stored_so}
use Rattle.hg_gen.proofs.storing.stored.Goals as goal

pub returns-clause-files : goal.returns-clause-files
returns-clause-files c =
    subst (λ memory. IsStored c.args.dirs (files_of memory)) (sym c.files.ensures.same)
    (stored_so c.args.dirs c.in_ok-encoded.encoded c.as_slice.result.now (files_of c.in_ok-shelf.shelf.shelf) (files_of c.put_record.new.shelf.shelf) c.in_ok-encoded.ensures
    (subst (IsManifest c.args.dirs) (sym c.as_slice.ensures.value) c.in_ok-manifest.ensures) c.in_ok-shelf.ensures.files c.in_ok-shelf.ensures.only c.in_ok-put_record.ensures.files)
