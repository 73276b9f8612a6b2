use Rattle.std.proofs.Common.{◌∙◌, List, ℕ, ap}
use Rattle.std.specs.Prelude.{codes}
use Rattle.std.proofs.lemmas.Result.{on_ok_weaker}
use Rattle.hg_alone.specs.Alone.{files_of}
use Rattle.hg_gen.proofs.Keeping.{put_three}
use Rattle.hg_shelf.specs.Memory.{with_file}
use Rattle.hg_gen.proofs.storing.put_record.Goals as goal

pub returns-clause-files : goal.returns-clause-files
returns-clause-files c =
    on_ok_weaker c.put-3.result
    (λ is.
    put_three c.args.encoded.now c.args.manifest.now (files_of c.args.shelf.now.shelf) (files_of c.put.new.self.shelf) (files_of c.put-2.new.self.shelf) (files_of c.put-3.new.self.shelf)
    c.in_ok-put.ensures.files
    (c.in_ok-put-2.ensures.files
    ∙ ap (λ (bytes : List ℕ). with_file (codes "dirstate.0000000000000000") bytes (files_of c.put.new.self.shelf)) c.as_slice.ensures.value)
    (is ∙ ap (λ (bytes : List ℕ). with_file (codes "dirstate") bytes (files_of c.put-2.new.self.shelf)) c.as_slice-2.ensures.value))
    c.put-3.ensures.files
