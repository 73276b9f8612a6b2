use Rattle.std.proofs.Common.{sym}
use Rattle.std.proofs.lemmas.Result.{on_ok_weaker}
use Rattle.hg_docket.specs.Docket as docket
use Rattle.hg_mixed.specs.Parted.{image_rows}
use Rattle.hg_mixed.proofs.Freed.{below_free, path_free}
use Rattle.hg_mixed.proofs.Moving.{moved_trans}
use Rattle.hg_mixed.proofs.taking.+taking.Goals as goal

pub take_above-returns-in-Some-clause-free : goal.take_above-returns-in-Some-clause-free
take_above-returns-in-Some-clause-free t c = on_ok_weaker c.take_for.result
    (λ free. below_free c.take_for.new.left c.in-Some.dir.text.now c.args.path.text.now c.in-Some.dir.is_path c.args.path.is_path (sym c.in-Some.ensures.parent) free)
    c.take_for.ensures.free

pub take_for-returns-clause-moved : goal.take_for-returns-clause-moved
take_for-returns-clause-moved t c =
    moved_trans (docket.view c.args.image.docket) (image_rows c.args.image) c.args.left.now c.args.memory.now c.take_above.new.left c.take_above.new.memory c.take.new.left c.take.new.memory
    c.take_above.ensures.moved c.take.ensures.moved

pub take_for-returns-clause-free : goal.take_for-returns-clause-free
take_for-returns-clause-free t c = on_ok_weaker c.take.result
    (λ out. path_free c.take_above.new.left c.take.new.left c.args.path.text.now c.in_ok-take_above.ensures.free out)
    c.take.ensures.out
