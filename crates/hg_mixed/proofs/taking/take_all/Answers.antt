use Rattle.hg_docket.specs.Docket as docket
use Rattle.hg_mixed.specs.Parted.{image_rows}
use Rattle.hg_mixed.proofs.Freed.{image_bared, moved_end}
use Rattle.hg_mixed.proofs.Lifted.{moved_itself}
use Rattle.hg_mixed.proofs.Moving.{moved_trans}
use Rattle.hg_mixed.proofs.taking.take_all.Goals as goal

pub returns-then-is_empty-clause-moved : goal.returns-then-is_empty-clause-moved
returns-then-is_empty-clause-moved c = moved_itself _ _ _ _ c.requires

pub returns-clause-moved : goal.returns-clause-moved
returns-clause-moved c =
    moved_trans (docket.view c.args.image.docket) (image_rows c.args.image) c.args.left.now c.args.memory.now c.take_whole.new.left c.take_whole.new.memory c.clear.new.self c.take_whole.new.memory
    c.take_whole.ensures.moved
    (moved_end (docket.view c.args.image.docket) (image_rows c.args.image) c.take_whole.new.left c.take_whole.new.memory c.take_whole.ensures.moved.parted c.stays_formed.ensures
    (image_bared c.args.image c.root.result c.take_whole.new.left c.root.ensures.rows c.in_ok-take_whole.ensures.bared) c.clear.new.self c.clear.ensures.none c.clear.ensures.bare)
