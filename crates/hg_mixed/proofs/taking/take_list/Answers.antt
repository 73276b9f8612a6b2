use Rattle.hg_docket.specs.Docket as docket
use Rattle.hg_mixed.specs.Parted.{IsMoved, image_rows}
use Rattle.hg_mixed.proofs.Freed.{kept_here, kept_still, list_kept, list_lent, list_out, list_some, list_taken, list_there}
use Rattle.hg_mixed.proofs.Moving.{moved_trans}
use Rattle.hg_mixed.proofs.taking.take_list.Goals as goal

pub returns-in_err-keep-clause-moved : goal.returns-in_err-keep-clause-moved
returns-in_err-keep-clause-moved c =
    kept_still (docket.view c.args.image.docket) (image_rows c.args.image) c.args.left.now c.args.memory.now c.keep.new.self c.requires.parted c.in_err-keep.ensures.err c.keep.ensures.rest

pub returns-in_err-lend_kids-clause-moved : goal.returns-in_err-lend_kids-clause-moved
returns-in_err-lend_kids-clause-moved c =
    let noted : IsMoved (docket.view c.args.image.docket) (image_rows c.args.image) c.args.left.now c.args.memory.now c.args.left.now c.keep.new.self =
    list_kept (docket.view c.args.image.docket) (image_rows c.args.image) c.args.list c.args.dir.now c.requires.dir c.args.left.now c.args.memory.now c.requires.parted c.requires.lent c.requires.free
    c.keep.new.self c.in_ok-keep.ensures.ok c.keep.ensures.rest in
    moved_trans (docket.view c.args.image.docket) (image_rows c.args.image) c.args.left.now c.args.memory.now c.args.left.now c.keep.new.self c.lend_kids.new.left c.keep.new.self noted
    (list_lent (docket.view c.args.image.docket) (image_rows c.args.image) c.args.list c.args.dir.now c.requires.dir c.args.left.now c.keep.new.self noted.parted c.requires.lent c.requires.free
    c.lend_kids.new.left c.lend_kids.ensures.lends)

pub add_kids-requires : goal.add_kids-requires
add_kids-requires c =
    let noted : IsMoved (docket.view c.args.image.docket) (image_rows c.args.image) c.args.left.now c.args.memory.now c.args.left.now c.keep.new.self =
    list_kept (docket.view c.args.image.docket) (image_rows c.args.image) c.args.list c.args.dir.now c.requires.dir c.args.left.now c.args.memory.now c.requires.parted c.requires.lent c.requires.free
    c.keep.new.self c.in_ok-keep.ensures.ok c.keep.ensures.rest in
    list_there (docket.view c.args.image.docket) (image_rows c.args.image) c.args.list c.args.dir.now c.requires.dir c.args.left.now c.keep.new.self noted.parted c.requires.lent c.requires.free

pub returns-in_err-add_kids-clause-moved : goal.returns-in_err-add_kids-clause-moved
returns-in_err-add_kids-clause-moved c =
    let noted : IsMoved (docket.view c.args.image.docket) (image_rows c.args.image) c.args.left.now c.args.memory.now c.args.left.now c.keep.new.self =
    list_kept (docket.view c.args.image.docket) (image_rows c.args.image) c.args.list c.args.dir.now c.requires.dir c.args.left.now c.args.memory.now c.requires.parted c.requires.lent c.requires.free
    c.keep.new.self c.in_ok-keep.ensures.ok c.keep.ensures.rest in
    moved_trans (docket.view c.args.image.docket) (image_rows c.args.image) c.args.left.now c.args.memory.now c.args.left.now c.keep.new.self c.lend_kids.new.left c.add_kids.new.self noted
    (list_some (docket.view c.args.image.docket) (image_rows c.args.image) c.args.list c.args.dir.now c.requires.dir c.args.left.now c.keep.new.self noted.parted c.requires.lent c.requires.free
    c.lend_kids.new.left c.lend_kids.ensures.lends c.add_kids.new.self c.in_err-add_kids.ensures.err c.add_kids.ensures.others)

pub returns-clause-moved : goal.returns-clause-moved
returns-clause-moved c =
    let noted : IsMoved (docket.view c.args.image.docket) (image_rows c.args.image) c.args.left.now c.args.memory.now c.args.left.now c.keep.new.self =
    list_kept (docket.view c.args.image.docket) (image_rows c.args.image) c.args.list c.args.dir.now c.requires.dir c.args.left.now c.args.memory.now c.requires.parted c.requires.lent c.requires.free
    c.keep.new.self c.in_ok-keep.ensures.ok c.keep.ensures.rest in
    moved_trans (docket.view c.args.image.docket) (image_rows c.args.image) c.args.left.now c.args.memory.now c.args.left.now c.keep.new.self c.remove.new.self c.add_kids.new.self noted
    (list_taken (docket.view c.args.image.docket) (image_rows c.args.image) c.args.list c.args.dir.now c.requires.dir c.args.left.now c.keep.new.self noted.parted c.requires.lent c.requires.free
    c.lend_kids.new.left c.lend_kids.ensures.lends c.remove.new.self c.remove.ensures c.add_kids.new.self (kept_here c.args.dir.now c.args.list c.args.memory.now.kept c.keep.new.self.kept c.in_ok-keep.ensures.ok)
    c.in_ok-lend_kids.ensures.served c.in_ok-add_kids.ensures.ok c.add_kids.ensures.others)

pub returns-clause-out : goal.returns-clause-out
returns-clause-out c =
    list_out (docket.view c.args.image.docket) (image_rows c.args.image) c.args.list c.args.dir.now c.requires.dir c.args.left.now c.args.memory.now c.requires.parted c.requires.lent c.requires.free
    c.lend_kids.new.left c.lend_kids.ensures.lends c.remove.new.self c.remove.ensures
