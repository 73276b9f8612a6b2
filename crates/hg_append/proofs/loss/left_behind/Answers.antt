use Rattle.hg_append.proofs.Losses.{root_of_image}
use Rattle.hg_append.proofs.loss.left_behind.Goals as goal

pub loss_in-now-requires-clause-of : goal.loss_in-now-requires-clause-of
loss_in-now-requires-clause-of c = root_of_image c.args.mixed.now c.image-image.result c.root.result c.image-image.ensures.docket c.image-image.ensures.bytes c.root.ensures.rows c.root.ensures.dir
