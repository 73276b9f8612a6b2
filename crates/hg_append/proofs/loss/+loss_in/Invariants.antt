use Rattle.hg_image.specs.View.{dir_of, rows_from}
use Rattle.hg_append.proofs.Losses.{Summed}
use Rattle.hg_append.proofs.loss.+loss_in.Given as goal

abbrev pub decreases-loss_in : goal.decreases-loss_in
decreases-loss_in l = l.list.depth

abbrev pub invariant-loop-i : goal.invariant-loop-i
invariant-loop-i l = Summed l.mixed (dir_of l.list) (rows_from l.list 0) (rows_from l.list l.i) l.sum
