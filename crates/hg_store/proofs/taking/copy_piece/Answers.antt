use Rattle.hg_store.proofs.Leading.{leads_same}
use Rattle.hg_store.proofs.Laying.{but_same}
use Rattle.hg_store.specs.Storing.{ButNew}
use Rattle.hg_store.proofs.taking.copy_piece.Goals as goal

pub returns-in-Err-clause-leads : goal.returns-in-Err-clause-leads
returns-in-Err-clause-leads g c = λ alone. leads_same ButNew _ but_same

pub returns-in-Ok-None-clause-leads : goal.returns-in-Ok-None-clause-leads
returns-in-Ok-None-clause-leads g c = λ alone. leads_same ButNew _ but_same

pub returns-in-Err-clause-count : goal.returns-in-Err-clause-count
returns-in-Err-clause-count g c = c.in-Err.ensures.shelf_still (g.S.Shelf.faults c.args.shelf.now)
