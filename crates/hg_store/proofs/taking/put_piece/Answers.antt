use Rattle.hg_store.proofs.Leading.{leads_same}
use Rattle.hg_store.proofs.Laying.{but_same}
use Rattle.hg_store.specs.Storing.{ButNew}
use Rattle.hg_store.proofs.taking.put_piece.Goals as goal

pub returns-then-is_empty-clause-leads : goal.returns-then-is_empty-clause-leads
returns-then-is_empty-clause-leads g c = λ alone. leads_same ButNew _ but_same
