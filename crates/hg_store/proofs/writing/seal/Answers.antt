use Rattle.hg_store.proofs.Leading.{on_ok}
use Rattle.hg_store.proofs.Laying.{sealed_leads, sync_sure}
use Rattle.hg_store.proofs.writing.seal.Goals as goal

pub returns-clause-proceeds : goal.returns-clause-proceeds
returns-clause-proceeds g c = record { goes = c.sync.ensures.kept; ours = c.sync.ensures.ours; locks = c.sync.ensures.unasked.locks }

pub returns-clause-leads : goal.returns-clause-leads
returns-clause-leads g c = λ alone. sealed_leads _ _ alone (returns-clause-proceeds g c) c.sync.result (c.sync.ensures.synced alone.calm.told) c.sync.ensures.unsynced

pub returns-clause-sure : goal.returns-clause-sure
returns-clause-sure g c = λ text alone there. on_ok c.sync.result (λ own. sync_sure text _ _ alone (returns-clause-proceeds g c) own there) (c.sync.ensures.synced alone.calm.told)
