use Rattle.hg_store.proofs.Leading.{either, on_ok}
use Rattle.hg_store.proofs.Laying.{remove_leads, removed_cleared}
use Rattle.hg_store.proofs.writing.clear.Goals as goal

pub returns-clause-proceeds : goal.returns-clause-proceeds
returns-clause-proceeds g c = record { goes = c.remove.ensures.kept; ours = c.remove.ensures.ours; locks = c.remove.ensures.unasked.locks }

pub returns-clause-leads : goal.returns-clause-leads
returns-clause-leads g c = λ alone. remove_leads _ _ alone (returns-clause-proceeds g c) (either c.remove.result (c.remove.ensures.removed alone.calm.told) (c.remove.ensures.perhaps alone.calm.told))

pub returns-clause-cleared : goal.returns-clause-cleared
returns-clause-cleared g c = λ alone. on_ok c.remove.result (λ own. removed_cleared _ _ alone (returns-clause-proceeds g c) own) (c.remove.ensures.removed alone.calm.told)
