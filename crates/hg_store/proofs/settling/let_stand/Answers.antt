use Rattle.hg_store.specs.Storing.{ButNew}
use Rattle.hg_store.proofs.Leading.{alone_first, alone_second, leads_trans, on_ok, proceeds_call, proceeds_trans}
use Rattle.hg_store.proofs.Laying.{but_same, but_trans}
use Rattle.hg_store.proofs.Placing.{names_either, stood_stored}
use Rattle.hg_store.proofs.settling.let_stand.Goals as goal

pub returns-clause-proceeds : goal.returns-clause-proceeds
returns-clause-proceeds g c =
    proceeds_trans c.clear.ensures.proceeds (proceeds_call c.sync_names.ensures.kept c.sync_names.ensures.ours c.sync_names.ensures.unasked.locks)

pub returns-clause-leads : goal.returns-clause-leads
returns-clause-leads g c = λ alone.
    let p = c.clear.ensures.proceeds in
    let q = proceeds_call c.sync_names.ensures.kept c.sync_names.ensures.ours c.sync_names.ensures.unasked.locks in
    let second = alone_second p alone in
    leads_trans ButNew but_trans p q (c.clear.ensures.leads (alone_first q alone)) (names_either ButNew but_same _ _ second q c.sync_names.result (c.sync_names.ensures.synced second.calm.told) c.sync_names.ensures.unsynced)

pub returns-clause-stood : goal.returns-clause-stood
returns-clause-stood g c = λ name text alone apart there.
    let p = c.clear.ensures.proceeds in
    let q = proceeds_call c.sync_names.ensures.kept c.sync_names.ensures.ours c.sync_names.ensures.unasked.locks in
    let first = alone_first q alone in
    let second = alone_second p alone in
    on_ok c.sync_names.result (λ names. stood_stored name text _ _ _ second p q (c.clear.ensures.leads first) (c.in_ok-clear.ensures.cleared first) apart there names) (c.sync_names.ensures.synced second.calm.told)
