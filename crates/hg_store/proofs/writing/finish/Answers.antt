use Rattle.hg_store.proofs.Leading.{alone_first, alone_second, leads_trans, proceeds_trans}
use Rattle.hg_store.proofs.Laying.{but_trans}
use Rattle.hg_store.specs.Storing.{ButNew}
use Rattle.hg_store.proofs.writing.finish.Goals as goal

pub returns-clause-proceeds : goal.returns-clause-proceeds
returns-clause-proceeds g c = proceeds_trans c.fill.ensures.proceeds c.seal.ensures.proceeds

pub returns-clause-leads : goal.returns-clause-leads
returns-clause-leads g c = λ alone.
    leads_trans ButNew but_trans c.fill.ensures.proceeds c.seal.ensures.proceeds (c.fill.ensures.leads (alone_first c.seal.ensures.proceeds alone)) (c.seal.ensures.leads (alone_second c.fill.ensures.proceeds alone))

pub returns-clause-sure : goal.returns-clause-sure
returns-clause-sure g c = λ text alone laid at.
    c.seal.ensures.sure text (alone_second c.fill.ensures.proceeds alone) (c.in_ok-fill.ensures.there text (alone_first c.seal.ensures.proceeds alone) laid at)
