use Rattle.std.proofs.Common.{ap}
use Rattle.hg_shelf.specs.Rules.{content}
use Rattle.hg_store.specs.Storing.{ButNew}
use Rattle.hg_store.proofs.Leading.{alone_first, alone_second, leads_on, proceeds_trans}
use Rattle.hg_store.proofs.Laying.{but_trans}
use Rattle.hg_store.proofs.taking.write_file.Goals as goal

pub returns-in-Err-clause-proceeds : goal.returns-in-Err-clause-proceeds
returns-in-Err-clause-proceeds g c = proceeds_trans c.clear.ensures.proceeds c.copy.ensures.proceeds

pub returns-in-Err-clause-leads : goal.returns-in-Err-clause-leads
returns-in-Err-clause-leads g c = leads_on ButNew but_trans c.clear.ensures.proceeds c.copy.ensures.proceeds c.clear.ensures.leads c.copy.ensures.leads

pub returns-in-Ok-None-clause-proceeds : goal.returns-in-Ok-None-clause-proceeds
returns-in-Ok-None-clause-proceeds g c = proceeds_trans c.clear.ensures.proceeds c.copy.ensures.proceeds

pub returns-in-Ok-None-clause-leads : goal.returns-in-Ok-None-clause-leads
returns-in-Ok-None-clause-leads g c = leads_on ButNew but_trans c.clear.ensures.proceeds c.copy.ensures.proceeds c.clear.ensures.leads c.copy.ensures.leads

pub returns-in-Err-finish-clause-proceeds : goal.returns-in-Err-finish-clause-proceeds
returns-in-Err-finish-clause-proceeds g c = proceeds_trans c.clear.ensures.proceeds (proceeds_trans c.copy.ensures.proceeds c.finish.ensures.proceeds)

pub returns-in-Err-finish-clause-leads : goal.returns-in-Err-finish-clause-leads
returns-in-Err-finish-clause-leads g c =
    leads_on ButNew but_trans c.clear.ensures.proceeds (proceeds_trans c.copy.ensures.proceeds c.finish.ensures.proceeds) c.clear.ensures.leads
    (leads_on ButNew but_trans c.copy.ensures.proceeds c.finish.ensures.proceeds c.copy.ensures.leads c.finish.ensures.leads)

pub returns-in-Ok-clause-proceeds : goal.returns-in-Ok-clause-proceeds
returns-in-Ok-clause-proceeds g c = proceeds_trans c.clear.ensures.proceeds (proceeds_trans c.copy.ensures.proceeds c.finish.ensures.proceeds)

pub returns-in-Ok-clause-leads : goal.returns-in-Ok-clause-leads
returns-in-Ok-clause-leads g c =
    leads_on ButNew but_trans c.clear.ensures.proceeds (proceeds_trans c.copy.ensures.proceeds c.finish.ensures.proceeds) c.clear.ensures.leads
    (leads_on ButNew but_trans c.copy.ensures.proceeds c.finish.ensures.proceeds c.copy.ensures.leads c.finish.ensures.leads)

pub returns-in-Ok-clause-written : goal.returns-in-Ok-clause-written
returns-in-Ok-clause-written g c =
    let copied = rw c.in-Ok-Some.field-0-is at c.in-Ok-Some.ensures.copied in
    let p = c.clear.ensures.proceeds in
    let q = c.copy.ensures.proceeds in
    let r = c.finish.ensures.proceeds in (
      copied.0,
      copied.2,
      copied.1.long,
      c.finalize.ensures copied.0 (copied.1.hashed c.new-hasher.ensures),
      λ alone.
          c.in-Ok.ensures.sure copied.0 (alone_second q (alone_second p alone)) (copied.1.laid (alone_first r (alone_second p alone)) (ap content (c.in_ok-clear.ensures.cleared (alone_first (proceeds_trans q r) alone)).shown)) copied.1.long,
    )
